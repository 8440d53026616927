-- Entries that calls add behind those that are pending.
use Rattle.std.proofs.Common.{◌≡◌, inl, inr, ℕ, ◌+◌, ◌-◌, Bool, true, false, List, [], ◌∷◌, ◌++◌, length, min, ◌^◌, Option, None, Result, Ok, Err, refl, ap, ◌∙◌, sym, subst, arith, append_assoc, append-nil, cond}
use Rattle.std.specs.Prelude.{fold, IsErrAnd, IfErr, OnOk, OnErr}
use Rattle.std.proofs.lemmas.Grind.{fold-append}
use Rattle.mail_names.specs.declared.name.ApprovalName.{ApprovalName}
use Rattle.moderation.specs.declared.approval.Verdict.{Verdict}
use Rattle.mail_submission.specs.Submission.{Submitted}
use Rattle.log_entry.specs.declared.entry.Entry.{Entry}
use Rattle.log_entry.specs.declared.entry.Entry.TheVariants as entries
use Rattle.log_entry.specs.EntryText.{entry_text}
use Rattle.plant_dev.specs.Disk.{State, LeavesOnly}
use Rattle.plant_dev.proofs.Offered.{joins, weakens}
use Rattle.queue_disk.specs.declared.fault.LogFault.{LogFault}
use Rattle.queue_disk.specs.declared.fault.LogFault.TheVariants as logs
use Rattle.queue_disk.specs.Log.{log_of, FullAnswer}
use Rattle.hub_core.specs.Setup.{Texts, Setup}
use Rattle.hub_core.specs.Standing.{Standing, start, standing, state_after, now_of, has_room, place_of_same}
use Rattle.queue_store.specs.declared.fault.HubFault.{HubFault}
use Rattle.queue_store.specs.declared.fault.HubFault.TheVariants as faults
use Rattle.queue_store.specs.Faults.{fault_of}
use Rattle.plant_dev.specs.Disk.{Image}
use Rattle.queue_store.specs.Stands.{Stands, MayStand, IsOneOf}
use Rattle.queue_store.specs.Room.{Fits, IsFull}
use Rattle.queue_store.specs.Ready.{Kept, IsReady, IsOpened, Before, Mended, Grows, Adds, Leaves, FailsBy, Fails, FailsLater}
use Rattle.queue_store.specs.Calls.{after_entries, entries_new, entries_submit, entries_decide}
use Rattle.queue_store.specs.Refusals.{RefusedBy, RefusedOrg}
use Rattle.queue_store.specs.Deciding.{RefusedDecision}
use Rattle.queue_store.specs.Planning.{entries_organise}
use Rattle.queue_store.proofs.Settling.{still}

-- nothing is added
pub adds-none : (setup : Setup) (s : State) (hub : Kept) (h t es : List Entry) → es ≡ [] → IsReady setup s hub h t → Adds setup s s hub h t es
adds-none setup s hub h t es none ready =
    subst (λ (xs : List Entry). Adds setup s s hub h t xs) (sym none)
    (record { ready = subst (λ (g : List Entry). IsReady setup s hub h g) (sym (append-nil t)) ready; fits = tt; moments = still setup s hub h t ready })

pub adds-along : (setup : Setup) (s s' : State) (hub : Kept) (h t es es' : List Entry) → es ≡ es' → Adds setup s s' hub h t es → Adds setup s s' hub h t es'
adds-along setup s s' hub h t es es' same adds = subst (λ (xs : List Entry). Adds setup s s' hub h t xs) same adds

pub fails-along : (setup : Setup) (s s' : State) (hub : Kept) (h t es es' : List Entry) (e : HubFault) → es ≡ es' → Fails setup s s' hub h t es e → Fails setup s s' hub h t es' e
fails-along setup s s' hub h t es es' e same fails = subst (λ (xs : List Entry). Fails setup s s' hub h t xs e) same fails

pub later-along : (setup : Setup) (s s' : State) (hub : Kept) (h t es es' : List Entry) (e : HubFault) → es ≡ es' → FailsLater setup s s' hub h t es e → FailsLater setup s s' hub h t es' e
later-along setup s s' hub h t es es' e same fails = subst (λ (xs : List Entry). FailsLater setup s s' hub h t xs e) same fails

-- the state goes on by what was added
pub state-goes : (setup : Setup) (s s' : State) (hub hub' : Kept) (h t es : List Entry) → IsReady setup s hub h t → IsReady setup s' hub' h (t ++ es) → hub'.state ≡ after_entries setup hub.state es
state-goes setup s s' hub hub' h t es before after =
    after.state ∙ ap (standing setup) (sym (append_assoc h t es)) ∙ fold-append (state_after setup) (start setup) (h ++ t) es ∙ ap (λ (st : Standing). fold (state_after setup) st es) (sym before.state)

pub fits-joined : (most : ℕ) (h xs ys : List Entry) → Fits most h xs → Fits most (h ++ xs) ys → Fits most h (xs ++ ys)
fits-joined most h [] ys first second = subst (λ (g : List Entry). Fits most g ys) (append-nil h) second
fits-joined most h (x ∷ xs) ys first second =
    (first.0, fits-joined most (h ++ x ∷ []) xs ys first.1 (subst (λ (g : List Entry). Fits most g ys) (sym (append_assoc h (x ∷ []) xs)) second))

-- one run of entries behind another
pub adds-joined : (setup : Setup) (s0 s1 s2 : State) (hub hub' : Kept) (h t xs ys : List Entry) → Adds setup s0 s1 hub h t xs → Adds setup s1 s2 hub' h (t ++ xs) ys → Adds setup s0 s2 hub' h t (xs ++ ys)
adds-joined setup s0 s1 s2 hub hub' h t xs ys first second = record {
  ready = subst (λ (g : List Entry). IsReady setup s2 hub' h g) (append_assoc t xs ys) second.ready;
  fits = fits-joined setup.limits.log (h ++ t) xs ys first.fits (subst (λ (g : List Entry). Fits setup.limits.log g ys) (sym (append_assoc h t xs)) second.fits);
  moments = joins s0 s1 s2 (λ c. Stands setup c h) first.moments second.moments;
}

-- a fault before the first entry
pub later-first : (setup : Setup) (s s' : State) (hub : Kept) (h t es : List Entry) (e : HubFault) → Fails setup s s' hub h t es e → FailsLater setup s s' hub h t es e
later-first setup s s' hub h t es e (inl disk) = inl disk
later-first setup s s' hub h t es e (inr declined) = inr (record {
  added = [];
  left = es;
  whole = refl;
  adds = record { ready = subst (λ (g : List Entry). IsReady setup s' hub h g) (sym (append-nil t)) declined.ready; fits = tt; moments = declined.moments };
  why = subst (λ (g : List Entry). Leaves setup.limits.log g es e) (sym (append-nil (h ++ t))) declined.why;
})

full-more : (most : ℕ) (h left rest : List Entry) (octets : ℕ) → IsFull most h left octets → IsFull most h (left ++ rest) octets
full-more most h [] rest octets full = absurd full
full-more most h (x ∷ left) rest octets full = full

pub leaves-more : (most : ℕ) (h left rest : List Entry) (e : HubFault) → Leaves most h left e → Leaves most h (left ++ rest) e
leaves-more most h left rest faults.DiskFault why = why
leaves-more most h left rest faults.NoMemory why = why
leaves-more most h left rest (faults.QueueFull live bytes) why = why
leaves-more most h left rest (faults.LogFull octets) why = full-more most h left rest octets why
leaves-more most h left rest (faults.NotALog at) why = why
leaves-more most h left rest (faults.Org fault) why = why
leaves-more most h left rest (faults.EpochsFull live) why = why
leaves-more most h left rest faults.NoSuchApproval why = why

-- a run that stopped behind another, where more was to come
pub later-joined : (setup : Setup) (s0 s1 s2 : State) (hub hub' : Kept) (h t xs ys rest : List Entry) (e : HubFault) → Adds setup s0 s1 hub h t xs → FailsLater setup s1 s2 hub' h (t ++ xs) ys e →
    FailsLater setup s0 s2 hub' h t (xs ++ (ys ++ rest)) e
later-joined setup s0 s1 s2 hub hub' h t xs ys rest e first (inl (disk, breaks)) =
    inl (disk, record { broken = breaks.broken; moments = joins s0 s1 s2 (λ c. Stands setup c h) first.moments breaks.moments })
later-joined setup s0 s1 s2 hub hub' h t xs ys rest e first (inr stops) = inr (record {
  added = xs ++ stops.added;
  left = stops.left ++ rest;
  whole =
      ap (λ (all : List Entry). xs ++ (all ++ rest)) stops.whole ∙ ap (λ (all : List Entry). xs ++ all) (append_assoc stops.added stops.left rest)
      ∙ sym (append_assoc xs stops.added (stops.left ++ rest));
  adds = adds-joined setup s0 s1 s2 hub hub' h t xs stops.added first stops.adds;
  why = leaves-more setup.limits.log ((h ++ t) ++ (xs ++ stops.added)) stops.left rest e
      (subst (λ (g : List Entry). Leaves setup.limits.log g stops.left e)
      (ap (λ (g : List Entry). g ++ stops.added) (sym (append_assoc h t xs)) ∙ append_assoc (h ++ t) xs stops.added) stops.why);
})

-- a fault that is handed on
pub handed : {T : Type 0} (P : HubFault → Type 0) (e : HubFault) (result : Result T HubFault) → IsErrAnd result (λ f. f ≡ e) → P e → IfErr result P
handed P e (Ok made) same why = tt
handed P e (Err f) same why = subst P (sym same) why

pub err_weaker : {T : Type 0} (P Q : HubFault → Type 0) (result : Result T HubFault) → ((e : HubFault) → P e → Q e) → IfErr result P → IfErr result Q
err_weaker P Q (Ok made) to held = tt
err_weaker P Q (Err e) to held = to e held

pub err_both : {T : Type 0} (P : Type 0) (Q R : HubFault → Type 0) (result : Result T HubFault) → ((e : HubFault) → P → Q e → R e) → OnErr result P → IfErr result Q → IfErr result R
err_both P Q R (Ok made) to held also = tt
err_both P Q R (Err e) to held also = to e held also

-- the log's fault before an entry was framed
pub framed-leaves : (T : Type 0) (h : List Entry) (entry : Entry) (place most most' : ℕ) (e : LogFault) → place ≡ length (log_of h) → most ≡ most' → (e ≡ logs.DiskFault → ⊥) →
    FullAnswer {T = T} place most (length (entry_text entry)) (Err e) → Leaves most' h (entry ∷ []) (fault_of e)
framed-leaves T h entry place most most' logs.DiskFault at is disk full = disk refl
framed-leaves T h entry place most most' logs.NoMemory at is disk full = tt
framed-leaves T h entry place most most' (logs.NotALog n) at is disk full = absurd full
framed-leaves T h entry place most most' (logs.LogFull n) at is disk full =
    let above = full.1 in
    (full.0 ∙ ap (λ (m : ℕ). min (m + 1) (2 ^ 64 - 1)) at, omega (arith, above, at, is))

limits-after : (setup : Setup) (s : Standing) (e : Entry) → (state_after setup s e).limits ≡ s.limits
limits-after setup s (entries.Organised directory rules) = refl
limits-after setup s (entries.Accepted moment submission) = refl
limits-after setup s (entries.Categorised number release plan) = refl
limits-after setup s (entries.Decided name by verdict moment) = refl
limits-after setup s (entries.Moment moment) = refl
limits-after setup s (entries.Delivered name) = refl
limits-after setup s (entries.Delayed name) = refl
limits-after setup s (entries.Ended name) = refl
limits-after setup s (entries.Forgot number) = refl

limits-kept : (setup : Setup) (s : Standing) (h : List Entry) → (fold (state_after setup) s h).limits ≡ s.limits
limits-kept setup s [] = refl
limits-kept setup s (e ∷ h) = limits-kept setup (state_after setup s e) h ∙ limits-after setup s e

-- a history leaves the limits that the hub is held to
pub standing-limits : (setup : Setup) (h : List Entry) → (standing setup h).limits ≡ setup.limits
standing-limits setup h = limits-kept setup (start setup) h

pub ready-limits : (setup : Setup) (s : State) (hub : Kept) (h t : List Entry) → IsReady setup s hub h t → hub.state.limits ≡ setup.limits
ready-limits setup s hub h t ready = ap (λ (st : Standing). st.limits) ready.state ∙ standing-limits setup (h ++ t)

-- and so does an entry more
pub grown-limits : (setup other : Setup) (s : State) (hub : Kept) (h t : List Entry) (e : Entry) → IsReady setup s hub h t → (state_after other hub.state e).limits ≡ setup.limits
grown-limits setup other s hub h t e ready = limits-after other hub.state e ∙ ready-limits setup s hub h t ready

-- what a new submission adds, where there is room for it
pub new_entries : (s : Standing) (clock : ℕ) (submission : Submitted) → place_of_same submission s.live ≡ None → has_room s submission ≡ true →
    entries.Accepted (now_of s clock) submission ∷ [] ≡ entries_submit s clock submission
new_entries s clock submission none room =
    let one = entries.Accepted (now_of s clock) submission ∷ [] in
    sym (ap (λ (o : Option ℕ). entries_new o s clock submission) none ∙ ap (λ t. cond t one []) room)

pub one_of : (setup : Setup) (h t k : List Entry) (c : Image) → IsOneOf h t k → Stands setup c k → MayStand setup h t c
one_of setup h t k c (inl same) stands = inl (subst (λ (g : List Entry). Stands setup c g) same stands)
one_of setup h t k c (inr same) stands = inr (subst (λ (g : List Entry). Stands setup c g) same stands)

-- what the log was opened for is one of those that its images stood for
before_opened : (setup : Setup) (broken : Bool) (h t kept pending : List Entry) (c : Image) → IsOpened broken h t kept pending → Stands setup c kept → Before setup broken h t c
before_opened setup false h t kept pending c opened stands = subst (λ (g : List Entry). Stands setup c g) opened.0 stands
before_opened setup true h t kept pending c opened stands = one_of setup h t kept c opened.0 stands

pub before_may : (setup : Setup) (broken : Bool) (h t : List Entry) (c : Image) → Before setup broken h t c → MayStand setup h t c
before_may setup false h t c stands = inl stands
before_may setup true h t c may = may

-- the log is opened where it was broken off, and then a call adds entries
pub before_joined : (setup : Setup) (s0 s1 s2 : State) (broken : Bool) (h t kept pending : List Entry) → IsOpened broken h t kept pending → LeavesOnly s0 s1 (Before setup broken h t) → LeavesOnly s1 s2 (λ c. Stands setup c kept) →
    LeavesOnly s0 s2 (Before setup broken h t)
before_joined setup s0 s1 s2 broken h t kept pending opened first second =
    joins s0 s1 s2 (Before setup broken h t) first (weakens s1 s2 (λ c. Stands setup c kept) (Before setup broken h t) (λ c stands. before_opened setup broken h t kept pending c opened stands) second)

pub may_moments : (setup : Setup) (s0 s1 : State) (broken : Bool) (h t : List Entry) → LeavesOnly s0 s1 (Before setup broken h t) → LeavesOnly s0 s1 (MayStand setup h t)
may_moments setup s0 s1 broken h t run = weakens s0 s1 (Before setup broken h t) (MayStand setup h t) (before_may setup broken h t) run

pub joined_moments : (setup : Setup) (s0 s1 s2 : State) (broken : Bool) (h t kept pending : List Entry) → IsOpened broken h t kept pending → LeavesOnly s0 s1 (Before setup broken h t) → LeavesOnly s1 s2 (λ c. Stands setup c kept) →
    LeavesOnly s0 s2 (MayStand setup h t)
joined_moments setup s0 s1 s2 broken h t kept pending opened first second = may_moments setup s0 s2 broken h t (before_joined setup s0 s1 s2 broken h t kept pending opened first second)

-- a call that added entries behind what the hub stood for when its log was open
pub grows : (setup : Setup) (s0 s1 s2 : State) (hub hub' : Kept) (h t es es' : List Entry) (broken : Bool) (m : Mended setup broken s1 hub h t) → LeavesOnly s0 s1 (Before setup broken h t) → es ≡ es' →
    Adds setup s1 s2 hub' m.kept m.pending es → Grows setup broken s0 s2 hub' h t hub.state es'
grows setup s0 s1 s2 hub hub' h t es es' broken m first same adds = record {
  kept = m.kept;
  pending = m.pending;
  opened = m.opened;
  state = m.ready.state;
  ready = subst (λ (xs : List Entry). IsReady setup s2 hub' m.kept (m.pending ++ xs)) same adds.ready;
  fits = subst (λ (xs : List Entry). Fits setup.limits.log (m.kept ++ m.pending) xs) same adds.fits;
  moments = before_joined setup s0 s1 s2 broken h t m.kept m.pending m.opened first adds.moments;
}

-- whichever way a call ended, a crash in it leaves what was settled
pub either_moments : {T : Type 0} (setup : Setup) (s s' : State) (hub : Kept) (h t es : List Entry) (Why : HubFault → Type 0) (result : Result T HubFault) → OnOk result (Adds setup s s' hub h t es) → IfErr result (FailsBy setup s s' hub h t Why) →
    LeavesOnly s s' (λ c. Stands setup c h)
either_moments setup s s' hub h t es Why (Ok answer) adds fails = adds.moments
either_moments setup s s' hub h t es Why (Err e) adds (inl disk) = disk.1.moments
either_moments setup s s' hub h t es Why (Err e) adds (inr declined) = declined.moments

-- another reason
pub fails_by : (setup : Setup) (s s' : State) (hub : Kept) (h t : List Entry) (Why Reason : HubFault → Type 0) (e : HubFault) → (Why e → Reason e) → FailsBy setup s s' hub h t Why e → FailsBy setup s s' hub h t Reason e
fails_by setup s s' hub h t Why Reason e to (inl disk) = inl disk
fails_by setup s s' hub h t Why Reason e to (inr declined) = inr (record { ready = declined.ready; why = to declined.why; moments = declined.moments })

-- why the log takes no submission is why it is refused
pub leaves_refused : (setup : Setup) (mid : Standing) (submission : Submitted) (clock : ℕ) (g es : List Entry) (e : HubFault) → es ≡ entries_submit mid clock submission → Leaves setup.limits.log g es e → RefusedBy setup mid submission clock g e
leaves_refused setup mid submission clock g es faults.DiskFault same why = why
leaves_refused setup mid submission clock g es faults.NoMemory same why = tt
leaves_refused setup mid submission clock g es (faults.QueueFull live bytes) same why = absurd why
leaves_refused setup mid submission clock g es (faults.LogFull octets) same why = subst (λ (xs : List Entry). IsFull setup.limits.log g xs octets) same why
leaves_refused setup mid submission clock g es (faults.NotALog at) same why = why
leaves_refused setup mid submission clock g es (faults.Org fault) same why = why
leaves_refused setup mid submission clock g es (faults.EpochsFull live) same why = why
leaves_refused setup mid submission clock g es faults.NoSuchApproval same why = why

pub later_moments : {T : Type 0} (setup : Setup) (s s' : State) (hub : Kept) (h t es : List Entry) (result : Result T HubFault) → OnOk result (Adds setup s s' hub h t es) → IfErr result (FailsLater setup s s' hub h t es) →
    LeavesOnly s s' (λ c. Stands setup c h)
later_moments setup s s' hub h t es (Ok answer) adds fails = adds.moments
later_moments setup s s' hub h t es (Err e) adds (inl disk) = disk.1.moments
later_moments setup s s' hub h t es (Err e) adds (inr stops) = stops.adds.moments

-- why the log takes no decision, and no organisation
pub leaves_undecided : (setup : Setup) (mid : Standing) (name : ApprovalName) (by : List ℕ) (verdict : Verdict) (clock : ℕ) (g es : List Entry) (e : HubFault) → es ≡ entries_decide mid name by verdict clock → Leaves setup.limits.log g es e →
    RefusedDecision setup mid name by verdict clock g e
leaves_undecided setup mid name by verdict clock g es faults.DiskFault same why = why
leaves_undecided setup mid name by verdict clock g es faults.NoMemory same why = tt
leaves_undecided setup mid name by verdict clock g es (faults.QueueFull live bytes) same why = why
leaves_undecided setup mid name by verdict clock g es (faults.LogFull octets) same why = subst (λ (xs : List Entry). IsFull setup.limits.log g xs octets) same why
leaves_undecided setup mid name by verdict clock g es (faults.NotALog at) same why = why
leaves_undecided setup mid name by verdict clock g es (faults.Org fault) same why = why
leaves_undecided setup mid name by verdict clock g es (faults.EpochsFull live) same why = why
leaves_undecided setup mid name by verdict clock g es faults.NoSuchApproval same why = absurd why

pub leaves_unorganised : (setup : Setup) (mid : Standing) (org : Texts) (g es : List Entry) (e : HubFault) → es ≡ entries_organise setup mid org → Leaves setup.limits.log g es e → RefusedOrg setup mid org g e
leaves_unorganised setup mid org g es faults.DiskFault same why = why
leaves_unorganised setup mid org g es faults.NoMemory same why = tt
leaves_unorganised setup mid org g es (faults.QueueFull live bytes) same why = why
leaves_unorganised setup mid org g es (faults.LogFull octets) same why = subst (λ (xs : List Entry). IsFull setup.limits.log g xs octets) same why
leaves_unorganised setup mid org g es (faults.NotALog at) same why = why
leaves_unorganised setup mid org g es (faults.Org fault) same why = absurd why
leaves_unorganised setup mid org g es (faults.EpochsFull live) same why = absurd why
leaves_unorganised setup mid org g es faults.NoSuchApproval same why = why
