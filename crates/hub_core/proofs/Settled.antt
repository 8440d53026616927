-- An approval that was decided or ended stays so, and an entry tells of those that it ends.
use Rattle.std.proofs.Common.{◌≡◌, ℕ, zero, suc, ◌+◌, ◌-◌, Bool, true, false, cond, List, [], ◌∷◌, ◌++◌, map, Option, Some, None, refl, ap, ◌∙◌, sym, subst, inl, inr, arith}
use Rattle.std.specs.Prelude.{slice_get, slice_set, nat_le, nat_lt, ◌&&◌, option_map}
use Rattle.std.specs.List.{AllByRecursion, list_any}
use Rattle.mail_names.specs.declared.name.ApprovalName.{ApprovalName}
use Rattle.mail_names.specs.declared.name.ItemName.{ItemName}
use Rattle.mail_names.specs.declared.name.Mark.TheVariants as marks
use Rattle.moderation.specs.Approval.{place_of, is_pending, answer, decide_answer, state_with, runs_out}
use Rattle.moderation.specs.declared.approval.ApprovalState.{ApprovalState}
use Rattle.moderation.specs.declared.approval.ApprovalState.TheVariants as states
use Rattle.moderation.specs.declared.approval.Decision.TheVariants as decisions
use Rattle.moderation.specs.declared.approval.Verdict.{Verdict}
use Rattle.moderation.specs.declared.approval.Verdict.TheVariants as verdicts
use Rattle.mail_notices.specs.declared.kinds.Notice.{Notice}
use Rattle.mail_notices.specs.declared.kinds.Notice.TheVariants as notices
use Rattle.mail_plan.specs.Planning.{made_at}
use Rattle.log_entry.specs.declared.entry.Entry.{Entry}
use Rattle.log_entry.specs.declared.entry.Entry.TheVariants as entries
use Rattle.mail_plan.specs.declared.release.Release.{Release}
use Rattle.hub_core.specs.declared.asking.Asking.{Asking}
use Rattle.hub_core.specs.declared.queue.QueuedItem.{QueuedItem}
use Rattle.hub_core.specs.Setup.{Setup}
use Rattle.hub_core.specs.Approvals.{Stage, changed, pends, asking_of, asks_in, stage_open, decided_asking, decided_stage, expired_asking, expired_stage}
use Rattle.hub_core.specs.Mail.{LiveMail, freed, waits_in, waits, with_asks, categorised, asking_at, opened_by, decided_with, decided_mail, expired_mail, is_taken}
use Rattle.hub_core.specs.Ending.{is_told, approval_name, end_name, end_notice, told, end_told, run_out_told, asks_told, stages_told, all_told}
use Rattle.hub_core.specs.Standing.{Standing, state_after, mail_of, refused_told, decided_told, decision_told}
use Rattle.hub_core.proofs.Agreeing.{asking-there, mail-there}
use Rattle.hub_core.proofs.Places.{get-map, get-append, get-set, get-changed, get-changed-own}

-- the names of these items
abbrev pub names : List QueuedItem → List ItemName
names items = map (λ (item : QueuedItem). item.name) items

-- a release asks for an approval that was decided or ended
abbrev Done : List Stage → ℕ → ℕ → Type 0
Done stages release gate =
    (asks : List Asking) × (slice_get stages release ≡ Some (Some asks)) × ((asking : Asking) × (slice_get asks gate ≡ Some asking) × (pends asking ≡ false))

-- and the release is one of these submissions, where the name says
abbrev pub Settled : ItemName → List LiveMail → Type 0
Settled name live = (mail : LiveMail) × (slice_get live (name.submission - 1) ≡ Some mail) × Done mail.stages name.release name.place

decided-stays : (place : Option ℕ) (state : ApprovalState) (deadline moment : ℕ) (verdict : Verdict) → is_pending state ≡ false →
    is_pending (state_with place verdict (answer place state deadline moment) state) ≡ false
decided-stays None state deadline moment verdict e = e
decided-stays (Some place) states.Pending deadline moment verdict e = absurd (cc)
decided-stays (Some place) (states.Decided by other) deadline moment verdict e = refl
decided-stays (Some place) states.Ended deadline moment verdict e = refl

-- a decision that is taken is made on an approval that pends
taken-pends : (place : Option ℕ) (state : ApprovalState) (deadline moment : ℕ) → is_taken (Some (answer place state deadline moment)) ≡ true → is_pending state ≡ true
taken-pends None state deadline moment e = absurd (cc)
taken-pends (Some place) states.Pending deadline moment e = refl
taken-pends (Some place) (states.Decided by other) deadline moment e = absurd (cc)
taken-pends (Some place) states.Ended deadline moment e = absurd (cc)

-- and ends it
taken-ends : (place : Option ℕ) (state : ApprovalState) (deadline moment : ℕ) (verdict : Verdict) → is_taken (Some (answer place state deadline moment)) ≡ true →
    is_pending (state_with place verdict (answer place state deadline moment) state) ≡ false
taken-ends None state deadline moment verdict e = absurd (cc)
taken-ends (Some place) states.Pending deadline moment verdict e = by (nat_lt moment deadline) e
  where
    by : (b : Bool) → is_taken (Some (cond b decisions.Taken (decisions.Expired deadline))) ≡ true →
        is_pending (state_with (Some place) verdict (cond b decisions.Taken (decisions.Expired deadline)) states.Pending) ≡ false
    by true h = refl
    by false h = absurd (cc)
taken-ends (Some place) (states.Decided by other) deadline moment verdict e = refl
taken-ends (Some place) states.Ended deadline moment verdict e = refl

expired-stays : (b : Bool) (state : ApprovalState) → is_pending state ≡ false → is_pending (cond b states.Ended state) ≡ false
expired-stays true state e = refl
expired-stays false state e = e

expired-ends : (b : Bool) (state : ApprovalState) → b ≡ true → is_pending (cond b states.Ended state) ≡ false
expired-ends true state e = refl
expired-ends false state e = absurd (cc)

pub freed-stages : (mail : LiveMail) → (freed mail).stages ≡ mail.stages
freed-stages mail = by (list_any stage_open mail.stages)
  where
    by : (b : Bool) → (cond b mail (record mail { org = None })).stages ≡ mail.stages
    by true = refl
    by false = refl

freed-done : (mail : LiveMail) (r g : ℕ) → Done mail.stages r g → Done (freed mail).stages r g
freed-done mail r g done = subst (λ (stages : List Stage). Done stages r g) (sym (freed-stages mail)) done

pub some_waits : (asks : List Asking) (at : Option Stage) → at ≡ Some (Some asks) → waits_in at ≡ true → ⊥
some_waits asks at e h = absurd (no (sym (ap waits_in e) ∙ h))
  where
    no : false ≡ true → ⊥
    no p = cc

categorised-done : (release : ℕ) (plan : Release) (mail : LiveMail) (r g : ℕ) → Done mail.stages r g → Done (categorised release plan mail).stages r g
categorised-done release plan mail r g done = by (waits mail release) refl
  where
    asks : List Asking
    asks = map (asking_of (made_at mail.accepted_at mail.opened release)) plan.holds

    by : (b : Bool) → waits mail release ≡ b → Done (cond b (with_asks release asks mail) mail).stages r g
    by true waiting =
        freed-done (record mail { stages = slice_set mail.stages release (Some asks) }) r g
        (elim (get-set mail.stages release (Some asks) r (Some done.0) done.1) [
          | inl same ↦ (done.0, same, done.2)
          | inr own ↦
              absurd (some_waits done.0 (slice_get mail.stages release) (ap (λ (k : ℕ). slice_get mail.stages k) (sym own) ∙ done.1) waiting)
        ])
    by false waiting = done

-- what a change of a release leaves done
abbrev KeepsDone : (Stage → Stage) → Type 0
KeepsDone f = (asks : List Asking) (g : ℕ) (asking : Asking) → slice_get asks g ≡ Some asking → pends asking ≡ false →
    (later : List Asking) × (f (Some asks) ≡ Some later) × ((other : Asking) × (slice_get later g ≡ Some other) × (pends other ≡ false))

decided-keeps : (gate : ℕ) (by : List ℕ) (verdict : Verdict) (moment : ℕ) → KeepsDone (decided_stage gate by verdict moment)
decided-keeps gate by verdict moment asks g asking at ended =
    let f = decided_asking by verdict moment in (
      changed f gate asks,
      refl,
      elim (get-changed f asks gate g asking at) [
        | inl same ↦ (asking, same, ended)
        | inr new ↦ (f asking, new, decided-stays (place_of asking.approval by) asking.approval.state asking.approval.deadline moment verdict ended)
      ],
    )

expired-keeps : (moment : ℕ) → KeepsDone (expired_stage moment)
expired-keeps moment asks g asking at ended = (
  map (expired_asking moment) asks,
  refl,
  (expired_asking moment asking, get-map (expired_asking moment) asks g asking at, expired-stays (runs_out asking.approval moment) asking.approval.state ended),
)

changed-done : (f : Stage → Stage) → KeepsDone f → (stages : List Stage) (k r g : ℕ) → Done stages r g → Done (changed f k stages) r g
changed-done f keeps stages k r g done =
    elim (get-changed f stages k r (Some done.0) done.1) [
      | inl same ↦ (done.0, same, done.2)
      | inr new ↦ (let was = keeps done.0 g done.2.0 done.2.1 done.2.2 in (was.0, new ∙ ap (λ (s : Stage). Some s) was.1, was.2))
    ]

mapped-done : (f : Stage → Stage) → KeepsDone f → (stages : List Stage) (r g : ℕ) → Done stages r g → Done (map f stages) r g
mapped-done f keeps stages r g done =
    let was = keeps done.0 g done.2.0 done.2.1 done.2.2 in
    (was.0, get-map f stages r (Some done.0) done.1 ∙ ap (λ (s : Stage). Some s) was.1, was.2)

expired-done : (moment : ℕ) (mail : LiveMail) (r g : ℕ) → Done mail.stages r g → Done (expired_mail moment mail).stages r g
expired-done moment mail r g done =
    freed-done (record mail { stages = map (expired_stage moment) mail.stages }) r g (mapped-done (expired_stage moment) (expired-keeps moment) mail.stages r g done)

opened-done : (verdict : Verdict) (asking : Asking) (moment : ℕ) (mail : LiveMail) (r g : ℕ) → Done mail.stages r g → Done (opened_by verdict asking moment mail).stages r g
opened-done verdicts.Approve asking moment mail r g done = (done.0, get-append mail.stages (None ∷ []) r (Some done.0) done.1, done.2)
opened-done verdicts.Reject asking moment mail r g done = done

decided-done : (at : Option Asking) (name : ApprovalName) (by : List ℕ) (verdict : Verdict) (moment : ℕ) (mail : LiveMail) (r g : ℕ) → Done mail.stages r g →
    Done (decided_with at name by verdict moment mail).stages r g
decided-done None name by verdict moment mail r g done = done
decided-done (Some asking) name by verdict moment mail r g done =
    let f = decided_stage name.gate by verdict moment in
    let with = (let m : LiveMail = record mail { stages = changed f name.release mail.stages } in m) in
    freed-done (opened_by verdict asking moment with) r g
    (opened-done verdict asking moment with r g (changed-done f (decided-keeps name.gate by verdict moment) mail.stages name.release r g done))

changed-settled : (f : LiveMail → LiveMail) → ((mail : LiveMail) (r g : ℕ) → Done mail.stages r g → Done (f mail).stages r g) → (k : ℕ) (live : List LiveMail) (name : ItemName) →
    Settled name live → Settled name (changed f k live)
changed-settled f keeps k live name is =
    elim (get-changed f live k (name.submission - 1) is.0 is.1) [
      | inl same ↦ (is.0, same, is.2)
      | inr new ↦ (f is.0, new, keeps is.0 name.release name.place is.2)
    ]

-- What was decided or ended stays so.
pub settled-stays : (setup : Setup) (s : Standing) (e : Entry) (name : ItemName) → Settled name s.live → Settled name (state_after setup s e).live
settled-stays setup s (entries.Organised d r) name is = is
settled-stays setup s (entries.Accepted m x) name is = (is.0, get-append s.live _ (name.submission - 1) is.0 is.1, is.2)
settled-stays setup s (entries.Categorised n r plan) name is = changed-settled (categorised r plan) (categorised-done r plan) (n - 1) s.live name is
settled-stays setup s (entries.Decided approval by verdict m) name is =
    changed-settled (decided_mail approval by verdict m) (λ mail r g done. decided-done (asking_at mail approval) approval by verdict m mail r g done)
    (approval.submission - 1) s.live name is
settled-stays setup s (entries.Moment m) name is =
    (expired_mail m is.0, get-map (expired_mail m) s.live (name.submission - 1) is.0 is.1, expired-done m is.0 name.release name.place is.2)
settled-stays setup s (entries.Delivered n) name is = is
settled-stays setup s (entries.Delayed n) name is = is
settled-stays setup s (entries.Ended n) name is = is
settled-stays setup s (entries.Forgot n) name is = is

-- all of these names are so
abbrev pub All : (ItemName → Type 0) → List QueuedItem → Type 0
All P items = AllByRecursion P (names items)

pub all-both : (P : ItemName → Type 0) (xs ys : List QueuedItem) → All P xs → All P ys → All P (xs ++ ys)
all-both P [] ys h g = g
all-both P (x ∷ xs) ys h g = (h.0, all-both P xs ys h.1 g)

pub told-all : (P : ItemName → Type 0) (setup : Setup) (name : ApprovalName) (mail : LiveMail) (asking : Asking) (moment : ℕ) (what : Notice) (sender : Option (List ℕ)) →
    P (end_name name) → All P (told setup name mail asking moment what sender)
told-all P setup name mail asking moment what None p = tt
told-all P setup name mail asking moment what (Some sender) p = by (is_told setup mail.org sender asking.tell)
  where
    by : (b : Bool) → All P (cond b (end_notice name mail.submission sender moment what ∷ []) [])
    by true = (p, tt)
    by false = tt

pub run-out-all : (P : ItemName → Type 0) (setup : Setup) (name : ApprovalName) (mail : LiveMail) (asking : Asking) (moment : ℕ) →
    (runs_out asking.approval moment ≡ true → P (end_name name)) → All P (run_out_told setup name mail asking moment)
run-out-all P setup name mail asking moment p = by (runs_out asking.approval moment) p
  where
    by : (b : Bool) → (b ≡ true → P (end_name name)) →
        All P (cond b (end_told setup name mail asking moment (notices.RanOut name asking.label asking.approval.deadline)) [])
    by true q = told-all P setup name mail asking moment (notices.RanOut name asking.label asking.approval.deadline) mail.submission.reverse (q refl)
    by false q = tt

pub asks-all : (P : ItemName → Type 0) (setup : Setup) (mail : LiveMail) (moment n r gate : ℕ) (asks : List Asking) →
    ((k at : ℕ) (asking : Asking) → at ≡ gate + k → slice_get asks k ≡ Some asking → runs_out asking.approval moment ≡ true → P (end_name (approval_name n r at))) →
    All P (asks_told setup mail moment n r gate asks)
asks-all P setup mail moment n r gate [] p = tt
asks-all P setup mail moment n r gate (asking ∷ asks) p =
    all-both P (run_out_told setup (approval_name n r gate) mail asking moment) (asks_told setup mail moment n r (gate + 1) asks)
    (run-out-all P setup (approval_name n r gate) mail asking moment (λ out. p zero gate asking (omega arith) refl out))
    (asks-all P setup mail moment n r (gate + 1) asks (λ k at other e there out. p (suc k) at other (omega arith) there out))

-- a release of these asks for an approval that runs out
abbrev pub RunsOut : ℕ → List Stage → ℕ → ℕ → Type 0
RunsOut moment stages r g =
    (asks : List Asking) × (slice_get stages r ≡ Some (Some asks)) × ((asking : Asking) × (slice_get asks g ≡ Some asking) × (runs_out asking.approval moment ≡ true))

pub stage-all : (P : ItemName → Type 0) (setup : Setup) (mail : LiveMail) (moment n r : ℕ) (stage : Stage) →
    ((asks : List Asking) (g : ℕ) (asking : Asking) → stage ≡ Some asks → slice_get asks g ≡ Some asking → runs_out asking.approval moment ≡ true →
    P (end_name (approval_name n r g))) → All P (asks_told setup mail moment n r 0 (asks_in stage))
stage-all P setup mail moment n r None p = tt
stage-all P setup mail moment n r (Some asks) p =
    asks-all P setup mail moment n r 0 asks
    (λ k at asking e there out.
    subst (λ (g : ℕ). P (end_name (approval_name n r g))) (let same : k ≡ at = omega arith in same) (p asks k asking refl there out))

pub stages-all : (P : ItemName → Type 0) (setup : Setup) (mail : LiveMail) (moment n r : ℕ) (stages : List Stage) →
    ((k at g : ℕ) → at ≡ r + k → RunsOut moment stages k g → P (end_name (approval_name n at g))) → All P (stages_told setup mail moment n r stages)
stages-all P setup mail moment n r [] p = tt
stages-all P setup mail moment n r (stage ∷ stages) p =
    all-both P (asks_told setup mail moment n r 0 (asks_in stage)) (stages_told setup mail moment n (r + 1) stages)
    (stage-all P setup mail moment n r stage
    (λ asks g asking same there out. p zero r g (omega arith) (asks, ap (λ (s : Stage). Some s) same, (asking, there, out))))
    (stages-all P setup mail moment n (r + 1) stages (λ k at g e out. p (suc k) at g (omega arith) out))

pub all-all : (P : ItemName → Type 0) (setup : Setup) (moment n : ℕ) (live : List LiveMail) →
    ((k at r g : ℕ) (mail : LiveMail) → at ≡ n + k → slice_get live k ≡ Some mail → RunsOut moment mail.stages r g → P (end_name (approval_name at r g))) →
    All P (all_told setup moment n live)
all-all P setup moment n [] p = tt
all-all P setup moment n (mail ∷ live) p =
    all-both P (stages_told setup mail moment n 0 mail.stages) (all_told setup moment (n + 1) live)
    (stages-all P setup mail moment n 0 mail.stages
    (λ k at g e out.
    subst (λ (r : ℕ). P (end_name (approval_name n r g))) (let same : k ≡ at = omega arith in same) (p zero n k g mail (omega arith) refl out)))
    (all-all P setup moment (n + 1) live (λ k at r g other e there out. p (suc k) at r g other (omega arith) there out))

-- What is told of pends before, and doesn't after.
pub record Ends (before after : List LiveMail) (name : ItemName) : Type 0 where
  pub fresh : Settled name before → ⊥
  pub settled : Settled name after
  pub mark : name.mark ≡ marks.Gate

pending : (stages : List Stage) (r g : ℕ) (asks : List Asking) (asking : Asking) → slice_get stages r ≡ Some (Some asks) → slice_get asks g ≡ Some asking → pends asking ≡ true →
    Done stages r g → ⊥
pending stages r g asks asking stage ask still done =
    let same-asks : done.0 ≡ asks = asks_are done.0 asks (sym done.1 ∙ stage) in
    let same : done.2.0 ≡ asking = asking_is done.2.0 asking (sym done.2.1 ∙ (ap (λ (xs : List Asking). slice_get xs g) same-asks ∙ ask)) in
    no (sym (ap pends same ∙ still) ∙ done.2.2)
  where
    asks_are : (a b : List Asking) → Some (Some a) ≡ Some (Some b) → a ≡ b
    asks_are a b e = cc

    asking_is : (a b : Asking) → Some a ≡ Some b → a ≡ b
    asking_is a b e = cc

    no : true ≡ false → ⊥
    no p = cc

mail_is : (a b : LiveMail) → Some a ≡ Some b → a ≡ b
mail_is a b e = cc

first : (a b : Bool) → (a && b) ≡ true → a ≡ true
first true b h = refl
first false b h = absurd (cc)

run-out-ends : (setup : Setup) (moment : ℕ) (live : List LiveMail) (k at r g : ℕ) (mail : LiveMail) → at ≡ 1 + k → slice_get live k ≡ Some mail → RunsOut moment mail.stages r g →
    Ends live (map (expired_mail moment) live) (end_name (approval_name at r g))
run-out-ends setup moment live k at r g mail e there out =
    let (asks, stage, (asking, ask, ends)) = out in
    let place : at - 1 ≡ k = omega arith in
    let stands : slice_get live (at - 1) ≡ Some mail = ap (λ (j : ℕ). slice_get live j) place ∙ there in
    record {
      fresh = λ settled.
          pending mail.stages r g asks asking stage ask (first (is_pending asking.approval.state) (nat_le asking.approval.deadline moment) ends)
          (subst (λ (m : LiveMail). Done m.stages r g) (mail_is settled.0 mail (sym settled.1 ∙ stands)) settled.2);
      settled = (
        expired_mail moment mail,
        get-map (expired_mail moment) live (at - 1) mail stands,
        freed-done (record mail { stages = map (expired_stage moment) mail.stages }) r g (
          map (expired_asking moment) asks,
          get-map (expired_stage moment) mail.stages r (Some asks) stage,
          (
            expired_asking moment asking,
            get-map (expired_asking moment) asks g asking ask,
            expired-ends (runs_out asking.approval moment) asking.approval.state ends,
          ),
        ),
      );
      mark = refl;
    }

refusal-ends : (live : List LiveMail) (name : ApprovalName) (by : List ℕ) (moment : ℕ) (mail : LiveMail) (asking : Asking) → slice_get live (name.submission - 1) ≡ Some mail →
    asking_at mail name ≡ Some asking → is_taken (Some (decide_answer asking.approval by moment)) ≡ true →
    Ends live (changed (decided_mail name by verdicts.Reject moment) (name.submission - 1) live) (end_name name)
refusal-ends live name by moment mail asking there asks taken =
    let (all, stage, ask) = asking-there (slice_get mail.stages name.release) name.gate asking asks in
    let a = asking.approval in
    let f = decided_stage name.gate by verdicts.Reject moment in
    record {
      fresh = λ settled.
          pending mail.stages name.release name.gate all asking stage ask (taken-pends (place_of a by) a.state a.deadline moment taken)
          (subst (λ (m : LiveMail). Done m.stages name.release name.gate) (mail_is settled.0 mail (sym settled.1 ∙ there)) settled.2);
      settled = (
        decided_mail name by verdicts.Reject moment mail,
        get-changed-own (decided_mail name by verdicts.Reject moment) live (name.submission - 1) mail there,
        subst (λ (o : Option Asking). Done (decided_with o name by verdicts.Reject moment mail).stages name.release name.gate) (sym asks)
            (freed-done (record mail { stages = changed f name.release mail.stages }) name.release name.gate (
              changed (decided_asking by verdicts.Reject moment) name.gate all,
              get-changed-own f mail.stages name.release (Some all) stage,
              (
                decided_asking by verdicts.Reject moment asking,
                get-changed-own (decided_asking by verdicts.Reject moment) all name.gate asking ask,
                taken-ends (place_of a by) a.state a.deadline moment verdicts.Reject taken,
              ),
            )),
      );
      mark = refl;
    }

-- a refusal tells of one approval, that it ends
pub refusal-all : (P : ItemName → Type 0) (setup : Setup) (name : ApprovalName) (by : List ℕ) (moment : ℕ) (at : Option LiveMail) →
    ((mail : LiveMail) (asking : Asking) → at ≡ Some mail → asking_at mail name ≡ Some asking → is_taken (Some (decide_answer asking.approval by moment)) ≡ true → P (end_name name)) →
    All P (decided_told setup name by moment at)
refusal-all P setup name by moment None p = tt
refusal-all P setup name by moment (Some mail) p = with (asking_at mail name) refl
  where
    told-of : (there : Option Asking) → asking_at mail name ≡ there → (taken : Bool) → is_taken (option_map (λ (asking : Asking). decide_answer asking.approval by moment) there) ≡ taken →
        All P (cond taken (refused_told setup name by moment mail there) [])
    told-of None e true h = tt
    told-of (Some asking) e true h =
        told-all P setup name mail asking moment (notices.Refused name asking.label by) mail.submission.reverse (p mail asking refl e h)
    told-of there e false h = tt

    with : (there : Option Asking) → asking_at mail name ≡ there →
        All P (cond (is_taken (option_map (λ (asking : Asking). decide_answer asking.approval by moment) (asking_at mail name))) (refused_told setup name by moment mail (asking_at mail name)) [])
    with there e =
        subst (λ (o : Option Asking). All P (cond (is_taken (option_map (λ (asking : Asking). decide_answer asking.approval by moment) o)) (refused_told setup name by moment mail o) []))
        (sym e) (told-of there e (is_taken (option_map (λ (asking : Asking). decide_answer asking.approval by moment) there)) refl)

-- What a decision tells of, it ends.
pub decision-ends : (setup : Setup) (s : Standing) (name : ApprovalName) (by : List ℕ) (verdict : Verdict) (m : ℕ) →
    All (Ends s.live (changed (decided_mail name by verdict m) (name.submission - 1) s.live)) (decision_told setup s name by verdict m)
decision-ends setup s name by verdicts.Approve m = tt
decision-ends setup s name by verdicts.Reject m =
    refusal-all (Ends s.live (changed (decided_mail name by verdicts.Reject m) (name.submission - 1) s.live)) setup name by m (mail_of s name.submission)
    (λ mail asking there asks taken. refusal-ends s.live name by m mail asking (mail-there s name.submission mail there).1 asks taken)

-- and so does a turn
pub moment-ends : (setup : Setup) (s : Standing) (m : ℕ) → All (Ends s.live (map (expired_mail m) s.live)) (all_told setup m 1 s.live)
moment-ends setup s m =
    all-all (Ends s.live (map (expired_mail m) s.live)) setup m 1 s.live (λ k at r g mail e there out. run-out-ends setup m s.live k at r g mail e there out)
