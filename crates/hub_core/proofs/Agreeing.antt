-- The submissions that are remembered are those that were accepted, with the gates that were opened for them.
use Rattle.std.proofs.Common.{◌≡◌, ◌⊎◌, ℕ, zero, suc, ◌+◌, ◌-◌, ◌≤◌, Bool, true, false, cond, List, [], ◌∷◌, ◌++◌, length, map, Option, Some, None, refl, ap, ◌∙◌, sym, subst, inl, inr, arith, append_assoc, append-nil, length-append}
use Rattle.std.specs.Prelude.{slice_get, slice_set, nat_le, option_map}
use Rattle.std.specs.List.{list_any}
use Rattle.std.proofs.lemmas.Bool.Decides.{nat_tests}
use Rattle.std.proofs.lemmas.Grind.{fold-append}
use Rattle.std.proofs.lemmas.Option.{slice_get_within}
use Rattle.std.proofs.Math.ListN.{length-set}
use Rattle.mail_names.specs.declared.gate.Gate.{Gate}
use Rattle.mail_names.specs.declared.name.ApprovalName.{ApprovalName}
use Rattle.moderation.specs.Approval.{decide_answer}
use Rattle.moderation.specs.declared.approval.Verdict.{Verdict}
use Rattle.moderation.specs.declared.approval.Verdict.TheVariants as verdicts
use Rattle.mail_plan.specs.Planning.{Opening, gates_of, made_at, first_input, input_at}
use Rattle.mail_submission.specs.Submission.{Submitted}
use Rattle.log_entry.specs.declared.entry.Entry.{Entry}
use Rattle.log_entry.specs.declared.entry.Entry.TheVariants as entries
use Rattle.mail_plan.specs.declared.release.Hold.{Hold}
use Rattle.mail_plan.specs.declared.release.Release.{Release}
use Rattle.hub_core.specs.declared.asking.Asking.{Asking}
use Rattle.hub_core.specs.Setup.{Texts, Setup}
use Rattle.hub_core.specs.Approvals.{Stage, changed, asking_of, stage_open, decided_asking, decided_stage, expired_asking, expired_stage, asking_in}
use Rattle.hub_core.specs.Mail.{LiveMail, freed, new_mail, input_of, waits_in, waits, with_asks, categorised, asking_at, decided_with, decided_mail, expired_mail, can_decide, decision_in, is_taken}
use Rattle.hub_core.specs.Standing.{Standing, start, standing, state_after, mail_of}
use Rattle.hub_core.specs.Items.{Accepted, Past, no_past, past, past_after, accepted, release_for, opening_of, with_opening, IsStep, AreSteps, IsHistory}
use Rattle.hub_core.proofs.Opened.{release-more}
use Rattle.hub_core.proofs.Places.{get-map, map-get, append-get, set-get, changed-tail, changed-get, length-changed, changed-same, map-changed, map-twice}
use Rattle.hub_core.proofs.Sending.{both}

abbrev gate_asked : Asking → Gate
gate_asked asking = asking.approval.gate

-- A submission that is remembered is this one of this number, as it was accepted: the gates that were opened for it are those
-- that the history opened, and a release asks for the gates that the prescribed one holds.
record IsOf (setup : Setup) (number : ℕ) (mail : LiveMail) (a : Accepted) : Type 0 where
  submission : mail.submission ≡ a.submission
  moment : mail.accepted_at ≡ a.moment
  epoch : mail.epoch ≡ a.epoch
  org : (mail.org ≡ None) ⊎ (mail.org ≡ Some a.org)
  opened : mail.opened ≡ a.opened
  releases : length mail.stages ≡ suc (length mail.opened)
  asked : (r : ℕ) (asks : List Asking) → slice_get mail.stages r ≡ Some (Some asks) → map gate_asked asks ≡ gates_of (release_for setup number a r).holds

-- and each of these, the first of which has this number
abbrev AreOf : Setup → ℕ → List LiveMail → List Accepted → Type 0
AreOf setup n [] [] = Unit {0}
AreOf setup n (mail ∷ live) [] = ⊥
AreOf setup n [] (a ∷ more) = ⊥
AreOf setup n (mail ∷ live) (a ∷ more) = IsOf setup n mail a × AreOf setup (n + 1) live more

freed-is : (setup : Setup) (n : ℕ) (mail : LiveMail) (a : Accepted) → IsOf setup n mail a → IsOf setup n (freed mail) a
freed-is setup n mail a is = by (list_any stage_open mail.stages)
  where
    by : (open_still : Bool) → IsOf setup n (cond open_still mail (record mail { org = None })) a
    by true = is
    by false = record { submission = is.submission; moment = is.moment; epoch = is.epoch; org = inl refl; opened = is.opened; releases = is.releases; asked = is.asked }

gates-asked : (made : ℕ) (holds : List Hold) → map gate_asked (map (asking_of made) holds) ≡ gates_of holds
gates-asked made [] = refl
gates-asked made (hold ∷ holds) = ap (λ (gates : List Gate). hold.gate ∷ gates) (gates-asked made holds)

stage_is : (a b : List Asking) → Some (Some a) ≡ Some (Some b) → a ≡ b
stage_is a b e = cc

set_asked : (setup : Setup) (n : ℕ) (mail : LiveMail) (a : Accepted) (release : ℕ) (asks : List Asking) → IsOf setup n mail a →
    map gate_asked asks ≡ gates_of (release_for setup n a release).holds →
    (r : ℕ) (other : List Asking) → slice_get (slice_set mail.stages release (Some asks)) r ≡ Some (Some other) → map gate_asked other ≡ gates_of (release_for setup n a r).holds
set_asked setup n mail a release asks is own r other e =
    elim (set-get mail.stages release (Some asks) r (Some other) e) [
      | inl old ↦ is.asked r other old
      | inr new ↦
          (let same : other ≡ asks = inner other asks new.0 in
          ap (map gate_asked) same ∙ own ∙ ap (λ (k : ℕ). gates_of (release_for setup n a k).holds) (sym new.1))
    ]
  where
    inner : (x y : List Asking) → Some x ≡ Some y → x ≡ y
    inner x y p = cc

-- the submission with a release categorised by the prescribed one
categorised-is : (setup : Setup) (n : ℕ) (mail : LiveMail) (a : Accepted) (release : ℕ) (plan : Release) → plan ≡ release_for setup n a release →
    IsOf setup n mail a → IsOf setup n (categorised release plan mail) a
categorised-is setup n mail a release plan own is = by (waits mail release)
  where
    asks : List Asking
    asks = map (asking_of (made_at mail.accepted_at mail.opened release)) plan.holds

    by : (b : Bool) → IsOf setup n (cond b (with_asks release asks mail) mail) a
    by true =
        freed-is setup n (record mail { stages = slice_set mail.stages release (Some asks) }) a
        (record {
          submission = is.submission;
          moment = is.moment;
          epoch = is.epoch;
          org = is.org;
          opened = is.opened;
          releases = length-set mail.stages release (Some asks) ∙ is.releases;
          asked = set_asked setup n mail a release asks is
              (gates-asked (made_at mail.accepted_at mail.opened release) plan.holds ∙ ap (λ (r : Release). gates_of r.holds) own);
        })
    by false = is

-- what a change of a release leaves of the gates that it asks for
abbrev KeepsGates : (Stage → Stage) → Type 0
KeepsGates f = (stage : Stage) (later : List Asking) → f stage ≡ Some later → (asks : List Asking) × (stage ≡ Some asks) × (map gate_asked later ≡ map gate_asked asks)

some_is : (a b : List Asking) → Some a ≡ Some b → a ≡ b
some_is a b e = cc

decided-keeps : (gate : ℕ) (by : List ℕ) (verdict : Verdict) (moment : ℕ) → KeepsGates (decided_stage gate by verdict moment)
decided-keeps gate by verdict moment None later e = absurd (cc)
decided-keeps gate by verdict moment (Some asks) later e =
    (asks, refl, ap (map gate_asked) (sym (some_is _ later e)) ∙ map-changed (decided_asking by verdict moment) gate_asked (λ asking. refl) gate asks)

expired-keeps : (moment : ℕ) → KeepsGates (expired_stage moment)
expired-keeps moment None later e = absurd (cc)
expired-keeps moment (Some asks) later e =
    (asks, refl, ap (map gate_asked) (sym (some_is _ later e)) ∙ map-twice (expired_asking moment) gate_asked (λ asking. refl) asks)

changed-asked : (f : Stage → Stage) → KeepsGates f → (stages : List Stage) (k r : ℕ) (later : List Asking) → slice_get (changed f k stages) r ≡ Some (Some later) →
    (asks : List Asking) × (slice_get stages r ≡ Some (Some asks)) × (map gate_asked later ≡ map gate_asked asks)
changed-asked f keeps stages k r later e =
    elim (changed-get f stages k r (Some later) e) [
      | inl same ↦ (later, same, refl)
      | inr new ↦ (let was = keeps new.0 later (sym new.2) in (was.0, new.1 ∙ ap (λ (s : Stage). Some s) was.1, was.2))
    ]

mapped-asked : (f : Stage → Stage) → KeepsGates f → (stages : List Stage) (r : ℕ) (later : List Asking) → slice_get (map f stages) r ≡ Some (Some later) →
    (asks : List Asking) × (slice_get stages r ≡ Some (Some asks)) × (map gate_asked later ≡ map gate_asked asks)
mapped-asked f keeps stages r later e =
    let new = map-get f stages r (Some later) e in
    let was = keeps new.0 later (sym new.2) in
    (was.0, new.1 ∙ ap (λ (s : Stage). Some s) was.1, was.2)

length-map-same : {X Y : Type 0} (f : X → Y) (xs : List X) → length (map f xs) ≡ length xs
length-map-same f [] = refl
length-map-same f (x ∷ xs) = ap suc (length-map-same f xs)

expired-is : (setup : Setup) (moment n : ℕ) (mail : LiveMail) (a : Accepted) → IsOf setup n mail a → IsOf setup n (expired_mail moment mail) a
expired-is setup moment n mail a is =
    freed-is setup n (record mail { stages = map (expired_stage moment) mail.stages }) a
    (record {
      submission = is.submission;
      moment = is.moment;
      epoch = is.epoch;
      org = is.org;
      opened = is.opened;
      releases = length-map-same (expired_stage moment) mail.stages ∙ is.releases;
      asked = λ r later e. let was = mapped-asked (expired_stage moment) (expired-keeps moment) mail.stages r later e in was.2 ∙ is.asked r was.0 was.1;
    })

-- the approval of a name is asked for by a categorised release
pub asking-there : (at : Option Stage) (gate : ℕ) (asking : Asking) → asking_in at gate ≡ Some asking → (asks : List Asking) × (at ≡ Some (Some asks)) × (slice_get asks gate ≡ Some asking)
asking-there None gate asking e = absurd (cc)
asking-there (Some None) gate asking e = absurd (cc)
asking-there (Some (Some asks)) gate asking e = (asks, refl, e)

rejected-is : (setup : Setup) (n : ℕ) (mail : LiveMail) (a : Accepted) (name : ApprovalName) (by : List ℕ) (moment : ℕ) (at : Option Asking) →
    IsOf setup n mail a → IsOf setup n (decided_with at name by verdicts.Reject moment mail) a
rejected-is setup n mail a name by moment None is = is
rejected-is setup n mail a name by moment (Some asking) is =
    let f = decided_stage name.gate by verdicts.Reject moment in
    freed-is setup n (record mail { stages = changed f name.release mail.stages }) a
    (record {
      submission = is.submission;
      moment = is.moment;
      epoch = is.epoch;
      org = is.org;
      opened = is.opened;
      releases = length-changed f name.release mail.stages ∙ is.releases;
      asked = λ r later e. let was = changed-asked f (decided-keeps name.gate by verdicts.Reject moment) mail.stages name.release r later e in was.2 ∙ is.asked r was.0 was.1;
    })

-- the gate that an approval opens is the one that the prescribed release holds
opens : (setup : Setup) (name : ApprovalName) (moment : ℕ) (mail : LiveMail) (a : Accepted) (asking : Asking) → asking_at mail name ≡ Some asking →
    IsOf setup name.submission mail a →
    opening_of (slice_get (gates_of (release_for setup name.submission a name.release).holds) name.gate) moment ≡ (record { gate = asking.approval.gate; moment = moment }) ∷ []
opens setup name moment mail a asking there is =
    let (asks, stage, ask) = asking-there (slice_get mail.stages name.release) name.gate asking there in
    ap (λ (gates : List Gate). opening_of (slice_get gates name.gate) moment) (sym (is.asked name.release asks stage))
    ∙ ap (λ (o : Option Gate). opening_of o moment) (get-map gate_asked asks name.gate asking ask)

approved-asked : (setup : Setup) (name : ApprovalName) (by : List ℕ) (moment : ℕ) (mail : LiveMail) (a : Accepted) → IsOf setup name.submission mail a →
    (r : ℕ) (later : List Asking) → slice_get (changed (decided_stage name.gate by verdicts.Approve moment) name.release mail.stages ++ None ∷ []) r ≡ Some (Some later) →
    map gate_asked later ≡ gates_of (release_for setup name.submission (with_opening setup name moment a) r).holds
approved-asked setup name by moment mail a is r later e =
    let f = decided_stage name.gate by verdicts.Approve moment in
    elim (append-get (changed f name.release mail.stages) None r (Some later) e) [
      | inl old ↦
          (let (asks, stage, same) = changed-asked f (decided-keeps name.gate by verdicts.Approve moment) mail.stages name.release r later old in
          let low = slice_get_within mail.stages r (Some asks) stage in
          let count = is.releases in
          let lengths = ap length is.opened in
          let within : r ≤ length a.opened = omega arith in
          same ∙ is.asked r asks stage
          ∙ ap (λ (release : Release). gates_of release.holds)
          (sym (release-more setup name.submission a (opening_of (slice_get (gates_of (release_for setup name.submission a name.release).holds) name.gate) moment) r within)))
      | inr new ↦ absurd (no_stage later new)
    ]
  where
    no_stage : (x : List Asking) → Some x ≡ None → ⊥
    no_stage x p = cc

approved-is : (setup : Setup) (mail : LiveMail) (a : Accepted) (name : ApprovalName) (by : List ℕ) (moment : ℕ) (asking : Asking) → asking_at mail name ≡ Some asking →
    IsOf setup name.submission mail a →
    IsOf setup name.submission (decided_with (Some asking) name by verdicts.Approve moment mail) (with_opening setup name moment a)
approved-is setup mail a name by moment asking there is =
    let f = decided_stage name.gate by verdicts.Approve moment in
    let opening = (let o : Opening = record { gate = asking.approval.gate; moment = moment } in o) in
    freed-is setup name.submission
    (record mail { opened = mail.opened ++ opening ∷ []; stages = changed f name.release mail.stages ++ None ∷ [] }) (with_opening setup name moment a)
    (record {
      submission = is.submission;
      moment = is.moment;
      epoch = is.epoch;
      org = is.org;
      opened = (λ i. is.opened i ++ sym (opens setup name moment mail a asking there is) i);
      releases =
          (let one = length-append (changed f name.release mail.stages) (None ∷ []) in
          let two = length-append mail.opened (opening ∷ []) in
          let three = length-changed f name.release mail.stages in
          let four = is.releases in omega arith);
      asked = approved-asked setup name by moment mail a is;
    })

no_mail : (mail : LiveMail) → None ≡ Some mail → ⊥
no_mail mail e = cc

some_mail : (a b : LiveMail) → Some a ≡ Some b → a ≡ b
some_mail a b e = cc

are-changed : (setup : Setup) (n k : ℕ) (f : LiveMail → LiveMail) (g : Accepted → Accepted) (live : List LiveMail) (all : List Accepted) →
    ((number : ℕ) (mail : LiveMail) (a : Accepted) → number ≡ n + k → slice_get live k ≡ Some mail → slice_get all k ≡ Some a → IsOf setup number mail a → IsOf setup number (f mail) (g a)) →
    AreOf setup n live all → AreOf setup n (changed f k live) (changed g k all)
are-changed setup n k f g [] [] step are = are
are-changed setup n k f g [] (a ∷ all) step are = absurd are
are-changed setup n k f g (m ∷ live) [] step are = absurd are
are-changed setup n zero f g (m ∷ live) (a ∷ all) step are = (step n m a (omega arith) refl refl are.0, are.1)
are-changed setup n (suc k) f g (m ∷ live) (a ∷ all) step are =
    subst (λ (xs : List LiveMail). AreOf setup n xs (changed g (suc k) (a ∷ all))) (sym (changed-tail f m live k))
    (subst (λ (ys : List Accepted). AreOf setup n (m ∷ changed f k live) ys) (sym (changed-tail g a all k))
    (are.0, are-changed setup (n + 1) k f g live all (λ number mail b e at there is. step number mail b (omega arith) at there is) are.1))

are-mapped : (setup : Setup) (n : ℕ) (f : LiveMail → LiveMail) (live : List LiveMail) (all : List Accepted) →
    ((number : ℕ) (mail : LiveMail) (a : Accepted) → IsOf setup number mail a → IsOf setup number (f mail) a) → AreOf setup n live all → AreOf setup n (map f live) all
are-mapped setup n f [] [] step are = are
are-mapped setup n f [] (a ∷ all) step are = absurd are
are-mapped setup n f (m ∷ live) [] step are = absurd are
are-mapped setup n f (m ∷ live) (a ∷ all) step are = (step n m a are.0, are-mapped setup (n + 1) f live all step are.1)

are-push : (setup : Setup) (n : ℕ) (live : List LiveMail) (all : List Accepted) (mail : LiveMail) (a : Accepted) → ((number : ℕ) → IsOf setup number mail a) → AreOf setup n live all →
    AreOf setup n (live ++ mail ∷ []) (all ++ a ∷ [])
are-push setup n [] [] mail a is are = (is n, tt)
are-push setup n [] (b ∷ all) mail a is are = absurd are
are-push setup n (m ∷ live) [] mail a is are = absurd are
are-push setup n (m ∷ live) (b ∷ all) mail a is are = (are.0, are-push setup (n + 1) live all mail a is are.1)

-- The state of a history agrees with what the history says of submissions.
record Agrees (setup : Setup) (s : Standing) (p : Past) : Type 0 where
  epoch : s.epoch ≡ p.epoch
  newest : s.newest ≡ p.org
  live : AreOf setup 1 s.live p.accepted

no_ask : (r : ℕ) (asks : List Asking) → slice_get {X = Stage} (None ∷ []) r ≡ Some (Some asks) → ⊥
no_ask zero asks e = cc
no_ask (suc r) asks e = cc

new-is : (setup : Setup) (submission : Submitted) (moment epoch other : ℕ) (org texts : Texts) → epoch ≡ other → org ≡ texts → (number : ℕ) →
    IsOf setup number (new_mail submission moment epoch org) (record { submission = submission; moment = moment; epoch = other; org = texts; opened = [] })
new-is setup submission moment epoch other org texts same own number = record {
  submission = refl;
  moment = refl;
  epoch = same;
  org = inr (ap (λ (t : Texts). Some t) own);
  opened = refl;
  releases = refl;
  asked = λ r asks e. absurd (no_ask r asks e);
}

-- a decision that is taken is made on an approval that is there
pub taken-there : (at : Option LiveMail) (name : ApprovalName) (by : List ℕ) (verdict : Verdict) (moment : ℕ) → is_taken (decision_in at name by verdict moment) ≡ true →
    (mail : LiveMail) × (at ≡ Some mail) × ((asking : Asking) × (asking_at mail name ≡ Some asking) × (is_taken (Some (decide_answer asking.approval by moment)) ≡ true))
taken-there None name by verdict moment e = absurd (cc)
taken-there (Some mail) name by verdict moment e = (mail, refl, may (can_decide verdict mail) (asking_at mail name) e)
  where
    may : (can : Bool) (there : Option Asking) → is_taken (option_map (λ (asking : Asking). decide_answer asking.approval by moment) (cond can there None)) ≡ true →
        (asking : Asking) × (there ≡ Some asking) × (is_taken (Some (decide_answer asking.approval by moment)) ≡ true)
    may true None h = absurd (cc)
    may true (Some asking) h = (asking, refl, h)
    may false there h = absurd (cc)

pub mail-there : (s : Standing) (number : ℕ) (mail : LiveMail) → mail_of s number ≡ Some mail → (1 ≤ number) × (slice_get s.live (number - 1) ≡ Some mail)
mail-there s number mail e = by (nat_le 1 number) refl e
  where
    by : (b : Bool) → nat_le 1 number ≡ b → cond b (slice_get s.live (number - 1)) None ≡ Some mail → (1 ≤ number) × (slice_get s.live (number - 1) ≡ Some mail)
    by true some at = (grind (arith, nat_tests), at)
    by false some at = absurd (no_mail mail at)

approve-step : (setup : Setup) (s : Standing) (p : Past) (name : ApprovalName) (by : List ℕ) (moment : ℕ) →
    is_taken (decision_in (mail_of s name.submission) name by verdicts.Approve moment) ≡ true → AreOf setup 1 s.live p.accepted →
    AreOf setup 1 (changed (decided_mail name by verdicts.Approve moment) (name.submission - 1) s.live) (changed (with_opening setup name moment) (name.submission - 1) p.accepted)
approve-step setup s p name by moment taken are =
    let (mail, there, asks) = taken-there (mail_of s name.submission) name by verdicts.Approve moment taken in
    let at = mail-there s name.submission mail there in
    are-changed setup 1 (name.submission - 1) (decided_mail name by verdicts.Approve moment) (with_opening setup name moment) s.live p.accepted
    (λ number own a e here there is. one mail asks.0 asks.1 own a (some_mail own mail (sym here ∙ at.1)) number (let some = at.0 in omega arith) is) are
  where
    one : (mail : LiveMail) (asking : Asking) → asking_at mail name ≡ Some asking → (own : LiveMail) (a : Accepted) → own ≡ mail → (number : ℕ) → number ≡ name.submission →
        IsOf setup number own a → IsOf setup number (decided_mail name by verdicts.Approve moment own) (with_opening setup name moment a)
    one mail asking there own a same number at is =
        subst (λ (k : ℕ). IsOf setup k (decided_mail name by verdicts.Approve moment own) (with_opening setup name moment a)) (sym at)
        (let there-own : asking_at own name ≡ Some asking = ap (λ (m : LiveMail). asking_at m name) same ∙ there in
        subst (λ (o : Option Asking). IsOf setup name.submission (decided_with o name by verdicts.Approve moment own) (with_opening setup name moment a)) (sym there-own)
        (approved-is setup own a name by moment asking there-own (subst (λ (k : ℕ). IsOf setup k own a) at is)))

some_accepted : (a b : Accepted) → Some a ≡ Some b → a ≡ b
some_accepted a b e = cc

live-step : (setup : Setup) (h : List Entry) (e : Entry) → IsStep setup h e → Agrees setup (standing setup h) (past setup h) →
    AreOf setup 1 (state_after setup (standing setup h) e).live (past_after setup (past setup h) e).accepted
live-step setup h (entries.Organised d r) c is = is.live
live-step setup h (entries.Accepted m x) c is =
    let s = standing setup h in
    let p = past setup h in
    are-push setup 1 s.live p.accepted _ _ (new-is setup x m s.epoch p.epoch s.newest p.org is.epoch is.newest) is.live
live-step setup h (entries.Categorised n r plan) c is =
    let s = standing setup h in
    let p = past setup h in
    subst (λ (all : List Accepted). AreOf setup 1 (changed (categorised r plan) (n - 1) s.live) all) (changed-same (n - 1) p.accepted)
    (are-changed setup 1 (n - 1) (categorised r plan) (λ a. a) s.live p.accepted
    (λ number mail a e here there of.
    categorised-is setup number mail a r plan
    (c.1.4 ∙ (λ i. release_for setup ((let some = c.1.1 in let k : n ≡ number = omega arith in k) i) (some_accepted c.1.0 a (sym c.1.2 ∙ there) i) r)) of)
    is.live)
live-step setup h (entries.Decided name by verdicts.Approve moment) c is =
    approve-step setup (standing setup h) (past setup h) name by moment (both _ _ c.0).1 is.live
live-step setup h (entries.Decided name by verdicts.Reject moment) c is =
    let s = standing setup h in
    let p = past setup h in
    subst (λ (all : List Accepted). AreOf setup 1 (changed (decided_mail name by verdicts.Reject moment) (name.submission - 1) s.live) all)
    (changed-same (name.submission - 1) p.accepted)
    (are-changed setup 1 (name.submission - 1) (decided_mail name by verdicts.Reject moment) (λ a. a) s.live p.accepted
    (λ number mail a e here there of. rejected-is setup number mail a name by moment (asking_at mail name) of) is.live)
live-step setup h (entries.Moment moment) c is =
    are-mapped setup 1 (expired_mail moment) (standing setup h).live (past setup h).accepted (λ number mail a of. expired-is setup moment number mail a of) is.live
live-step setup h (entries.Delivered name) c is = is.live
live-step setup h (entries.Delayed name) c is = is.live
live-step setup h (entries.Ended name) c is = is.live
live-step setup h (entries.Forgot number) c is = is.live

epoch-step : (setup : Setup) (s : Standing) (p : Past) (e : Entry) → s.epoch ≡ p.epoch → (state_after setup s e).epoch ≡ (past_after setup p e).epoch
epoch-step setup s p (entries.Organised d r) same = ap (λ (n : ℕ). n + 1) same
epoch-step setup s p (entries.Accepted m x) same = same
epoch-step setup s p (entries.Categorised n r plan) same = same
epoch-step setup s p (entries.Decided name by verdict moment) same = same
epoch-step setup s p (entries.Moment moment) same = same
epoch-step setup s p (entries.Delivered name) same = same
epoch-step setup s p (entries.Delayed name) same = same
epoch-step setup s p (entries.Ended name) same = same
epoch-step setup s p (entries.Forgot number) same = same

newest-step : (setup : Setup) (s : Standing) (p : Past) (e : Entry) → s.newest ≡ p.org → (state_after setup s e).newest ≡ (past_after setup p e).org
newest-step setup s p (entries.Organised d r) same = refl
newest-step setup s p (entries.Accepted m x) same = same
newest-step setup s p (entries.Categorised n r plan) same = same
newest-step setup s p (entries.Decided name by verdict moment) same = same
newest-step setup s p (entries.Moment moment) same = same
newest-step setup s p (entries.Delivered name) same = same
newest-step setup s p (entries.Delayed name) same = same
newest-step setup s p (entries.Ended name) same = same
newest-step setup s p (entries.Forgot number) same = same

abbrev AgreesAt : Setup → List Entry → Type 0
AgreesAt setup h = Agrees setup (standing setup h) (past setup h)

step : (setup : Setup) (h : List Entry) (e : Entry) → IsStep setup h e → AgreesAt setup h → AgreesAt setup (h ++ e ∷ [])
step setup h e c is =
    subst (λ (s : Standing). Agrees setup s (past setup (h ++ e ∷ []))) (sym (fold-append (state_after setup) (start setup) h (e ∷ [])))
    (subst (λ (p : Past). Agrees setup (state_after setup (standing setup h) e) p) (sym (fold-append (past_after setup) no_past h (e ∷ [])))
    (record {
      epoch = epoch-step setup (standing setup h) (past setup h) e is.epoch;
      newest = newest-step setup (standing setup h) (past setup h) e is.newest;
      live = live-step setup h e c is;
    }))

steps : (setup : Setup) (before h : List Entry) → AreSteps setup before h → AgreesAt setup before → AgreesAt setup (before ++ h)
steps setup before [] c is = subst (λ (h : List Entry). AgreesAt setup h) (sym (append-nil before)) is
steps setup before (e ∷ h) c is =
    subst (λ (all : List Entry). AgreesAt setup all) (append_assoc before (e ∷ []) h) (steps setup (before ++ e ∷ []) h c.1 (step setup before e c.0 is))

agrees : (setup : Setup) (h : List Entry) → IsHistory setup h → AgreesAt setup h
agrees setup h c = steps setup [] h c (record { epoch = refl; newest = refl; live = tt })

are-at : (setup : Setup) (n : ℕ) (live : List LiveMail) (all : List Accepted) (k : ℕ) (mail : LiveMail) → AreOf setup n live all → slice_get live k ≡ Some mail →
    (a : Accepted) × (slice_get all k ≡ Some a) × IsOf setup (n + k) mail a
are-at setup n [] all k mail are at = absurd (no_mail mail at)
are-at setup n (m ∷ live) [] k mail are at = absurd are
are-at setup n (m ∷ live) (a ∷ all) zero mail are at =
    let first : n ≡ n + 0 = omega arith in
    (a, refl, subst (λ (x : LiveMail). IsOf setup (n + 0) x a) (some_mail m mail at) (subst (λ (number : ℕ). IsOf setup number m a) first are.0))
are-at setup n (m ∷ live) (a ∷ all) (suc k) mail are at =
    let (b, there, is) = are-at setup (n + 1) live all k mail are.1 at in
    let next : n + 1 + k ≡ n + suc k = omega arith in
    (b, there, subst (λ (number : ℕ). IsOf setup number mail b) next is)

own_org : (o : Option Texts) (a b : Texts) → (o ≡ None) ⊎ (o ≡ Some b) → o ≡ Some a → a ≡ b
own_org o a b (inl none) some = absurd (none_some a (sym none ∙ some))
  where
    none_some : (a : Texts) → None ≡ Some a → ⊥
    none_some a e = cc
own_org o a b (inr other) some = texts_is a b (sym some ∙ other)
  where
    texts_is : (a b : Texts) → Some a ≡ Some b → a ≡ b
    texts_is a b e = cc

input-is : (setup : Setup) (n m : ℕ) (mail : LiveMail) (r : ℕ) (org : Texts) (a : Accepted) → IsOf setup m mail a → org ≡ a.org →
    setup.release_of org (input_of n mail r) ≡ release_for setup n a r
input-is setup n m mail r org a is same =
    λ i. setup.release_of (same i) (input_at (first_input n (is.epoch i) (is.moment i) (is.submission i)) (is.opened i) r)

pub waits-low : (stages : List Stage) (r : ℕ) (at : Option Stage) → slice_get stages r ≡ at → waits_in at ≡ true → (stage : Stage) × (slice_get stages r ≡ Some stage)
waits-low stages r None e h = absurd (cc)
waits-low stages r (Some stage) e h = (stage, e)

-- a release that waits to be categorised is one of the submission that was accepted at its place, and is that of its task
pub waiting_accepted : (setup : Setup) (h : List Entry) → IsHistory setup h → (place release : ℕ) (mail : LiveMail) (org : Texts) →
    slice_get (standing setup h).live place ≡ Some mail → mail.org ≡ Some org → waits mail release ≡ true →
    (a : Accepted) × (slice_get (accepted setup h) place ≡ Some a) × (release ≤ length a.opened)
    × (setup.release_of org (input_of (place + 1) mail release) ≡ release_for setup (place + 1) a release)
waiting_accepted setup h c place release mail org at some wait =
    let (a, there, is) = are-at setup 1 (standing setup h).live (accepted setup h) place mail (agrees setup h c).live at in
    let (stage, stands) = waits-low mail.stages release (slice_get mail.stages release) refl wait in
    let low = slice_get_within mail.stages release stage stands in
    let count = is.releases in
    let lengths = ap length is.opened in
    (a, there, (omega arith), input-is setup (place + 1) (1 + place) mail release org a is (own_org mail.org org a.org is.org some))
