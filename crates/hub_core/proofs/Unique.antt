-- No two items that are prescribed have one name.
use Rattle.std.proofs.Common.{◌≡◌, ◌≢◌, ℕ, zero, suc, ◌+◌, ◌<◌, ◌≤◌, Bool, true, false, cond, List, [], ◌∷◌, length, Option, Some, None, refl, ap, ◌∙◌, sym, subst, inl, inr, arith}
use Rattle.std.specs.Prelude.{option_map, find}
use Rattle.std.specs.List.{AllPairs, IsDistinct}
use Rattle.std.proofs.lemmas.Map.Keys.{IsDistinct-head, IsDistinct-tail}
use Rattle.std.proofs.lemmas.Map.Made.{AllPairs-from_IsDistinct}
use Rattle.mail_names.specs.declared.name.ApprovalName.{ApprovalName}
use Rattle.mail_names.specs.declared.name.ItemName.{ItemName}
use Rattle.mail_names.specs.declared.name.Mark.TheVariants as marks
use Rattle.moderation.specs.Approval.{decide_answer, runs_out}
use Rattle.moderation.specs.declared.approval.Verdict.TheVariants as verdicts
use Rattle.mail_notices.specs.declared.kinds.Notice.{Notice}
use Rattle.mail_notices.specs.declared.kinds.Notice.TheVariants as notices
use Rattle.journal_report.specs.declared.why.Why.{Why}
use Rattle.mail_submission.specs.Submission.{Submitted}
use Rattle.mail_plan.specs.Planning.{Input, are_named, is_release, first_input, input_at}
use Rattle.log_entry.specs.declared.entry.Entry.{Entry}
use Rattle.log_entry.specs.declared.entry.Entry.TheVariants as entries
use Rattle.hub_core.specs.declared.asking.Asking.{Asking}
use Rattle.hub_core.specs.declared.queue.QueuedItem.{QueuedItem}
use Rattle.hub_core.specs.Setup.{Texts, Setup}
use Rattle.hub_core.specs.Approvals.{Stage, asks_in}
use Rattle.hub_core.specs.Mail.{LiveMail, asking_at, is_taken}
use Rattle.hub_core.specs.Ending.{is_told, approval_name, end_notice, told, end_told, run_out_told, asks_told, stages_told, all_told}
use Rattle.mail_names.specs.Names.{same_name}
use Rattle.hub_core.specs.declared.waiting.WaitingItem.{WaitingItem}
use Rattle.hub_core.specs.Waiting.{is_named}
use Rattle.hub_core.specs.Delivery.{delay_name, delay_notice, failure_name, failure_notice, of_version, to_sender}
use Rattle.hub_core.specs.Standing.{Standing, start, state_after, mail_of, mail_in, queued_all, refused_told, decided_told, delayed_told, ended_told, told_by}
use Rattle.hub_core.specs.Items.{Accepted, accepted, release_for, items_to, items_of, notices_from, items, Among}
use Rattle.hub_core.proofs.Sending.{both}
use Rattle.hub_core.proofs.Named.{Misses, InRelease, name_decides, differs, none, own_name, single, all-map, distinct_both, apart, in_release, places_distinct}
use Rattle.hub_core.proofs.Spent.{Spent, Spends, Sound, sound-start, sound-stays, spent-stays, told-spends}
use Rattle.hub_core.proofs.Settled.{names, All, all-both, run-out-all, asks-all, stages-all, all-all}

-- the name of an item of the first releases, so many
record InFirst (n count : ℕ) (name : ItemName) : Type 0 where
  submission : name.submission ≡ n
  release : name.release < count
  mark : name.mark ≡ marks.Plain

-- and of a submission of this number or a later one
record InLater (n : ℕ) (name : ItemName) : Type 0 where
  submission : n ≤ name.submission
  mark : name.mark ≡ marks.Plain

-- A release has the form of one, whatever it is made from.
abbrev pub AreReleases : Setup → Type 0
AreReleases setup = (texts : Texts) (input : Input) → is_release input.number input.release (setup.release_of texts input) ≡ true

told-distinct : (setup : Setup) (name : ApprovalName) (mail : LiveMail) (asking : Asking) (moment : ℕ) (what : Notice) (sender : Option (List ℕ)) →
    IsDistinct same_name (names (told setup name mail asking moment what sender))
told-distinct setup name mail asking moment what None = none
told-distinct setup name mail asking moment what (Some sender) = by (is_told setup mail.org sender asking.tell)
  where
    by : (b : Bool) → IsDistinct same_name (names (cond b (end_notice name mail.submission sender moment what ∷ []) []))
    by true = single _
    by false = none

run-out-distinct : (setup : Setup) (name : ApprovalName) (mail : LiveMail) (asking : Asking) (moment : ℕ) → IsDistinct same_name (names (run_out_told setup name mail asking moment))
run-out-distinct setup name mail asking moment = by (runs_out asking.approval moment)
  where
    by : (b : Bool) → IsDistinct same_name (names (cond b (end_told setup name mail asking moment (notices.RanOut name asking.label asking.approval.deadline)) []))
    by true = told-distinct setup name mail asking moment (notices.RanOut name asking.label asking.approval.deadline) mail.submission.reverse
    by false = none

asks-distinct : (setup : Setup) (mail : LiveMail) (moment n r gate : ℕ) (asks : List Asking) → IsDistinct same_name (names (asks_told setup mail moment n r gate asks))
asks-distinct setup mail moment n r gate [] = none
asks-distinct setup mail moment n r gate (asking ∷ asks) =
    let one = run_out_told setup (approval_name n r gate) mail asking moment in
    let more = asks_told setup mail moment n r (gate + 1) asks in
    distinct_both one more (run-out-distinct setup (approval_name n r gate) mail asking moment) (asks-distinct setup mail moment n r (gate + 1) asks)
    (apart (λ (a : ItemName). a.place ≡ gate) (λ (b : ItemName). gate + 1 ≤ b.place)
    (λ a b here behind e. (let places = ap (λ (x : ItemName). x.place) e in omega arith)) one more
    (run-out-all (λ (a : ItemName). a.place ≡ gate) setup (approval_name n r gate) mail asking moment (λ out. refl))
    (asks-all (λ (b : ItemName). gate + 1 ≤ b.place) setup mail moment n r (gate + 1) asks (λ k at other e there out. omega arith)))

stages-distinct : (setup : Setup) (mail : LiveMail) (moment n r : ℕ) (stages : List Stage) → IsDistinct same_name (names (stages_told setup mail moment n r stages))
stages-distinct setup mail moment n r [] = none
stages-distinct setup mail moment n r (stage ∷ stages) =
    let one = asks_told setup mail moment n r 0 (asks_in stage) in
    let more = stages_told setup mail moment n (r + 1) stages in
    distinct_both one more (asks-distinct setup mail moment n r 0 (asks_in stage)) (stages-distinct setup mail moment n (r + 1) stages)
    (apart (λ (a : ItemName). a.release ≡ r) (λ (b : ItemName). r + 1 ≤ b.release)
    (λ a b here behind e. (let releases = ap (λ (x : ItemName). x.release) e in omega arith)) one more
    (asks-all (λ (a : ItemName). a.release ≡ r) setup mail moment n r 0 (asks_in stage) (λ k at other e there out. refl))
    (stages-all (λ (b : ItemName). r + 1 ≤ b.release) setup mail moment n (r + 1) stages (λ k at g e out. omega arith)))

all-distinct : (setup : Setup) (moment n : ℕ) (live : List LiveMail) → IsDistinct same_name (names (all_told setup moment n live))
all-distinct setup moment n [] = none
all-distinct setup moment n (mail ∷ live) =
    let one = stages_told setup mail moment n 0 mail.stages in
    let more = all_told setup moment (n + 1) live in
    distinct_both one more (stages-distinct setup mail moment n 0 mail.stages) (all-distinct setup moment (n + 1) live)
    (apart (λ (a : ItemName). a.submission ≡ n) (λ (b : ItemName). n + 1 ≤ b.submission)
    (λ a b here behind e. (let numbers = ap (λ (x : ItemName). x.submission) e in omega arith)) one more
    (stages-all (λ (a : ItemName). a.submission ≡ n) setup mail moment n 0 mail.stages (λ k at g e out. refl))
    (all-all (λ (b : ItemName). n + 1 ≤ b.submission) setup moment (n + 1) live (λ k at r g other e there out. omega arith)))

refused-distinct : (setup : Setup) (name : ApprovalName) (by : List ℕ) (moment : ℕ) (mail : LiveMail) (at : Option Asking) → IsDistinct same_name (names (refused_told setup name by moment mail at))
refused-distinct setup name by moment mail None = none
refused-distinct setup name by moment mail (Some asking) = told-distinct setup name mail asking moment (notices.Refused name asking.label by) mail.submission.reverse

refusal-distinct : (setup : Setup) (name : ApprovalName) (by : List ℕ) (moment : ℕ) (at : Option LiveMail) → IsDistinct same_name (names (decided_told setup name by moment at))
refusal-distinct setup name by moment None = none
refusal-distinct setup name by moment (Some mail) = if-taken (is_taken (option_map (λ (asking : Asking). decide_answer asking.approval by moment) (asking_at mail name)))
  where
    if-taken : (b : Bool) → IsDistinct same_name (names (cond b (refused_told setup name by moment mail (asking_at mail name)) []))
    if-taken true = refused-distinct setup name by moment mail (asking_at mail name)
    if-taken false = none

sender-distinct : (own : ItemName) (moment : ℕ) (what : Notice) (submission : Submitted) (reverse : Option (List ℕ)) → IsDistinct same_name (names (to_sender own moment what submission reverse))
sender-distinct own moment what submission None = none
sender-distinct own moment what submission (Some sender) = single own

version-distinct : (own : ItemName) (moment : ℕ) (what : Why → Notice) (mail : Option LiveMail) (version : Option Why) → IsDistinct same_name (names (of_version own moment what mail version))
version-distinct own moment what None version = none
version-distinct own moment what (Some mail) None = none
version-distinct own moment what (Some mail) (Some why) = sender-distinct own moment (what why) mail.submission mail.submission.reverse

delayed-distinct : (s : Standing) (at : Option WaitingItem) → IsDistinct same_name (names (delayed_told s at))
delayed-distinct s None = none
delayed-distinct s (Some w) = by w.told
  where
    notice : List QueuedItem
    notice = of_version (delay_name w.item.name) s.moment (delay_notice w) (mail_in s w) w.version

    by : (told : Bool) → IsDistinct same_name (names (cond told [] notice))
    by true = none
    by false = version-distinct (delay_name w.item.name) s.moment (delay_notice w) (mail_in s w) w.version

ended-distinct : (s : Standing) (at : Option WaitingItem) → IsDistinct same_name (names (ended_told s at))
ended-distinct s None = none
ended-distinct s (Some w) = version-distinct (failure_name w.item.name) s.moment (failure_notice w s.moment) (mail_in s w) w.version

entry-distinct : (setup : Setup) (s : Standing) (e : Entry) → IsDistinct same_name (names (told_by setup s e))
entry-distinct setup s (entries.Organised d r) = none
entry-distinct setup s (entries.Accepted m x) = none
entry-distinct setup s (entries.Categorised n r plan) = none
entry-distinct setup s (entries.Decided name by verdicts.Approve m) = none
entry-distinct setup s (entries.Decided name by verdicts.Reject m) = refusal-distinct setup name by m (mail_of s name.submission)
entry-distinct setup s (entries.Moment m) = all-distinct setup m 1 s.live
entry-distinct setup s (entries.Delivered n) = none
entry-distinct setup s (entries.Delayed n) = delayed-distinct s (find (is_named n) s.waiting)
entry-distinct setup s (entries.Ended n) = ended-distinct s (find (is_named n) s.waiting)
entry-distinct setup s (entries.Forgot n) = none

-- What was told isn't told again.
spent-misses : (setup : Setup) (s : Standing) (h : List Entry) (name : ItemName) → Sound s → Spent s name → Misses name (notices_from setup s h)
spent-misses setup s [] name sound spent = tt
spent-misses setup s (e ∷ h) name sound spent =
    all-both (λ (other : ItemName). same_name name other ≡ false) (told_by setup s e) (notices_from setup (state_after setup s e) h)
    (all-map (Spends s (state_after setup s e)) (λ (other : ItemName). same_name name other ≡ false)
    (λ other spends. differs name other (λ same. spends.fresh (subst (λ (x : ItemName). Spent s x) same spent))) (told_by setup s e) (told-spends setup s e sound))
    (spent-misses setup (state_after setup s e) h name (sound-stays setup s e sound) (spent-stays setup s e name spent))

notices-distinct : (setup : Setup) (s : Standing) (h : List Entry) → Sound s → IsDistinct same_name (names (notices_from setup s h))
notices-distinct setup s [] sound = none
notices-distinct setup s (e ∷ h) sound =
    let later = state_after setup s e in
    let still = sound-stays setup s e sound in
    distinct_both (told_by setup s e) (notices_from setup later h) (entry-distinct setup s e) (notices-distinct setup later h still)
    (all-map (Spends s later) (λ (x : ItemName). Misses x (notices_from setup later h)) (λ name spends. spent-misses setup later h name still spends.spent) (told_by setup s e)
    (told-spends setup s e sound))

notices-marked : (setup : Setup) (s : Standing) (h : List Entry) → Sound s → All (λ (name : ItemName). name.mark ≡ marks.Plain → ⊥) (notices_from setup s h)
notices-marked setup s [] sound = tt
notices-marked setup s (e ∷ h) sound =
    let later = state_after setup s e in
    all-both (λ (name : ItemName). name.mark ≡ marks.Plain → ⊥) (told_by setup s e) (notices_from setup later h)
    (all-map (Spends s later) (λ (name : ItemName). name.mark ≡ marks.Plain → ⊥) (λ name spends. spends.marked) (told_by setup s e) (told-spends setup s e sound))
    (notices-marked setup later h (sound-stays setup s e sound))

misses-among : (name : ItemName) (xs : List QueuedItem) (y : QueuedItem) → Misses name xs → Among y xs → same_name name y.name ≡ false
misses-among name [] y misses b = absurd b
misses-among name (z ∷ xs) y misses (inl e) = subst (λ (w : QueuedItem). same_name name w.name ≡ false) (sym e) misses.0
misses-among name (z ∷ xs) y misses (inr b) = misses-among name xs y misses.1 b

-- An item isn't among others that miss its name.
not_among : (z y : QueuedItem) (xs : List QueuedItem) → Misses z.name xs → Among y xs → z.name ≡ y.name → ⊥
not_among z y xs misses b same = never (sym (misses-among z.name xs y misses b) ∙ (ap (λ (name : ItemName). same_name z.name name) (sym same) ∙ own_name z.name))
  where
    never : false ≡ true → ⊥
    never q = cc

one_of : (xs : List QueuedItem) → IsDistinct same_name (names xs) → (x y : QueuedItem) → Among x xs → Among y xs → x.name ≡ y.name → x ≡ y
one_of [] distinct x y a b same = absurd a
one_of (z ∷ xs) distinct x y (inl p) (inl q) same = p ∙ sym q
one_of (z ∷ xs) distinct x y (inl p) (inr b) same =
    absurd (not_among z y xs (IsDistinct-head same_name z.name (names xs) distinct) b (ap (λ (w : QueuedItem). w.name) (sym p) ∙ same))
one_of (z ∷ xs) distinct x y (inr a) (inl q) same =
    absurd (not_among z x xs (IsDistinct-head same_name z.name (names xs) distinct) a (ap (λ (w : QueuedItem). w.name) (sym q) ∙ sym same))
one_of (z ∷ xs) distinct x y (inr a) (inr b) same = one_of xs (IsDistinct-tail same_name z.name (names xs) distinct) x y a b same

module _ (setup : Setup) (releases : AreReleases setup) where
  named : (n : ℕ) (a : Accepted) (r : ℕ) → are_named n r 0 (release_for setup n a r).items ≡ true
  named n a r = (both _ _ (releases a.org (input_at (first_input n a.epoch a.moment a.submission) a.opened r))).0

  in-release : (n : ℕ) (a : Accepted) (r : ℕ) → All (InRelease n r 0) (queued_all (release_for setup n a r))
  in-release n a r = in_release (release_for setup n a r).texts n r 0 0 (release_for setup n a r).items (omega arith) (named n a r)

  in-first : (n : ℕ) (a : Accepted) (count : ℕ) → All (InFirst n count) (items_to setup n a count)
  in-first n a zero = tt
  in-first n a (suc r) =
      let before = items_to setup n a r in
      let here = queued_all (release_for setup n a r) in
      all-both (InFirst n (suc r)) before here
      (all-map (InFirst n r) (InFirst n (suc r)) (λ name is. (let low = is.release in record { submission = is.submission; release = omega arith; mark = is.mark })) before (in-first n a r))
      (all-map (InRelease n r 0) (InFirst n (suc r)) (λ name is. (let own = is.release in record { submission = is.submission; release = omega arith; mark = is.mark })) here (in-release n a r))

  first-distinct : (n : ℕ) (a : Accepted) (count : ℕ) → IsDistinct same_name (names (items_to setup n a count))
  first-distinct n a zero = none
  first-distinct n a (suc r) =
      let before = items_to setup n a r in
      let release = release_for setup n a r in
      distinct_both before (queued_all release) (first-distinct n a r) (places_distinct release.texts n r 0 release.items (named n a r))
      (apart (InFirst n r) (InRelease n r 0)
      (λ x y first own e. (let releases = ap (λ (name : ItemName). name.release) e in let low = first.release in let here = own.release in omega arith))
      before (queued_all release) (in-first n a r) (in-release n a r))

  in-later : (n : ℕ) (all : List Accepted) → All (InLater n) (items_of setup n all)
  in-later n [] = tt
  in-later n (a ∷ all) =
      let own = items_to setup n a (suc (length a.opened)) in
      all-both (InLater n) own (items_of setup (n + 1) all)
      (all-map (InFirst n (suc (length a.opened))) (InLater n) (λ name is. (let number = is.submission in record { submission = omega arith; mark = is.mark })) own
      (in-first n a (suc (length a.opened))))
      (all-map (InLater (n + 1)) (InLater n) (λ name is. (let number = is.submission in record { submission = omega arith; mark = is.mark })) (items_of setup (n + 1) all)
      (in-later (n + 1) all))

  later-distinct : (n : ℕ) (all : List Accepted) → IsDistinct same_name (names (items_of setup n all))
  later-distinct n [] = none
  later-distinct n (a ∷ all) =
      let own = items_to setup n a (suc (length a.opened)) in
      distinct_both own (items_of setup (n + 1) all) (first-distinct n a (suc (length a.opened))) (later-distinct (n + 1) all)
      (apart (InFirst n (suc (length a.opened))) (InLater (n + 1))
      (λ x y first later e. (let numbers = ap (λ (name : ItemName). name.submission) e in let here = first.submission in let low = later.submission in omega arith))
      own (items_of setup (n + 1) all) (in-first n a (suc (length a.opened))) (in-later (n + 1) all))

  names-distinct : (history : List Entry) → IsDistinct same_name (names (items setup history))
  names-distinct history =
      let sent = items_of setup 1 (accepted setup history) in
      let notices = notices_from setup (start setup) history in
      distinct_both sent notices (later-distinct 1 (accepted setup history)) (notices-distinct setup (start setup) history (sound-start setup))
      (apart (InLater 1) (λ (name : ItemName). name.mark ≡ marks.Plain → ⊥)
      (λ x y later marked e. marked (ap (λ (name : ItemName). name.mark) (sym e) ∙ later.mark)) sent notices (in-later 1 (accepted setup history))
      (notices-marked setup (start setup) history (sound-start setup)))

  -- of the items of any entries, no two have one name
  pub names-differ : (history : List Entry) → AllPairs (λ (a b : ItemName). a ≢ b) (names (items setup history))
  names-differ history = AllPairs-from_IsDistinct name_decides (names (items setup history)) (names-distinct history)

  pub one-item : (history : List Entry) (x y : QueuedItem) → Among x (items setup history) → Among y (items setup history) → x.name ≡ y.name → x ≡ y
  one-item history x y a b same = one_of (items setup history) (names-distinct history) x y a b same
