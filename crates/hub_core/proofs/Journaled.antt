-- What the journal of a history lists is what its categorised releases send, each target once.
use Rattle.std.proofs.Common.{◌≡◌, ℕ, zero, suc, ◌-◌, ◌≤◌, Bool, true, false, cond, List, [], ◌∷◌, ◌++◌, length, Option, Some, None, bytes_eq, refl, ap, ◌∙◌, sym, subst, inl, inr, arith, append_assoc, append-nil, length-append}
use Rattle.std.specs.Prelude.{slice_get, nat_le, ◌==◌}
use Rattle.std.specs.List.{AllByRecursion}
use Rattle.std.proofs.lemmas.Bool.{cases_order, or_cases, leb-true, false_from_ne_true}
use Rattle.std.proofs.lemmas.Bool.Decides.{Decides-eqb}
use Rattle.std.proofs.lemmas.Grind.{fold-append}
use Rattle.std.proofs.lemmas.List.Folds.{list_any-append}
use Rattle.mail_names.specs.declared.gate.Gate.{Gate}
use Rattle.moderation.specs.declared.approval.Verdict.TheVariants as verdicts
use Rattle.mail_plan.proofs.Offered.{joined-distinct}
use Rattle.mail_submission.specs.Fits.{IsSubmission}
use Rattle.mail_plan.specs.Fits.{IsRelease}
use Rattle.log_entry.specs.Entries.{IsEntry}
use Rattle.mail_plan.specs.Planning.{Input, IsInput, Opening, Reports, is_among, are_distinct, targets, gates_of, moment_or, made_at, first_input, input_at}
use Rattle.log_entry.specs.declared.entry.Entry.{Entry}
use Rattle.log_entry.specs.declared.entry.Entry.TheVariants as entries
use Rattle.mail_plan.specs.declared.release.Release.{Release}
use Rattle.hub_core.specs.Setup.{Setup}
use Rattle.hub_core.specs.Approvals.{changed}
use Rattle.hub_core.specs.Mail.{LiveMail, is_uncategorised}
use Rattle.mail_names.specs.Dates.{last_moment}
use Rattle.hub_core.specs.Standing.{Standing, start, standing, state_after, mail_of, is_moment}
use Rattle.hub_core.specs.Items.{Accepted, Past, no_past, past, past_after, accepted, release_for, opening_of, with_opening, IsStep, AreSteps, IsHistory}
use Rattle.hub_core.specs.Journal.{categorised_of, IsJournaled}
use Rattle.hub_core.proofs.Categorised.{WasCategorised, categorised-stays, not-categorised, now-categorised}
use Rattle.hub_core.proofs.Opened.{release-more}
use Rattle.hub_core.proofs.Planned.{IsPlanned}
use Rattle.hub_core.proofs.Places.{get-append, append-get, get-changed, changed-get}
use Rattle.hub_core.proofs.Reporting.{sent, sent-push, are-reported}
use Rattle.hub_core.proofs.Sending.{both}

-- What is opened is opened by the last moment.
abbrev InTime : Opening → Type 0
InTime opening = opening.moment ≤ last_moment

or-in-time : (first : ℕ) (openings : List Opening) (r : ℕ) → first ≤ last_moment → AllByRecursion InTime openings → moment_or first (slice_get openings r) ≤ last_moment
or-in-time first [] r low all = low
or-in-time first (opening ∷ openings) zero low all = all.0
or-in-time first (opening ∷ openings) (suc r) low all = or-in-time first openings r low all.1

made-in-time : (first : ℕ) (openings : List Opening) (r : ℕ) → first ≤ last_moment → AllByRecursion InTime openings → made_at first openings r ≤ last_moment
made-in-time first openings zero low all = low
made-in-time first openings (suc r) low all = or-in-time first openings r low all

all-join : {X : Type 0} (P : X → Type 0) (xs ys : List X) → AllByRecursion P xs → AllByRecursion P ys → AllByRecursion P (xs ++ ys)
all-join P [] ys h g = g
all-join P (x ∷ xs) ys h g = (h.0, all-join P xs ys h.1 g)

-- The target is sent by a release of the submission of this number that was categorised.
record Sends (setup : Setup) (n : ℕ) (live : List LiveMail) (a : Accepted) (key : List ℕ) : Type 0 where
  release : ℕ
  low : release ≤ length a.opened
  known : WasCategorised n release live
  there : is_among key (targets (release_for setup n a release).items) ≡ true

-- what holds of an accepted submission and of its releases that were categorised
record Told (setup : Setup) (n : ℕ) (live : List LiveMail) (a : Accepted) (plans : List Release) : Type 0 where
  submission : IsSubmission a.submission
  moment : a.moment ≤ last_moment
  openings : AllByRecursion InTime a.opened
  reported : AllByRecursion (Reports (setup.takes a.org a.submission.reverse)) plans
  once : are_distinct (sent plans) ≡ true
  sends : (key : List ℕ) → is_among key (sent plans) ≡ true → Sends setup n live a key

-- and where nothing was accepted, nothing was categorised
abbrev ToldAt : Setup → ℕ → List LiveMail → List Release → Option Accepted → Type 0
ToldAt setup n live plans None = plans ≡ []
ToldAt setup n live plans (Some a) = Told setup n live a plans

abbrev input_for : ℕ → Accepted → ℕ → Input
input_for n a r = input_at (first_input n a.epoch a.moment a.submission) a.opened r

is-input : (setup : Setup) (n : ℕ) (live : List LiveMail) (a : Accepted) (plans : List Release) → Told setup n live a plans → (r : ℕ) → IsInput (input_for n a r)
is-input setup n live a plans told r = record { submission = told.submission; made = made-in-time a.moment a.opened r told.moment told.openings }

-- What is categorised later leaves what is told.
told-later : (setup : Setup) (n : ℕ) (live later : List LiveMail) (a : Accepted) (plans : List Release) → ((r : ℕ) → WasCategorised n r live → WasCategorised n r later) →
    Told setup n live a plans → Told setup n later a plans
told-later setup n live later a plans stays told = record {
  submission = told.submission;
  moment = told.moment;
  openings = told.openings;
  reported = told.reported;
  once = told.once;
  sends = λ key h. (let old = told.sends key h in record { release = old.release; low = old.low; known = stays old.release old.known; there = old.there });
}

at-later : (setup : Setup) (n : ℕ) (live later : List LiveMail) (plans : List Release) (at : Option Accepted) → ((r : ℕ) → WasCategorised n r live → WasCategorised n r later) →
    ToldAt setup n live plans at → ToldAt setup n later plans at
at-later setup n live later plans None stays told = told
at-later setup n live later plans (Some a) stays told = told-later setup n live later a plans stays told

-- So does what is opened later.
told-opened : (setup : Setup) (n : ℕ) (live : List LiveMail) (a : Accepted) (plans : List Release) (more : List Opening) → AllByRecursion InTime more → Told setup n live a plans →
    Told setup n live (record a { opened = a.opened ++ more }) plans
told-opened setup n live a plans more early told = record {
  submission = told.submission;
  moment = told.moment;
  openings = all-join InTime a.opened more told.openings early;
  reported = told.reported;
  once = told.once;
  sends = λ key h.
      (let old = told.sends key h in
      let low = old.low in
      let count = length-append a.opened more in
      record {
        release = old.release;
        low = omega arith;
        known = old.known;
        there = ap (λ (plan : Release). is_among key (targets plan.items)) (release-more setup n a more old.release old.low) ∙ old.there;
      });
}

-- Two releases of a submission share no target.
other-apart : (setup : Setup) → IsPlanned setup → (n : ℕ) (a : Accepted) (old new : ℕ) (key : List ℕ) → (old ≡ new → ⊥) →
    is_among key (targets (release_for setup n a old).items) ≡ true → is_among key (targets (release_for setup n a new).items) ≡ false
other-apart setup laws n a old new key differ h =
    elim (cases_order old new) [
      | inl same ↦ absurd (differ same)
      | inr order ↦
          (elim order [
            | inl below ↦ laws.apart a.org base a.opened old new key below h
            | inr above ↦
                false_from_ne_true (is_among key (targets (release_for setup n a new).items)) (λ both-send. never (sym h ∙ laws.apart a.org base a.opened new old key above both-send))
          ])
    ]
  where
    base : Input
    base = first_input n a.epoch a.moment a.submission

    never : true ≡ false → ⊥
    never p = cc

-- with a release more, which wasn't categorised before
told-more : (setup : Setup) → IsPlanned setup → (n : ℕ) (live later : List LiveMail) (a : Accepted) (plans : List Release) (r : ℕ) → r ≤ length a.opened →
    IsRelease (release_for setup n a r) → (WasCategorised n r live → ⊥) → ((k : ℕ) → WasCategorised n k live → WasCategorised n k later) → WasCategorised n r later →
    Told setup n live a plans → Told setup n later a (plans ++ release_for setup n a r ∷ [])
told-more setup laws n live later a plans r low lawful fresh stays now told =
    let plan = release_for setup n a r in
    let input = input_for n a r in
    let pushed = sent-push plans plan in
    record {
      submission = told.submission;
      moment = told.moment;
      openings = told.openings;
      reported =
          all-join (Reports (setup.takes a.org a.submission.reverse)) plans (plan ∷ []) told.reported
          (laws.reported a.org input (is-input setup n live a plans told r) lawful, tt);
      once =
          ap are_distinct pushed
          ∙ joined-distinct (sent plans) (targets plan.items) told.once (laws.once a.org input)
          (λ key h.
          (let old = told.sends key h in
          other-apart setup laws n a old.release r key (λ same. fresh (subst (λ (k : ℕ). WasCategorised n k live) same old.known)) old.there));
      sends = λ key h.
          elim (or_cases (is_among key (sent plans)) (is_among key (targets plan.items))
          (sym (ap (is_among key) pushed ∙ list_any-append (bytes_eq key) (sent plans) (targets plan.items)) ∙ h)) [
            | inl before ↦ (let old = told.sends key before in record { release = old.release; low = old.low; known = stays old.release old.known; there = old.there })
            | inr here ↦ record { release = r; low = low; known = now; there = here }
          ];
    }

no_accepted : (a : Accepted) → None ≡ Some a → ⊥
no_accepted a e = cc

some_accepted : (a b : Accepted) → Some a ≡ Some b → a ≡ b
some_accepted a b e = cc

-- A change of a submission that leaves what is told leaves it for each.
changed-at : (setup : Setup) (n j : ℕ) (live : List LiveMail) (plans : List Release) (g : Accepted → Accepted) → ((a : Accepted) → Told setup n live a plans → Told setup n live (g a) plans) →
    (all : List Accepted) → ToldAt setup n live plans (slice_get all (n - 1)) → ToldAt setup n live plans (slice_get (changed g j all) (n - 1))
changed-at setup n j live plans g keeps all = by (slice_get all (n - 1)) refl
  where
    later : (at : Option Accepted) → slice_get (changed g j all) (n - 1) ≡ at → slice_get all (n - 1) ≡ None → plans ≡ [] → ToldAt setup n live plans at
    later None e none told = told
    later (Some b) e none told =
        elim (changed-get g all j (n - 1) b e) [
          | inl same ↦ absurd (no_accepted b (sym none ∙ same))
          | inr was ↦ absurd (no_accepted was.0 (sym none ∙ was.1))
        ]

    by : (at : Option Accepted) → slice_get all (n - 1) ≡ at → ToldAt setup n live plans at → ToldAt setup n live plans (slice_get (changed g j all) (n - 1))
    by None e told = later (slice_get (changed g j all) (n - 1)) refl e told
    by (Some a) e told =
        elim (get-changed g all j (n - 1) a e) [
          | inl same ↦ subst (λ (o : Option Accepted). ToldAt setup n live plans o) (sym same) told
          | inr new ↦ subst (λ (o : Option Accepted). ToldAt setup n live plans o) (sym new) (keeps a told)
        ]

-- A submission that is accepted was not there, and none of its releases was categorised.
pushed-at : (setup : Setup) (n : ℕ) (live : List LiveMail) (plans : List Release) (new : Accepted) → IsSubmission new.submission → new.moment ≤ last_moment → new.opened ≡ [] →
    (all : List Accepted) → ToldAt setup n live plans (slice_get all (n - 1)) → ToldAt setup n live plans (slice_get (all ++ new ∷ []) (n - 1))
pushed-at setup n live plans new submission moment closed all = by (slice_get all (n - 1)) refl
  where
    fresh : Told setup n live new []
    fresh = record {
      submission = submission;
      moment = moment;
      openings = subst (λ (openings : List Opening). AllByRecursion InTime openings) (sym closed) tt;
      reported = tt;
      once = refl;
      sends = λ key h. absurd (never h);
    }
      where
        never : false ≡ true → ⊥
        never p = cc

    later : (at : Option Accepted) → slice_get (all ++ new ∷ []) (n - 1) ≡ at → slice_get all (n - 1) ≡ None → plans ≡ [] → ToldAt setup n live plans at
    later None e none told = told
    later (Some b) e none told =
        elim (append-get all new (n - 1) b e) [
          | inl same ↦ absurd (no_accepted b (sym none ∙ same))
          | inr own ↦
              subst (λ (a : Accepted). Told setup n live a plans) (sym own) (subst (λ (xs : List Release). Told setup n live new xs) (sym told) fresh)
        ]

    by : (at : Option Accepted) → slice_get all (n - 1) ≡ at → ToldAt setup n live plans at → ToldAt setup n live plans (slice_get (all ++ new ∷ []) (n - 1))
    by None e told = later (slice_get (all ++ new ∷ []) (n - 1)) refl e told
    by (Some a) e told = subst (λ (o : Option Accepted). ToldAt setup n live plans o) (sym (get-append all (new ∷ []) (n - 1) a e)) told

in-time : (s : Standing) (moment : ℕ) → is_moment s moment ≡ true → moment ≤ last_moment
in-time s moment h = leb-true moment last_moment (both (nat_le s.moment moment) (nat_le moment last_moment) h).1

opening-in-time : (gate : Option Gate) (moment : ℕ) → moment ≤ last_moment → AllByRecursion InTime (opening_of gate moment)
opening-in-time None moment low = tt
opening-in-time (Some gate) moment low = (low, tt)

-- with no release more
none-more : (setup : Setup) (n : ℕ) (live : List LiveMail) (plans : List Release) (at : Option Accepted) → ToldAt setup n live plans at → ToldAt setup n live (plans ++ []) at
none-more setup n live plans at told = subst (λ (xs : List Release). ToldAt setup n live xs at) (sym (append-nil plans)) told

-- An entry that categorises a release of the submission of this number tells of it.
own-step : (setup : Setup) → IsPlanned setup → (h : List Entry) (n r : ℕ) (plan : Release) (plans : List Release) → IsStep setup h (entries.Categorised n r plan) → IsRelease plan →
    ToldAt setup n (standing setup h).live plans (slice_get (past setup h).accepted (n - 1)) →
    ToldAt setup n (state_after setup (standing setup h) (entries.Categorised n r plan)).live (plans ++ plan ∷ []) (slice_get (past setup h).accepted (n - 1))
own-step setup laws h n r plan plans c lawful told =
    let s = standing setup h in
    let entry = (let x : Entry = entries.Categorised n r plan in x) in
    let (a, some, there, low, own) = c.1 in
    let waiting = (both (is_uncategorised (mail_of s n) r) _ c.0).0 in
    subst (λ (o : Option Accepted). ToldAt setup n (state_after setup s entry).live (plans ++ plan ∷ []) o) (sym there)
    (subst (λ (x : Release). Told setup n (state_after setup s entry).live a (plans ++ x ∷ [])) (sym own)
    (told-more setup laws n s.live (state_after setup s entry).live a plans r low (subst (λ (x : Release). IsRelease x) own lawful) (not-categorised s n r waiting)
    (λ k was. categorised-stays setup s entry n k was) (now-categorised s n r plan waiting)
    (subst (λ (o : Option Accepted). ToldAt setup n s.live plans o) there told)))

entry-step : (setup : Setup) → IsPlanned setup → (n : ℕ) (plans : List Release) (h : List Entry) (e : Entry) → IsStep setup h e → IsEntry e →
    ToldAt setup n (standing setup h).live plans (slice_get (past setup h).accepted (n - 1)) →
    ToldAt setup n (state_after setup (standing setup h) e).live (plans ++ categorised_of n (e ∷ [])) (slice_get (past_after setup (past setup h) e).accepted (n - 1))
entry-step setup laws n plans h (entries.Organised d texts) c is told = none-more setup n _ plans _ told
entry-step setup laws n plans h (entries.Accepted m x) c is told =
    let s = standing setup h in
    let p = past setup h in
    let entry = (let e : Entry = entries.Accepted m x in e) in
    none-more setup n _ plans _
    (at-later setup n s.live (state_after setup s entry).live plans _ (λ r was. categorised-stays setup s entry n r was)
    (pushed-at setup n s.live plans (record { submission = x; moment = m; epoch = p.epoch; org = p.org; opened = [] }) is.1 (in-time s m (both (is_moment s m) _ c.0).0) refl p.accepted told))
entry-step setup laws n plans h (entries.Categorised number r plan) c is told = by (number == n) refl
  where
    entry : Entry
    entry = entries.Categorised number r plan

    s : Standing
    s = standing setup h

    all : List Accepted
    all = (past setup h).accepted

    by : (b : Bool) → (number == n) ≡ b → ToldAt setup n (state_after setup s entry).live (plans ++ cond b (plan ∷ []) []) (slice_get all (n - 1))
    by false e =
        none-more setup n (state_after setup s entry).live plans (slice_get all (n - 1))
        (at-later setup n s.live (state_after setup s entry).live plans (slice_get all (n - 1)) (λ k was. categorised-stays setup s entry n k was) told)
    by true e =
        let same : number ≡ n = (Decides-eqb number n).0 e in
        subst (λ (k : ℕ). ToldAt setup k (state_after setup s entry).live (plans ++ plan ∷ []) (slice_get all (k - 1))) same
        (own-step setup laws h number r plan plans c is.2 (subst (λ (k : ℕ). ToldAt setup k s.live plans (slice_get all (k - 1))) (sym same) told))
entry-step setup laws n plans h (entries.Decided name by verdicts.Approve m) c is told =
    let s = standing setup h in
    let p = past setup h in
    let entry = (let e : Entry = entries.Decided name by verdicts.Approve m in e) in
    let early = in-time s m (both (is_moment s m) _ c.0).0 in
    none-more setup n _ plans _
    (at-later setup n s.live (state_after setup s entry).live plans _ (λ r was. categorised-stays setup s entry n r was)
    (changed-at setup n (name.submission - 1) s.live plans (with_opening setup name m)
    (λ a of.
    told-opened setup n s.live a plans (opening_of (slice_get (gates_of (release_for setup name.submission a name.release).holds) name.gate) m)
    (opening-in-time (slice_get (gates_of (release_for setup name.submission a name.release).holds) name.gate) m early) of)
    p.accepted told))
entry-step setup laws n plans h (entries.Decided name by verdicts.Reject m) c is told =
    let s = standing setup h in
    let entry = (let e : Entry = entries.Decided name by verdicts.Reject m in e) in
    none-more setup n _ plans _ (at-later setup n s.live (state_after setup s entry).live plans _ (λ r was. categorised-stays setup s entry n r was) told)
entry-step setup laws n plans h (entries.Moment m) c is told =
    let s = standing setup h in
    let entry = (let e : Entry = entries.Moment m in e) in
    none-more setup n _ plans _ (at-later setup n s.live (state_after setup s entry).live plans _ (λ r was. categorised-stays setup s entry n r was) told)
entry-step setup laws n plans h (entries.Delivered name) c is told = none-more setup n _ plans _ told
entry-step setup laws n plans h (entries.Delayed name) c is told = none-more setup n _ plans _ told
entry-step setup laws n plans h (entries.Ended name) c is told = none-more setup n _ plans _ told
entry-step setup laws n plans h (entries.Forgot number) c is told = none-more setup n _ plans _ told

-- What more entries categorise stands behind what those before them did.
listed : (plan : Release) (rest more : List Release) (b : Bool) → cond b (plan ∷ (rest ++ more)) (rest ++ more) ≡ cond b (plan ∷ rest) rest ++ more
listed plan rest more true = refl
listed plan rest more false = refl

categorised-more : (n : ℕ) (h more : List Entry) → categorised_of n (h ++ more) ≡ categorised_of n h ++ categorised_of n more
categorised-more n [] more = refl
categorised-more n (entries.Organised d texts ∷ h) more = categorised-more n h more
categorised-more n (entries.Accepted m x ∷ h) more = categorised-more n h more
categorised-more n (entries.Categorised number r plan ∷ h) more =
    ap (λ (rest : List Release). cond (number == n) (plan ∷ rest) rest) (categorised-more n h more) ∙ listed plan (categorised_of n h) (categorised_of n more) (number == n)
categorised-more n (entries.Decided name by verdict m ∷ h) more = categorised-more n h more
categorised-more n (entries.Moment m ∷ h) more = categorised-more n h more
categorised-more n (entries.Delivered name ∷ h) more = categorised-more n h more
categorised-more n (entries.Delayed name ∷ h) more = categorised-more n h more
categorised-more n (entries.Ended name ∷ h) more = categorised-more n h more
categorised-more n (entries.Forgot number ∷ h) more = categorised-more n h more

abbrev Holds : Setup → ℕ → List Entry → Type 0
Holds setup n h = ToldAt setup n (standing setup h).live (categorised_of n h) (slice_get (accepted setup h) (n - 1))

step : (setup : Setup) → IsPlanned setup → (n : ℕ) (h : List Entry) (e : Entry) → IsStep setup h e → IsEntry e → Holds setup n h → Holds setup n (h ++ e ∷ [])
step setup laws n h e c is told =
    subst (λ (s : Standing). ToldAt setup n s.live (categorised_of n (h ++ e ∷ [])) (slice_get (accepted setup (h ++ e ∷ [])) (n - 1)))
    (sym (fold-append (state_after setup) (start setup) h (e ∷ [])))
    (subst (λ (p : Past). ToldAt setup n (state_after setup (standing setup h) e).live (categorised_of n (h ++ e ∷ [])) (slice_get p.accepted (n - 1)))
    (sym (fold-append (past_after setup) no_past h (e ∷ [])))
    (subst (λ (plans : List Release). ToldAt setup n (state_after setup (standing setup h) e).live plans (slice_get (past_after setup (past setup h) e).accepted (n - 1)))
    (sym (categorised-more n h (e ∷ []))) (entry-step setup laws n (categorised_of n h) h e c is told)))

steps : (setup : Setup) → IsPlanned setup → (n : ℕ) (before h : List Entry) → AreSteps setup before h → AllByRecursion IsEntry h → Holds setup n before → Holds setup n (before ++ h)
steps setup laws n before [] c are told = subst (λ (h : List Entry). Holds setup n h) (sym (append-nil before)) told
steps setup laws n before (e ∷ h) c are told =
    subst (λ (all : List Entry). Holds setup n all) (append_assoc before (e ∷ []) h)
    (steps setup laws n (before ++ e ∷ []) h c.1 are.1 (step setup laws n before e c.0 are.0 told))

-- Of each submission that a history accepted, the reports of its categorised releases list what these send.
pub journaled : (setup : Setup) → IsPlanned setup → (h : List Entry) → IsHistory setup h → AllByRecursion IsEntry h → IsJournaled setup h
journaled setup laws h c are number a mailbox some there =
    let told : Told setup number (standing setup h).live a (categorised_of number h) =
    subst (λ (o : Option Accepted). ToldAt setup number (standing setup h).live (categorised_of number h) o) there (steps setup laws number [] h c are refl) in
    are-reported mailbox (setup.takes a.org a.submission.reverse) (categorised_of number h) told.reported told.once
