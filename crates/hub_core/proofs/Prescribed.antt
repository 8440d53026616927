-- The items that wait are prescribed, entry by entry.
use Rattle.std.proofs.Common.{◌≡◌, ◌⊎◌, ℕ, zero, suc, ◌+◌, ◌-◌, ◌≤◌, Bool, true, false, cond, List, [], ◌∷◌, ◌++◌, length, Some, refl, ap, ◌∙◌, sym, subst, inl, inr, arith, append_assoc, append-nil, length-append}
use Rattle.std.specs.Prelude.{◌&&◌, fold, slice_get, map, Option, None}
use Rattle.std.proofs.lemmas.Grind.{fold-append}
use Rattle.mail_names.specs.declared.name.ItemName.{ItemName}
use Rattle.moderation.specs.declared.approval.Verdict.TheVariants as verdicts
use Rattle.mail_plan.specs.Planning.{Opening, gates_of, is_release, made_at}
use Rattle.log_entry.specs.declared.entry.Entry.{Entry}
use Rattle.log_entry.specs.declared.entry.Entry.TheVariants as entries
use Rattle.mail_plan.specs.declared.release.Release.{Release}
use Rattle.hub_core.specs.declared.queue.QueuedItem.{QueuedItem}
use Rattle.hub_core.specs.Setup.{Setup}
use Rattle.hub_core.specs.Approvals.{changed}
use Rattle.hub_core.specs.declared.waiting.WaitingItem.{WaitingItem}
use Rattle.hub_core.specs.Mail.{LiveMail, waits}
use Rattle.hub_core.specs.Waiting.{is_named, items_in, without}
use Rattle.hub_core.specs.Standing.{Standing, start, standing, state_after, told_by, mail_of, queued_all, released, waiting_of}
use Rattle.hub_core.proofs.Waits.{items-append, items-met, items-more, items-released, items-told}
use Rattle.hub_core.specs.Items.{Accepted, Past, no_past, past, past_after, accepted, release_for, opening_of, items_to, items_of, notices_from, items, Among, CarriesRelease, IsStep, AreSteps, IsHistory}
use Rattle.hub_core.proofs.Opened.{release-more}
use Rattle.hub_core.proofs.Places.{changed-tail}

among_left : (x : QueuedItem) (xs ys : List QueuedItem) → Among x xs → Among x (xs ++ ys)
among_left x [] ys h = absurd h
among_left x (y ∷ xs) ys (inl e) = inl e
among_left x (y ∷ xs) ys (inr h) = inr (among_left x xs ys h)

among_right : (x : QueuedItem) (xs ys : List QueuedItem) → Among x ys → Among x (xs ++ ys)
among_right x [] ys h = h
among_right x (y ∷ xs) ys h = inr (among_right x xs ys h)

among_either : (x : QueuedItem) (xs ys : List QueuedItem) → Among x (xs ++ ys) → Among x xs ⊎ Among x ys
among_either x [] ys h = inr h
among_either x (y ∷ xs) ys (inl e) = inl (inl e)
among_either x (y ∷ xs) ys (inr h) = elim (among_either x xs ys h) [ inl a ↦ inl (inr a) | inr b ↦ inr b ]

kept : (x : QueuedItem) (y : WaitingItem) (b : Bool) (ys zs : List WaitingItem) → (Among x (items_in zs) → Among x (items_in ys)) → Among x (items_in (cond b ys (y ∷ zs))) →
    Among x (items_in (y ∷ ys))
kept x y true ys zs f h = inr h
kept x y false ys zs f (inl e) = inl e
kept x y false ys zs f (inr h) = inr (f h)

among_without : (name : ItemName) (x : QueuedItem) (xs : List WaitingItem) → Among x (items_in (without name xs)) → Among x (items_in xs)
among_without name x [] h = h
among_without name x (y ∷ xs) h = kept x y (is_named name y) xs (without name xs) (among_without name x xs) h

-- The items of more releases have those of fewer.
to_more : (setup : Setup) (x : QueuedItem) (n : ℕ) (a : Accepted) (few more : ℕ) → Among x (items_to setup n a few) → Among x (items_to setup n a (more + few))
to_more setup x n a few zero h = subst (λ (k : ℕ). Among x (items_to setup n a k)) (let same : few ≡ 0 + few = omega arith in same) h
to_more setup x n a few (suc more) h =
    subst (λ (k : ℕ). Among x (items_to setup n a k)) (let same : suc (more + few) ≡ suc more + few = omega arith in same)
    (among_left x (items_to setup n a (more + few)) (queued_all (release_for setup n a (more + few))) (to_more setup x n a few more h))

-- What is opened later leaves the items of the releases before it.
to_same : (setup : Setup) (n : ℕ) (a : Accepted) (more : List Opening) (count : ℕ) → count ≤ suc (length a.opened) →
    items_to setup n (record a { opened = a.opened ++ more }) count ≡ items_to setup n a count
to_same setup n a more zero low = refl
to_same setup n a more (suc count) low =
    λ i. to_same setup n a more count (omega arith) i ++ queued_all (release-more setup n a more count (omega arith) i)

opened_more : (setup : Setup) (x : QueuedItem) (n : ℕ) (a : Accepted) (more : List Opening) → Among x (items_to setup n a (suc (length a.opened))) →
    Among x (items_to setup n (record a { opened = a.opened ++ more }) (suc (length (a.opened ++ more))))
opened_more setup x n a more h =
    let count : length more + suc (length a.opened) ≡ suc (length (a.opened ++ more)) = (let both = length-append a.opened more in omega arith) in
    subst (λ (k : ℕ). Among x (items_to setup n (record a { opened = a.opened ++ more }) k)) count
    (to_more setup x n (record a { opened = a.opened ++ more }) (suc (length a.opened)) (length more)
    (subst (λ (xs : List QueuedItem). Among x xs) (sym (to_same setup n a more (suc (length a.opened)) (omega arith))) h))

more_items : (setup : Setup) (x : QueuedItem) (n : ℕ) (xs ys : List Accepted) → Among x (items_of setup n xs) → Among x (items_of setup n (xs ++ ys))
more_items setup x n [] ys h = absurd h
more_items setup x n (s ∷ xs) ys h =
    let own = items_to setup n s (suc (length s.opened)) in
    elim (among_either x own (items_of setup (n + 1) xs) h) [
      | inl a ↦ among_left x own (items_of setup (n + 1) (xs ++ ys)) a
      | inr b ↦ among_right x own (items_of setup (n + 1) (xs ++ ys)) (more_items setup x (n + 1) xs ys b)
    ]

-- A submission with more gates opened has the items that were there.
opened_items : (setup : Setup) (x : QueuedItem) (n k : ℕ) (more : Accepted → List Opening) (xs : List Accepted) → Among x (items_of setup n xs) →
    Among x (items_of setup n (changed (λ (a : Accepted). record a { opened = a.opened ++ more a }) k xs))
opened_items setup x n k more [] h = absurd h
opened_items setup x n zero more (s ∷ xs) h =
    let own = items_to setup n s (suc (length s.opened)) in
    let later = items_to setup n (record s { opened = s.opened ++ more s }) (suc (length (s.opened ++ more s))) in
    elim (among_either x own (items_of setup (n + 1) xs) h) [
      | inl a ↦ among_left x later (items_of setup (n + 1) xs) (opened_more setup x n s (more s) a)
      | inr b ↦ among_right x later (items_of setup (n + 1) xs) b
    ]
opened_items setup x n (suc k) more (s ∷ xs) h =
    let own = items_to setup n s (suc (length s.opened)) in
    let f = λ (a : Accepted). (let b : Accepted = record a { opened = a.opened ++ more a } in b) in
    subst (λ (all : List Accepted). Among x (items_of setup n all)) (sym (changed-tail f s xs k))
    (elim (among_either x own (items_of setup (n + 1) xs) h) [
      | inl a ↦ among_left x own (items_of setup (n + 1) (changed f k xs)) a
      | inr b ↦ among_right x own (items_of setup (n + 1) (changed f k xs)) (opened_items setup x (n + 1) k more xs b)
    ])

some_is : (a b : Accepted) → Some a ≡ Some b → a ≡ b
some_is a b e = cc

-- the items of a release are among those of its submission
item_to : (setup : Setup) (x : QueuedItem) (n : ℕ) (a : Accepted) (r more : ℕ) → Among x (queued_all (release_for setup n a r)) → Among x (items_to setup n a (more + suc r))
item_to setup x n a r more h = to_more setup x n a (suc r) more (among_right x (items_to setup n a r) (queued_all (release_for setup n a r)) h)

item_at : (setup : Setup) (x : QueuedItem) (n k r : ℕ) (xs : List Accepted) (s : Accepted) → slice_get xs k ≡ Some s → r ≤ length s.opened →
    Among x (queued_all (release_for setup (n + k) s r)) → Among x (items_of setup n xs)
item_at setup x n k r [] s e low h = absurd (cc)
item_at setup x n zero r (y ∷ xs) s e low h =
    let same : s ≡ y = sym (some_is y s e) in
    let at : n + 0 ≡ n = omega arith in
    let count : (length s.opened - r) + suc r ≡ suc (length s.opened) = omega arith in
    among_left x (items_to setup n y (suc (length y.opened))) (items_of setup (n + 1) xs)
    (subst (λ (t : Accepted). Among x (items_to setup n t (suc (length t.opened)))) same
    (subst (λ (c : ℕ). Among x (items_to setup n s c)) count
    (item_to setup x n s r (length s.opened - r) (subst (λ (m : ℕ). Among x (queued_all (release_for setup m s r))) at h))))
item_at setup x n (suc k) r (y ∷ xs) s e low h =
    let at : n + suc k ≡ n + 1 + k = omega arith in
    among_right x (items_to setup n y (suc (length y.opened))) (items_of setup (n + 1) xs)
    (item_at setup x (n + 1) k r xs s e low (subst (λ (m : ℕ). Among x (queued_all (release_for setup m s r))) at h))

notices-append : (setup : Setup) (s : Standing) (h : List Entry) (e : Entry) →
    notices_from setup s (h ++ e ∷ []) ≡ notices_from setup s h ++ told_by setup (fold (state_after setup) s h) e
notices-append setup s [] e = append-nil (told_by setup s e)
notices-append setup s (x ∷ h) e =
    ap (λ (rest : List QueuedItem). told_by setup s x ++ rest) (notices-append setup (state_after setup s x) h e)
    ∙ sym (append_assoc (told_by setup s x) (notices_from setup (state_after setup s x) h) (told_by setup (fold (state_after setup) (state_after setup s x) h) e))

-- The items of releases stay with an entry more.
older_items : (setup : Setup) (p : Past) (e : Entry) (x : QueuedItem) → Among x (items_of setup 1 p.accepted) → Among x (items_of setup 1 (past_after setup p e).accepted)
older_items setup p (entries.Organised d r) x a = a
older_items setup p (entries.Accepted m s) x a = more_items setup x 1 p.accepted _ a
older_items setup p (entries.Categorised n r plan) x a = a
older_items setup p (entries.Decided name by verdicts.Approve moment) x a =
    opened_items setup x 1 (name.submission - 1)
    (λ (a : Accepted). opening_of (slice_get (gates_of (release_for setup name.submission a name.release).holds) name.gate) moment) p.accepted a
older_items setup p (entries.Decided name by verdicts.Reject moment) x a = a
older_items setup p (entries.Moment m) x a = a
older_items setup p (entries.Delivered n) x a = a
older_items setup p (entries.Delayed n) x a = a
older_items setup p (entries.Ended n) x a = a
older_items setup p (entries.Forgot n) x a = a

-- what is prescribed stays so
pub older : (setup : Setup) (h : List Entry) (e : Entry) (x : QueuedItem) → Among x (items setup h) → Among x (items setup (h ++ e ∷ []))
older setup h e x a =
    let sent = items_of setup 1 (accepted setup (h ++ e ∷ [])) in
    let notices = notices_from setup (start setup) (h ++ e ∷ []) in
    elim (among_either x (items_of setup 1 (accepted setup h)) (notices_from setup (start setup) h) a) [
      | inl item ↦
          among_left x sent notices
          (subst (λ (p : Past). Among x (items_of setup 1 p.accepted)) (sym (fold-append (past_after setup) no_past h (e ∷ [])))
          (older_items setup (past setup h) e x item))
      | inr notice ↦
          among_right x sent notices
          (subst (λ (xs : List QueuedItem). Among x xs) (sym (notices-append setup (start setup) h e))
          (among_left x (notices_from setup (start setup) h) (told_by setup (standing setup h) e) notice))
    ]

-- what an entry tells is prescribed
told_item : (setup : Setup) (h : List Entry) (e : Entry) (x : QueuedItem) → Among x (told_by setup (standing setup h) e) → Among x (items setup (h ++ e ∷ []))
told_item setup h e x a =
    among_right x (items_of setup 1 (accepted setup (h ++ e ∷ []))) (notices_from setup (start setup) (h ++ e ∷ []))
    (subst (λ (xs : List QueuedItem). Among x xs) (sym (notices-append setup (start setup) h e))
    (among_right x (notices_from setup (start setup) h) (told_by setup (standing setup h) e) a))

-- what waits is prescribed
abbrev Fine : Setup → List Entry → Type 0
Fine setup h = (x : QueuedItem) → Among x (items_in (standing setup h).waiting) → Among x (items setup h)

old_or_told : (setup : Setup) (h : List Entry) (e : Entry) → Fine setup h → (x : QueuedItem) → Among x (items_in (standing setup h).waiting ++ told_by setup (standing setup h) e) →
    Among x (items setup (h ++ e ∷ []))
old_or_told setup h e fine x a =
    elim (among_either x (items_in (standing setup h).waiting) (told_by setup (standing setup h) e) a) [
      | inl old ↦ older setup h e x (fine x old)
      | inr new ↦ told_item setup h e x new
    ]

among_same : (x : QueuedItem) (xs ys : List QueuedItem) → xs ≡ ys → Among x xs → Among x ys
among_same x xs ys same a = subst (λ (zs : List QueuedItem). Among x zs) same a

-- what a release makes wait is what it has
among_released : (x : QueuedItem) (n r : ℕ) (plan : Release) (at : Option LiveMail) → Among x (items_in (released n r plan at)) → Among x (queued_all plan)
among_released x n r plan None a = absurd a
among_released x n r plan (Some mail) a = made (waits mail r && is_release n r plan) a
  where
    new : List WaitingItem
    new = map (waiting_of (made_at mail.accepted_at mail.opened r) plan.texts) plan.items

    made : (b : Bool) → Among x (items_in (cond b new [])) → Among x (queued_all plan)
    made true h = among_same x (items_in new) (queued_all plan) (items-released (made_at mail.accepted_at mail.opened r) plan.texts plan.items) h
    made false h = absurd h

step_waiting : (setup : Setup) (h : List Entry) (e : Entry) → CarriesRelease setup h e → Fine setup h → (x : QueuedItem) →
    Among x (items_in (state_after setup (standing setup h) e).waiting) → Among x (items setup (h ++ e ∷ []))
step_waiting setup h (entries.Organised d r) c fine x a = older setup h (entries.Organised d r) x (fine x a)
step_waiting setup h (entries.Accepted m s) c fine x a = older setup h (entries.Accepted m s) x (fine x a)
step_waiting setup h (entries.Decided name by verdict m) c fine x a =
    old_or_told setup h (entries.Decided name by verdict m) fine x (among_same x _ _ (items-more (standing setup h).waiting _ _ _) a)
step_waiting setup h (entries.Moment m) c fine x a =
    old_or_told setup h (entries.Moment m) fine x (among_same x _ _ (items-met m _ ∙ items-more (standing setup h).waiting _ _ _) a)
step_waiting setup h (entries.Delayed n) c fine x a =
    old_or_told setup h (entries.Delayed n) fine x (among_same x _ _ (items-told n _ ∙ items-more (standing setup h).waiting _ _ _) a)
step_waiting setup h (entries.Ended n) c fine x a =
    old_or_told setup h (entries.Ended n) fine x (among_same x _ _ (items-more (standing setup h).waiting _ _ _) (among_without n x _ a))
step_waiting setup h (entries.Forgot n) c fine x a = older setup h (entries.Forgot n) x (fine x a)
step_waiting setup h (entries.Delivered n) c fine x a = older setup h (entries.Delivered n) x (fine x (among_without n x (standing setup h).waiting a))
step_waiting setup h (entries.Categorised n r p) c fine x a =
    let s = standing setup h in
    elim (among_either x (items_in s.waiting) (items_in (released n r p (mail_of s n))) (among_same x _ _ (items-append s.waiting (released n r p (mail_of s n))) a)) [
      | inl old ↦ older setup h (entries.Categorised n r p) x (fine x old)
      | inr made ↦
          let new = among_released x n r p (mail_of s n) made in
          older setup h (entries.Categorised n r p) x
          (among_left x (items_of setup 1 (accepted setup h)) (notices_from setup (start setup) h)
          (let at : n ≡ 1 + (n - 1) = (let some = c.1 in omega arith) in
          item_at setup x 1 (n - 1) r (accepted setup h) c.0 c.2 c.3
          (subst (λ (m : ℕ). Among x (queued_all (release_for setup m c.0 r))) at (subst (λ (plan : Release). Among x (queued_all plan)) c.4 new))))
    ]

step : (setup : Setup) (h : List Entry) (e : Entry) → CarriesRelease setup h e → Fine setup h → Fine setup (h ++ e ∷ [])
step setup h e c fine x a =
    step_waiting setup h e c fine x (subst (λ (s : Standing). Among x (items_in s.waiting)) (fold-append (state_after setup) (start setup) h (e ∷ [])) a)

steps : (setup : Setup) (before h : List Entry) → AreSteps setup before h → Fine setup before → Fine setup (before ++ h)
steps setup before [] c fine = subst (λ (h : List Entry). Fine setup h) (sym (append-nil before)) fine
steps setup before (e ∷ h) c fine =
    subst (λ (all : List Entry). Fine setup all) (append_assoc before (e ∷ []) h) (steps setup (before ++ e ∷ []) h c.1 (step setup before e c.0.1 fine))

-- what waits is prescribed
pub prescribed : (setup : Setup) (h : List Entry) → IsHistory setup h → (x : QueuedItem) → Among x (items_in (standing setup h).waiting) → Among x (items setup h)
prescribed setup h c = steps setup [] h c (λ x a. absurd a)

push : (setup : Setup) (before h : List Entry) (e : Entry) → AreSteps setup before h → IsStep setup (before ++ h) e → AreSteps setup before (h ++ e ∷ [])
push setup before [] e c one = (subst (λ (all : List Entry). IsStep setup all e) (append-nil before) one, tt)
push setup before (x ∷ h) e c one =
    (c.0, push setup (before ++ x ∷ []) h e c.1 (subst (λ (all : List Entry). IsStep setup all e) (sym (append_assoc before (x ∷ []) h)) one))

-- a history with one entry more
pub history-push : (setup : Setup) (h : List Entry) (e : Entry) → IsHistory setup h → IsStep setup h e → IsHistory setup (h ++ e ∷ [])
history-push setup h e c one = push setup [] h e c one

-- the state of a history with one entry more
pub standing-push : (setup : Setup) (h : List Entry) (e : Entry) → standing setup (h ++ e ∷ []) ≡ state_after setup (standing setup h) e
standing-push setup h e = fold-append (state_after setup) (start setup) h (e ∷ [])
