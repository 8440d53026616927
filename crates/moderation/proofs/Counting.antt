-- Which events count.
use Rattle.std.proofs.Common.{◌≡◌, ℕ, suc, ◌+◌, ◌≤◌, Bool, true, false, cond, List, [], ◌∷◌, length, refl, ap, ◌∙◌, sym, arith, Option, Some, None}
use Rattle.std.specs.Prelude.{◌&&◌, ◌||◌, not, nat_lt, nat_le, bytes_eq, position, find}
use Rattle.std.specs.List.{list_any, position_or_len}
use Rattle.std.proofs.lemmas.Bool.Decides.{nat_tests}
use Rattle.moderation.specs.declared.approval.Verdict.{Verdict}
use Rattle.moderation.specs.declared.approval.ApprovalState.{ApprovalState}
use Rattle.moderation.specs.declared.approval.ApprovalState.TheVariants as states
use Rattle.moderation.specs.declared.approval.Decision.TheVariants as decisions
use Rattle.moderation.specs.Approval.{Asked, answer, state_with, is_pending, decide_answer, place_of}
use Rattle.moderation.specs.Events.{Event, Decides, Turn, after, after_all, counts, is_decision, is_moderator, state_by, IsInOrder}

less_zero : (n : ℕ) → nat_lt 0 (suc n) ≡ true
less_zero n = grind (arith, nat_tests)

less_next : (n m : ℕ) → nat_lt (1 + n) (suc m) ≡ nat_lt n m
less_next n m = grind (arith, nat_tests)

same_choice : (a b : Bool) (n : ℕ) → cond a (Some n) None ≡ cond b (Some n) None → a ≡ b
same_choice true true n h = refl
same_choice true false n h = absurd (cc)
same_choice false true n h = absurd (cc)
same_choice false false n h = refl

-- a key stands somewhere where it has a first place
placed : (p : List ℕ → Bool) (keys : List (List ℕ)) → position p keys ≡ cond (list_any p keys) (Some (position_or_len p keys)) None
placed p [] = refl
placed p (key ∷ keys) = by (p key) (position_or_len p keys) (list_any p keys) (placed p keys)
  where
    by : (b : Bool) (n : ℕ) (any : Bool) → cond (nat_lt n (length keys)) (Some n) None ≡ cond any (Some n) None →
        cond (nat_lt (cond (not b) (1 + n) 0) (length (key ∷ keys))) (Some (cond (not b) (1 + n) 0)) None ≡ cond (b || any) (Some (cond (not b) (1 + n) 0)) None
    by true n any h = ap (λ t. cond t (Some 0) None) (less_zero (length keys))
    by false n any h = ap (λ t. cond t (Some (1 + n)) None) (less_next n (length keys) ∙ same_choice (nat_lt n (length keys)) any n h)

-- the approval in another state
abbrev with_state : Asked → ApprovalState → Asked
with_state a s = record a { state = s }

kept : (place : Option ℕ) (verdict : Verdict) (state : ApprovalState) (deadline moment : ℕ) → is_pending state ≡ false →
    state_with place verdict (answer place state deadline moment) state ≡ state
kept None verdict state deadline moment h = refl
kept (Some n) verdict (states.Decided by v) deadline moment h = refl
kept (Some n) verdict states.Ended deadline moment h = refl
kept (Some n) verdict states.Pending deadline moment h = absurd (cc)

still : (state : ApprovalState) (late : Bool) → is_pending state ≡ false → cond (is_pending state && late) states.Ended state ≡ state
still state late h = ap (λ b. cond (b && late) states.Ended state) h

stays : (event : Event) (a : Asked) → is_pending a.state ≡ false → after event a ≡ a
stays (Decides by verdict moment) a h = ap (with_state a) (kept (place_of a by) verdict a.state a.deadline moment h)
stays (Turn moment) a h = ap (with_state a) (still a.state (nat_le a.deadline moment) h)

-- what has settled stays
pub settled : (a : Asked) (events : List Event) → is_pending a.state ≡ false → after_all events a ≡ a
settled a [] h = refl
settled a (event ∷ events) h = ap (after_all events) (stays event a h) ∙ settled a events h

taken : (any : Bool) (n : ℕ) (verdict : Verdict) (deadline moment : ℕ) →
    state_with (cond any (Some n) None) verdict (answer (cond any (Some n) None) states.Pending deadline moment) states.Pending
    ≡ cond (any && nat_lt moment deadline) (states.Decided n verdict) states.Pending
taken false n verdict deadline moment = refl
taken true n verdict deadline moment = by (nat_lt moment deadline)
  where
    by : (t : Bool) → state_with (Some n) verdict (cond t decisions.Taken (decisions.Expired deadline)) states.Pending ≡ cond t (states.Decided n verdict) states.Pending
    by true = refl
    by false = refl

-- an event that counts settles a pending approval, and another leaves it
pending : (event : Event) (a : Asked) → after event (with_state a states.Pending) ≡ with_state a (cond (counts a event) (state_by a (Some event)) states.Pending)
pending (Decides by verdict moment) a =
    ap (with_state a)
    (ap (λ (p : Option ℕ). state_with p verdict (answer p states.Pending a.deadline moment) states.Pending) (placed (bytes_eq by) a.moderators)
    ∙ taken (is_moderator a by) (position_or_len (bytes_eq by) a.moderators) verdict a.deadline moment)
pending (Turn moment) a = refl

not_pending : (a : Asked) (event : Event) → is_pending (state_by a (Some event)) ≡ false
not_pending a (Decides by verdict moment) = refl
not_pending a (Turn moment) = refl

first_settles : (a : Asked) (events : List Event) → after_all events (with_state a states.Pending) ≡ with_state a (state_by a (find (counts a) events))
first_settles a [] = refl
first_settles a (event ∷ events) = ap (after_all events) (pending event a) ∙ choose (counts a event) (first_settles a events)
  where
    choose : (b : Bool) → after_all events (with_state a states.Pending) ≡ with_state a (state_by a (find (counts a) events)) →
        after_all events (with_state a (cond b (state_by a (Some event)) states.Pending)) ≡ with_state a (state_by a (cond b (Some event) (find (counts a) events)))
    choose true rest = settled (with_state a (state_by a (Some event))) events (not_pending a event)
    choose false rest = rest

-- the first event that counts says what a pending approval comes to
pub first_stands : (a : Asked) (events : List Event) → a.state ≡ states.Pending → after_all events a ≡ with_state a (state_by a (find (counts a) events))
first_stands a events h = ap (λ (s : ApprovalState). after_all events (with_state a s)) h ∙ first_settles a events

too_late : (b : Bool) (moment deadline : ℕ) → deadline ≤ moment → (b && nat_lt moment deadline) ≡ false
too_late true moment deadline h = grind (arith, nat_tests)
too_late false moment deadline h = refl

late : (a : Asked) (since : ℕ) (events : List Event) → a.deadline ≤ since → IsInOrder since events → find (is_decision a) events ≡ None
late a since [] h o = refl
late a since (Decides by verdict moment ∷ events) h o =
    ap (λ t. cond t (Some (Decides by verdict moment)) (find (is_decision a) events)) (too_late (is_moderator a by) moment a.deadline (omega (arith, h, o.0)))
    ∙ late a moment events (omega (arith, h, o.0)) o.1
late a since (Turn moment ∷ events) h o = late a moment events (omega (arith, h, o.0)) o.1

is_late : (deadline moment : ℕ) → nat_le deadline moment ≡ true → deadline ≤ moment
is_late deadline moment h = grind (arith, nat_tests)

-- in order, no turn counts before a decision in time
no_turn_before : (a : Asked) (since : ℕ) (events : List Event) (decision : Event) → IsInOrder since events →
    find (is_decision a) events ≡ Some decision → find (counts a) events ≡ Some decision
no_turn_before a since [] decision o h = absurd (cc)
no_turn_before a since (Decides by verdict moment ∷ events) decision o h = choose (is_moderator a by && nat_lt moment a.deadline) h (no_turn_before a moment events decision o.1)
  where
    choose : (b : Bool) → cond b (Some (Decides by verdict moment)) (find (is_decision a) events) ≡ Some decision →
        (find (is_decision a) events ≡ Some decision → find (counts a) events ≡ Some decision) →
        cond b (Some (Decides by verdict moment)) (find (counts a) events) ≡ Some decision
    choose true h rest = h
    choose false h rest = rest h
no_turn_before a since (Turn moment ∷ events) decision o h = choose (nat_le a.deadline moment) refl (no_turn_before a moment events decision o.1 h)
  where
    choose : (b : Bool) → nat_le a.deadline moment ≡ b → find (counts a) events ≡ Some decision → cond b (Some (Turn moment)) (find (counts a) events) ≡ Some decision
    choose true e rest = absurd (let none = late a moment events (is_late a.deadline moment e) o.1 in cc)
    choose false e rest = rest

pub first_in_time : (a : Asked) (events : List Event) (decision : Event) → a.state ≡ states.Pending → IsInOrder 0 events →
    find (is_decision a) events ≡ Some decision → (after_all events a).state ≡ state_by a (Some decision)
first_in_time a events decision h o e =
    ap (λ (r : Asked). r.state) (first_stands a events h) ∙ ap (state_by a) (no_turn_before a 0 events decision o e)

abbrev is_decided : ApprovalState → Bool
is_decided (states.Decided by verdict) = true
is_decided states.Pending = false
is_decided states.Ended = false

no_decision : (a : Asked) (events : List Event) → find (is_decision a) events ≡ None → is_decided (state_by a (find (counts a) events)) ≡ false
no_decision a [] h = refl
no_decision a (Decides by verdict moment ∷ events) h = choose (is_moderator a by && nat_lt moment a.deadline) h (no_decision a events)
  where
    choose : (b : Bool) → cond b (Some (Decides by verdict moment)) (find (is_decision a) events) ≡ None →
        (find (is_decision a) events ≡ None → is_decided (state_by a (find (counts a) events)) ≡ false) →
        is_decided (state_by a (cond b (Some (Decides by verdict moment)) (find (counts a) events))) ≡ false
    choose true h rest = absurd (cc)
    choose false h rest = rest h
no_decision a (Turn moment ∷ events) h = choose (nat_le a.deadline moment) (no_decision a events h)
  where
    choose : (b : Bool) → is_decided (state_by a (find (counts a) events)) ≡ false → is_decided (state_by a (cond b (Some (Turn moment)) (find (counts a) events))) ≡ false
    choose true rest = refl
    choose false rest = rest

pub none_in_time : (a : Asked) (events : List Event) (by : ℕ) (verdict : Verdict) → a.state ≡ states.Pending →
    find (is_decision a) events ≡ None → (after_all events a).state ≡ states.Decided by verdict → ⊥
none_in_time a events by verdict h none e =
    absurd (let yes : true ≡ is_decided (after_all events a).state = ap is_decided (sym e) in
    let same = ap (λ (r : Asked). is_decided r.state) (first_stands a events h) in
    let no = yes ∙ same ∙ no_decision a events none in cc)

told : (any : Bool) (n by : ℕ) (verdict : Verdict) (deadline moment : ℕ) →
    answer (cond any (Some n) None) (states.Decided by verdict) deadline moment ≡ cond any (decisions.Already by verdict) decisions.NotModerator
told true n by verdict deadline moment = refl
told false n by verdict deadline moment = refl

pub later_told : (a : Asked) (events : List Event) (by : ℕ) (verdict : Verdict) (key : List ℕ) (moment : ℕ) → a.state ≡ states.Decided by verdict →
    decide_answer (after_all events a) key moment ≡ cond (is_moderator a key) (decisions.Already by verdict) decisions.NotModerator
later_told a events by verdict key moment h =
    ap (λ (r : Asked). decide_answer r key moment) (settled a events (ap is_pending h))
    ∙ ap (λ (s : ApprovalState). answer (place_of a key) s a.deadline moment) h
    ∙ ap (λ (p : Option ℕ). answer p (states.Decided by verdict) a.deadline moment) (placed (bytes_eq key) a.moderators)
    ∙ told (is_moderator a key) (position_or_len (bytes_eq key) a.moderators) by verdict a.deadline moment
