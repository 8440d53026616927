-- Over all releases of a submission each target is sent once.
use Rattle.std.proofs.Common.{◌≡◌, ℕ, zero, suc, ◌≤◌, Bool, true, false, ◌||◌, ◌&&◌, not, List, [], ◌∷◌, ◌++◌, bytes_eq, refl, sym, ◌∙◌, ap, arith}
use Rattle.std.proofs.lemmas.List.Folds.{list_any-append}
use Rattle.std.proofs.lemmas.Slice.Eq.{bytes_eq-Decides}
use Rattle.mail_plan.specs.declared.release.Release.{Release}
use Rattle.mail_plan.specs.Planning.{Input, Opening, Continues, is_among, are_distinct, targets, input_at, all_targets}
use Rattle.mail_plan.proofs.Chains.{continues}

and_true : (a b : Bool) → a ≡ true → b ≡ true → (a && b) ≡ true
and_true true b f g = g
and_true false b f g = f

and_parts : (a b : Bool) → (a && b) ≡ true → (a ≡ true) × (b ≡ true)
and_parts true b h = (refl, h)
and_parts false b h = absurd (cc)

of_not : (a : Bool) → not a ≡ true → a ≡ false
of_not true h = sym h
of_not false h = refl

or_none : (a b : Bool) → a ≡ false → b ≡ false → (a || b) ≡ false
or_none true b f g = f
or_none false b f g = g

or_left : (a b : Bool) → a ≡ true → (a || b) ≡ true
or_left true b h = refl
or_left false b h = cc

or_right : (a b : Bool) → b ≡ true → (a || b) ≡ true
or_right true b h = refl
or_right false b h = h

-- what neither side allows isn't there
neither : (a b c : Bool) → (a ≡ true → c ≡ false) → (b ≡ true → c ≡ false) → (a || b) ≡ true → c ≡ false
neither true b c f g h = f refl
neither false b c f g h = g h

pub joined-distinct : (xs ys : List (List ℕ)) → are_distinct xs ≡ true → are_distinct ys ≡ true →
    ((key : List ℕ) → is_among key xs ≡ true → is_among key ys ≡ false) → are_distinct (xs ++ ys) ≡ true
joined-distinct [] ys p q apart = q
joined-distinct (key ∷ xs) ys p q apart =
    let both = and_parts (not (is_among key xs)) (are_distinct xs) p in
    and_true (not (is_among key (xs ++ ys))) (are_distinct (xs ++ ys))
    (ap not (list_any-append (bytes_eq key) xs ys ∙ or_none (is_among key xs) (is_among key ys) (of_not (is_among key xs) both.0)
    (apart key (or_left (bytes_eq key key) (is_among key xs) ((bytes_eq-Decides key key).1 refl)))))
    (joined-distinct xs ys both.1 q (λ other h. apart other (or_right (bytes_eq other key) (is_among other xs) h)))

-- What is sent once: no later release sends what an earlier one sent.
abbrev pub SentOnce : (Input → Release) → Type 0
SentOnce release_of = (earlier later : Input) → Continues earlier later → (key : List ℕ) →
    is_among key (targets (release_of earlier).items) ≡ true → is_among key (targets (release_of later).items) ≡ false

-- what the releases before this one sent, it doesn't
apart-so-far : (release_of : Input → Release) → SentOnce release_of → (base : Input) (approved : List Opening) (count later : ℕ) (key : List ℕ) → count ≤ later →
    is_among key (all_targets release_of base approved count) ≡ true → is_among key (targets (release_of (input_at base approved later)).items) ≡ false
apart-so-far release_of once base approved zero later key below h = absurd (cc)
apart-so-far release_of once base approved (suc count) zero key below h = absurd (omega arith)
apart-so-far release_of once base approved (suc count) (suc later) key below h =
    neither (is_among key (all_targets release_of base approved count)) (is_among key (targets (release_of (input_at base approved count)).items))
    (is_among key (targets (release_of (input_at base approved (suc later))).items))
    (λ before. apart-so-far release_of once base approved count (suc later) key (omega arith) before)
    (λ here. once _ _ (continues base approved count later (omega arith)) key here)
    (sym (list_any-append (bytes_eq key) (all_targets release_of base approved count) (targets (release_of (input_at base approved count)).items)) ∙ h)

pub all-once : (release_of : Input → Release) → ((input : Input) → are_distinct (targets (release_of input).items) ≡ true) → SentOnce release_of →
    (base : Input) (approved : List Opening) (count : ℕ) → are_distinct (all_targets release_of base approved count) ≡ true
all-once release_of each once base approved zero = refl
all-once release_of each once base approved (suc count) =
    joined-distinct (all_targets release_of base approved count) (targets (release_of (input_at base approved count)).items)
    (all-once release_of each once base approved count) (each (input_at base approved count))
    (λ key h. apart-so-far release_of once base approved count count key (omega arith) h)
