-- Where nothing differs, an outcome's input and organisation are those that are asked.
use Rattle.std.proofs.Common.{◌≡◌, ℕ, ◌+◌, Bool, true, false, cond, List, [], ◌∷◌, Option, Some, None, refl, ap}
use Rattle.std.specs.Prelude.{◌==◌, bytes_eq, option_map}
use Rattle.std.proofs.lemmas.Bool.Decides.{Decides-eqb}
use Rattle.std.proofs.lemmas.Slice.Eq.{bytes_eq-Decides}
use Rattle.mail_names.specs.declared.gate.Gate.{Gate}
use Rattle.mail_names.specs.declared.gate.Gate.TheVariants as gates
use Rattle.mail_names.specs.Gates.{same_gate}
use Rattle.mail_plan.specs.Planning.{Input}
use Rattle.mail_submission.specs.Submission.{Submitted}
use Rattle.mail_submission.specs.declared.submission.Origin.{Origin}
use Rattle.mail_submission.specs.declared.submission.Origin.TheVariants as origins
use Rattle.hub_core.specs.declared.part.Part.{Part}
use Rattle.hub_core.specs.declared.part.Difference.{Difference}
use Rattle.hub_core.specs.Setup.{Texts}
use Rattle.hub_core.specs.Differing.{place_where, bytes_differ, keys_differ, gates_differ, numbers_differ, options_differ, origins_differ, or_behind, submissions_differ, first_difference}

some≢none : {X : Type 0} (x : X) → Some x ≡ None → ⊥
some≢none x e = cc

true≢false : true ≡ false → ⊥
true≢false e = cc

behind : (part : Part) (at : Option ℕ) (rest : Option Difference) → or_behind part at rest ≡ None → (at ≡ None) × (rest ≡ None)
behind part (Some at) rest none = absurd (some≢none _ none)
behind part None rest none = (refl, none)

number_is : (a b : ℕ) → numbers_differ a b ≡ None → a ≡ b
number_is a b none = by (a == b) refl none
  where
    by : (t : Bool) → (a == b) ≡ t → cond {A = Option ℕ} t None (Some 0) ≡ None → a ≡ b
    by true same none = (Decides-eqb a b).0 same
    by false same none = absurd (some≢none _ none)

module _ {X : Type 0} (same : X → X → Bool) (is : (a b : X) → same a b ≡ true → a ≡ b) where
  later : (o : Option ℕ) → option_map (λ n. n + 1) o ≡ None → o ≡ None
  later None none = refl
  later (Some n) none = absurd (some≢none _ none)

  head_is : (t : Bool) (x y : X) (xs ys : List X) → same x y ≡ t → (place_where same xs ys ≡ None → xs ≡ ys) →
      cond {A = Option ℕ} t (option_map (λ n. n + 1) (place_where same xs ys)) (Some 0) ≡ None → x ∷ xs ≡ y ∷ ys
  head_is true x y xs ys e rest none =
      let head = is x y e in
      let tail = rest (later (place_where same xs ys) none) in
      λ i. head i ∷ tail i
  head_is false x y xs ys e rest none = absurd (some≢none _ none)

  list_is : (xs ys : List X) → place_where same xs ys ≡ None → xs ≡ ys
  list_is [] [] none = refl
  list_is [] (y ∷ ys) none = absurd (some≢none _ none)
  list_is (x ∷ xs) [] none = absurd (some≢none _ none)
  list_is (x ∷ xs) (y ∷ ys) none = head_is (same x y) x y xs ys refl (list_is xs ys) none

bytes_is : (a b : List ℕ) → bytes_differ a b ≡ None → a ≡ b
bytes_is a b none = list_is (λ x y. x == y) (λ x y e. (Decides-eqb x y).0 e) a b none

keys_is : (a b : List (List ℕ)) → keys_differ a b ≡ None → a ≡ b
keys_is a b none = list_is bytes_eq (λ x y e. (bytes_eq-Decides x y).0 e) a b none

gate_is : (a b : Gate) → same_gate a b ≡ true → a ≡ b
gate_is (gates.Object k) (gates.Object l) e = ap (λ (key : List ℕ). gates.Object key) ((bytes_eq-Decides k l).0 e)
gate_is (gates.Object k) (gates.Rule q) e = absurd cc
gate_is (gates.Rule p) (gates.Object l) e = absurd cc
gate_is (gates.Rule p) (gates.Rule q) e = ap (λ (place : ℕ). gates.Rule place) ((Decides-eqb p q).0 e)

gates_is : (a b : List Gate) → gates_differ a b ≡ None → a ≡ b
gates_is a b none = list_is same_gate gate_is a b none

option_is : {X : Type 0} (differ : X → X → Option ℕ) (is : (a b : X) → differ a b ≡ None → a ≡ b) (a b : Option X) → options_differ differ a b ≡ None → a ≡ b
option_is differ is None None none = refl
option_is differ is None (Some b) none = absurd (some≢none _ none)
option_is differ is (Some a) None none = absurd (some≢none _ none)
option_is {X} differ is (Some a) (Some b) none = ap (λ (x : X). Some x) (is a b none)

origin_is : (a b : Origin) → origins_differ a b ≡ None → a ≡ b
origin_is origins.Smtp origins.Smtp none = refl
origin_is origins.Smtp (origins.Pickup m) none = absurd (some≢none _ none)
origin_is (origins.Pickup m) origins.Smtp none = absurd (some≢none _ none)
origin_is (origins.Pickup m) (origins.Pickup n) none = ap (λ (mark : List ℕ). origins.Pickup mark) (bytes_is m n none)

submission_is : (a b : Submitted) → submissions_differ a b ≡ None → a ≡ b
submission_is a b none =
    let one = behind _ _ _ none in
    let two = behind _ _ _ one.1 in
    let three = behind _ _ _ two.1 in
    let four = behind _ _ _ three.1 in
    let origin = origin_is a.origin b.origin one.0 in
    let reverse = option_is bytes_differ bytes_is a.reverse b.reverse two.0 in
    let recipients = keys_is a.recipients b.recipients three.0 in
    let bytes = bytes_is a.bytes b.bytes four.0 in
    λ i. record { origin = origin i; reverse = reverse i; recipients = recipients i; bytes = bytes i }

-- an input and an organisation that differ nowhere are the same
pub same_input : (a : Input) (own : Texts) (b : Input) (other : Texts) → a.number ≡ b.number → a.release ≡ b.release → first_difference a own b other ≡ None → (a ≡ b) × (own ≡ other)
same_input a own b other number release none =
    let one = behind _ _ _ none in
    let two = behind _ _ _ one.1 in
    let three = behind _ _ _ two.1 in
    let four = behind _ _ _ three.1 in
    let five = behind _ _ _ four.1 in
    let six = behind _ _ _ five.1 in
    let seven = behind _ _ _ six.1 in
    let epoch = number_is a.epoch b.epoch one.0 in
    let directory = bytes_is own.directory other.directory two.0 in
    let rules = bytes_is own.rules other.rules three.0 in
    let accepted_at = number_is a.accepted_at b.accepted_at four.0 in
    let made = number_is a.made b.made five.0 in
    let before = option_is gates_differ gates_is a.before b.before six.0 in
    let opened = gates_is a.opened b.opened seven.0 in
    let submission = submission_is a.submission b.submission seven.1 in (
      λ i. record {
        number = number i;
        release = release i;
        epoch = epoch i;
        accepted_at = accepted_at i;
        made = made i;
        before = before i;
        opened = opened i;
        submission = submission i;
      },
      λ i. record { directory = directory i; rules = rules i },
    )
