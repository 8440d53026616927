-- What was opened later changes no earlier release.
use Rattle.std.proofs.Common.{◌≡◌, ℕ, zero, suc, ◌≤◌, List, ◌++◌, length, take, Option, Some, refl, ap, ◌∙◌, sym, arith}
use Rattle.std.proofs.lemmas.List.{take-append-le, take-map}
use Rattle.mail_names.specs.declared.gate.Gate.{Gate}
use Rattle.mail_plan.specs.Planning.{Input, Opening, gates_opened, before_at, moment_or, made_at, first_input, input_at}
use Rattle.hub_core.specs.Setup.{Setup}
use Rattle.hub_core.specs.Items.{Accepted, release_for}
use Rattle.hub_core.proofs.Places.{get-append-in}

gates-more : (xs ys : List Opening) (r : ℕ) → r ≤ length xs → take r (gates_opened (xs ++ ys)) ≡ take r (gates_opened xs)
gates-more xs ys r low =
    take-map (λ (opening : Opening). opening.gate) r (xs ++ ys) ∙ ap (λ (zs : List Opening). gates_opened zs) (take-append-le r xs ys low)
    ∙ sym (take-map (λ (opening : Opening). opening.gate) r xs)

before-more : (xs ys : List Opening) (r : ℕ) → r ≤ length xs → before_at (xs ++ ys) r ≡ before_at xs r
before-more xs ys zero low = refl
before-more xs ys (suc r) low = ap (λ (gates : List Gate). Some gates) (gates-more xs ys r (omega arith))

made-more : (first : ℕ) (xs ys : List Opening) (r : ℕ) → r ≤ length xs → made_at first (xs ++ ys) r ≡ made_at first xs r
made-more first xs ys zero low = refl
made-more first xs ys (suc r) low = ap (λ (o : Option Opening). moment_or first o) (get-append-in xs ys r (omega arith))

-- the input of a release that was there before more gates were opened
pub input-more : (base : Input) (xs ys : List Opening) (r : ℕ) → r ≤ length xs → input_at base (xs ++ ys) r ≡ input_at base xs r
input-more base xs ys r low = λ i. record base {
  release = r;
  made = made-more base.made xs ys r low i;
  before = before-more xs ys r low i;
  opened = gates-more xs ys r low i;
}

-- and the release
pub release-more : (setup : Setup) (number : ℕ) (a : Accepted) (more : List Opening) (r : ℕ) → r ≤ length a.opened →
    release_for setup number (record a { opened = a.opened ++ more }) r ≡ release_for setup number a r
release-more setup number a more r low =
    ap (λ (input : Input). setup.release_of a.org input) (input-more (first_input number a.epoch a.moment a.submission) a.opened more r low)
