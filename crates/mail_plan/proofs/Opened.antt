-- The releases that openings make.
use Rattle.std.proofs.Common.{◌≡◌, ℕ, zero, suc, ◌-◌, take, sym, ap, ◌∙◌, refl, arith, Option, Some, List}
use Rattle.std.proofs.lemmas.List.{take-map}
use Rattle.mail_names.specs.declared.gate.Gate.{Gate}
use Rattle.mail_submission.specs.Submission.{Submitted}
use Rattle.mail_plan.specs.Planning.{Opening, gates_opened, before_at, made_at, input_at, first_input}

pub opened_of : (openings : List Opening) (count : ℕ) → gates_opened (take count openings) ≡ take count (gates_opened openings)
opened_of openings count = sym (take-map (λ (opening : Opening). opening.gate) count openings)

less_one : (n : ℕ) → suc n - 1 ≡ n
less_one n = omega arith

pub before_of : (openings : List Opening) (release : ℕ) → (release ≡ 0 → ⊥) → Some (gates_opened (take (release - 1) openings)) ≡ before_at openings release
before_of openings zero later = absurd (later refl)
before_of openings (suc release) later =
    ap (λ (count : ℕ). Some (gates_opened (take count openings))) (less_one release)
    ∙ ap (λ (gates : List Gate). Some gates) (opened_of openings release)

pub input_of : (number epoch accepted_at made release : ℕ) (before : Option (List Gate)) (opened : List Gate) (submission : Submitted) (openings : List Opening) →
    made ≡ made_at accepted_at openings release → before ≡ before_at openings release → opened ≡ gates_opened (take release openings) →
    record { number = number; release = release; epoch = epoch; accepted_at = accepted_at; made = made; before = before; opened = opened; submission = submission }
    ≡ input_at (first_input number epoch accepted_at submission) openings release
input_of number epoch accepted_at made release before opened submission openings same_made same_before same_opened =
    ap (λ (x : ℕ). record { number = number; release = release; epoch = epoch; accepted_at = accepted_at; made = x; before = before; opened = opened; submission = submission }) same_made
    ∙ ap (λ (x : Option (List Gate)). record { number = number; release = release; epoch = epoch; accepted_at = accepted_at; made = made_at accepted_at openings release; before = x; opened = opened; submission = submission }) same_before
    ∙ ap (λ (x : List Gate). record { number = number; release = release; epoch = epoch; accepted_at = accepted_at; made = made_at accepted_at openings release; before = before_at openings release; opened = x; submission = submission }) (same_opened ∙ opened_of openings release)
