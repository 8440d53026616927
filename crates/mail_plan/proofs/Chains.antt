-- The releases of one submission follow one another.
use Rattle.std.proofs.Common.{◌≡◌, ℕ, zero, suc, ◌≤◌, List, [], ◌∷◌, ◌++◌, take, Some, refl, ◌∙◌, ap, arith}
use Rattle.mail_names.specs.declared.gate.Gate.{Gate}
use Rattle.mail_plan.specs.Planning.{Input, Opening, Continues, gates_opened, input_at}

pub record Longer (first second : List Gate) : Type 0 where
  pub more : List Gate
  pub is : second ≡ first ++ more

cons : (gate : Gate) (first second : List Gate) → Longer first second → Longer (gate ∷ first) (gate ∷ second)
cons gate first second h = record { more = h.more; is = ap (λ (those : List Gate). gate ∷ those) h.is }

take_longer : (those : List Gate) (earlier later : ℕ) → earlier ≤ later → Longer (take earlier those) (take later those)
take_longer [] zero later h = record { more = take later []; is = refl }
take_longer [] (suc earlier) zero h = absurd (omega arith)
take_longer [] (suc earlier) (suc later) h = record { more = []; is = refl }
take_longer (gate ∷ those) zero later h = record { more = take later (gate ∷ those); is = refl }
take_longer (gate ∷ those) (suc earlier) zero h = absurd (omega arith)
take_longer (gate ∷ those) (suc earlier) (suc later) h = cons gate (take earlier those) (take later those) (take_longer those earlier later (omega arith))

pub continues : (base : Input) (openings : List Opening) (earlier later : ℕ) → earlier ≤ later →
    Continues (input_at base openings earlier) (input_at base openings (suc later))
continues base openings earlier later h =
    let gates = gates_opened openings in
    let before : Longer (take earlier gates) (take later gates) = take_longer gates earlier later h in
    let after : Longer (take later gates) (take (suc later) gates) = take_longer gates later (suc later) (omega arith) in
    record {
      number = refl;
      epoch = refl;
      accepted_at = refl;
      submission = refl;
      more = before.more;
      opened = ap (λ (those : List Gate). Some those) before.is;
      rest = after.more;
      goes_on = after.is ∙ ap (λ (those : List Gate). those ++ after.more) before.is;
    }
