-- What grows as gates are opened.
use Rattle.std.specs.Prelude.{◌≡◌, ℕ, ◌||◌, Bool, true, List, bytes_eq}
use Rattle.std.specs.List.{list_any}
use Rattle.mail_names.specs.declared.gate.Gate.{Gate}
use Rattle.group_expand.specs.declared.outcome.Leaf.{Leaf}
use Rattle.group_expand.specs.declared.outcome.Expansion.{Expansion}
use Rattle.mail_plan.specs.Planning.{is_gate_among}
use Rattle.categorizer.specs.declared.parts.Plan.{Plan}
use Rattle.categorizer.specs.Plan.{is_target, is_rejected, closed_gates}

abbrev pub is_leaf : List Leaf → List ℕ → Bool
is_leaf leaves key = list_any (λ (leaf : Leaf). bytes_eq key leaf.key) leaves

-- Leaves stay, though by other routes and in another order. A closed object stays or is opened.
pub record ExpansionGrows (opened : List Gate) (before after : Expansion) : Type 0 where
  pub leaves : (key : List ℕ) → is_leaf before.leaves key ≡ true → is_leaf after.leaves key ≡ true
  pub closed : (gate : Gate) → is_gate_among gate (closed_gates before.closed) ≡ true
      → (is_gate_among gate (closed_gates after.closed) || is_gate_among gate opened) ≡ true

-- Targets sent and leaves rejected stay. A gate that is met stays or is opened.
pub record PlanGrows (opened : List Gate) (before after : Plan) : Type 0 where
  pub sent : (target : List ℕ) → is_target before.sent target ≡ true → is_target after.sent target ≡ true
  pub refused : (key : List ℕ) → is_rejected before.refused key ≡ true → is_rejected after.refused key ≡ true
  pub met : (gate : Gate) → is_gate_among gate before.met ≡ true → (is_gate_among gate after.met || is_gate_among gate opened) ≡ true
