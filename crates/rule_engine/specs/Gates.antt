-- The gates of rules.
use Rattle.std.specs.Prelude.{◌≡◌, ℕ, ◌==◌, Bool, true, false, List}
use Rattle.std.specs.List.{list_any}
use Rattle.mail_names.specs.declared.gate.Gate.{Gate}
use Rattle.mail_names.specs.declared.gate.Gate.TheVariants as gates

-- whether this gate is the one of the rule at a place
abbrev pub opens : ℕ → Gate → Bool
opens rule (gates.Object key) = false
opens rule (gates.Rule place) = rule == place

-- The gate of the rule at this place is among those opened.
abbrev pub is_opened : List Gate → ℕ → Bool
is_opened opened rule = list_any (opens rule) opened

-- Each rule's gate that is among the first ones is among the second ones.
abbrev pub OpensMore : List Gate → List Gate → Type 0
OpensMore before opened = (rule : ℕ) → is_opened before rule ≡ true → is_opened opened rule ≡ true
