-- When two gates are one.
use Rattle.std.specs.Prelude.{◌==◌, Bool, false, bytes_eq}
use Rattle.mail_names.specs.declared.gate.Gate.{Gate}
use Rattle.mail_names.specs.declared.gate.Gate.TheVariants as gates

-- the same object, or the same rule
abbrev pub same_gate : Gate → Gate → Bool
same_gate (gates.Object key) (gates.Object other) = bytes_eq key other
same_gate (gates.Object key) (gates.Rule place) = false
same_gate (gates.Rule place) (gates.Object key) = false
same_gate (gates.Rule place) (gates.Rule other) = place == other
