use Rattle.std.proofs.Common.{◌≡◌, drop}
use Rattle.rule_terms.specs.Forms.{are_distinct}
use Rattle.rule_terms.proofs.read_action.are_distinct.Given as goal

abbrev pub invariant-loop-i : goal.invariant-loop-i
invariant-loop-i l = are_distinct (drop l.i l.keys) ≡ are_distinct l.keys
