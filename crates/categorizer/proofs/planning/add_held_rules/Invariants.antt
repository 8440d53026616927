use Rattle.std.proofs.Common.{◌≡◌, ◌++◌, drop}
use Rattle.categorizer.specs.Plan.{held_rules}
use Rattle.categorizer.proofs.planning.add_held_rules.Given as goal

abbrev pub invariant-loop-i : goal.invariant-loop-i
invariant-loop-i l = l.gates ++ held_rules l.all l.i (drop l.i l.rules) ≡ l.fn.gates ++ held_rules l.all 0 l.rules
