use Rattle.std.proofs.Common.{◌≡◌, ◌++◌, drop, map}
use Rattle.categorizer.specs.Releasing.{hold_of}
use Rattle.categorizer.proofs.holds.holds_of.Given as goal

abbrev pub invariant-loop-gate : goal.invariant-loop-gate
invariant-loop-gate l = l.holds ++ map (hold_of l.directory l.rules) (drop l.gate-index l.met) ≡ map (hold_of l.directory l.rules) l.met
