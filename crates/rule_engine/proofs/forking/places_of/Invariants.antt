use Rattle.std.proofs.Common.{◌≡◌, ◌++◌, drop}
use Rattle.rule_engine.specs.Forks.{places_of}
use Rattle.rule_engine.proofs.forking.places_of.Given as goal

abbrev pub invariant-loop-i : goal.invariant-loop-i
invariant-loop-i l = l.places ++ places_of l.kind l.i (drop l.i l.all) ≡ places_of l.kind 0 l.all
