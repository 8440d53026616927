use Rattle.std.proofs.Common.{◌≡◌, drop, fold}
use Rattle.rule_engine.specs.Forks.{with_kind, kinds_of}
use Rattle.rule_engine.proofs.forking.kinds_of.Given as goal

abbrev pub invariant-loop-edits : goal.invariant-loop-edits
invariant-loop-edits l = fold with_kind l.kinds (drop l.edits-index l.all) ≡ kinds_of l.all
