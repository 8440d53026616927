use Rattle.std.proofs.Common.{◌≡◌, ◌++◌, drop, map}
use Rattle.categorizer.specs.Releasing.{end_of}
use Rattle.categorizer.proofs.making.ends_of.Given as goal

abbrev pub invariant-loop-loss : goal.invariant-loop-loss
invariant-loop-loss l = l.ends ++ map end_of (drop l.loss-index l.losses) ≡ map end_of l.losses
