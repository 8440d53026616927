use Rattle.std.proofs.Common.{◌≡◌, ◌++◌, drop}
use Rattle.categorizer.specs.Plan.{rejections}
use Rattle.categorizer.proofs.planning.rejections.Given as goal

abbrev pub invariant-loop-one : goal.invariant-loop-one
invariant-loop-one l = l.refused ++ rejections (drop l.one-index l.all) ≡ rejections l.all
