use Rattle.std.proofs.Common.{◌≡◌, reverse, take}
use Rattle.plant_dev.specs.Failures.{failing_by}
use Rattle.plant_dev.proofs.failures.Failures.how.Given as goal

abbrev pub invariant-loop-plan : goal.invariant-loop-plan
invariant-loop-plan l = l.how ≡ failing_by (reverse (take l.plan-index l.self.folders.items)) l.folder
