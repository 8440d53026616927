use Rattle.std.proofs.Common.{◌≡◌}
use Rattle.hub_core.specs.Approvals.{expired_stage}
use Rattle.hub_core.proofs.Changing.{changed_to}
use Rattle.hub_core.proofs.live.expire_stages.Given as goal

abbrev pub invariant-loop-stage : goal.invariant-loop-stage
invariant-loop-stage l = l.stage-items ≡ changed_to (expired_stage l.moment) l.stage-index l.fn.stages.items
