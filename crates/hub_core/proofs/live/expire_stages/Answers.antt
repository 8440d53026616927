use Rattle.std.proofs.Common.{◌<◌, length, arith}
use Rattle.hub_core.specs.Approvals.{expired_stage}
use Rattle.hub_core.proofs.Changing.{changed_to-step}
use Rattle.hub_core.proofs.live.expire_stages.Goals as goal

pub loop-stage-preserved : goal.loop-stage-preserved
loop-stage-preserved c =
    let items = c.loop-stage.stage-items in
    let place = c.loop-stage.stage-index in
    changed_to-step (expired_stage c.args.moment) place c.args.stages.now.items items c.stage-item.result c.expire.new.self c.loop-stage.invariant
    (let within : place < length items = omega arith in within) c.expire.ensures
