use Rattle.std.proofs.Common.{◌<◌, length, arith}
use Rattle.hub_core.specs.Mail.{expired_mail}
use Rattle.hub_core.proofs.Changing.{changed_to-step}
use Rattle.hub_core.proofs.remembered.expire_lives.Goals as goal

pub loop-live-preserved : goal.loop-live-preserved
loop-live-preserved g c =
    let items = c.loop-live.live-items in
    let place = c.loop-live.live-index in
    changed_to-step (expired_mail c.args.moment) place c.args.lives.now.items items c.live-item.result c.expire.new.self c.loop-live.invariant
    (let within : place < length items = omega arith in within) c.expire.ensures
