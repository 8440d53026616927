use Rattle.std.proofs.Common.{◌≡◌, ◌<◌, length, get_or, arith}
use Rattle.hub_core.specs.declared.asking.Asking.{Asking}
use Rattle.hub_core.specs.Approvals.{expired_asking}
use Rattle.hub_core.proofs.Changing.{changed_to-step}
use Rattle.hub_core.proofs.stage.expire_all.Goals as goal

pub loop-asking-preserved : goal.loop-asking-preserved
loop-asking-preserved c =
    let items = c.loop-asking.asking-items in
    let place = c.loop-asking.asking-index in
    let item = get_or items place c.asking-item.result in
    let changed : Asking = record { approval = c.expire.new.self; label = item.label; tell = item.tell } in
    let is : changed ≡ expired_asking c.args.moment item = λ i. record { approval = c.expire.ensures.after i; label = item.label; tell = item.tell } in
    changed_to-step (expired_asking c.args.moment) place c.args.asks.now.items items c.asking-item.result changed c.loop-asking.invariant
    (let within : place < length items = omega arith in within) is
