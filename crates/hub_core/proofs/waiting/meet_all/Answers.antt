use Rattle.std.proofs.Common.{◌<◌, ◌∙◌, length, arith}
use Rattle.hub_core.specs.Waiting.{met}
use Rattle.hub_core.proofs.Changing.{changed_to-place}
use Rattle.hub_core.proofs.waiting.meet_all.Goals as goal

pub loop-place-preserved : goal.loop-place-preserved
loop-place-preserved c =
    let xs = c.args.waiting.now.items in
    let place = c.loop-place.place in
    let (w, there, set) = changed_to-place (met c.args.moment) place xs c.loop-place.waiting.items c.loop-place.invariant (let within : place < length xs = omega arith in within) in
    c.meet_at.ensures w there ∙ set
