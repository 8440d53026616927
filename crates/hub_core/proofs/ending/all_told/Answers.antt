use Rattle.std.proofs.Common.{◌+◌, refl}
use Rattle.hub_core.specs.Setup.{setup_of}
use Rattle.hub_core.specs.Ending.{all_told}
use Rattle.hub_core.proofs.Telling.{none_left}
use Rattle.hub_core.proofs.ending.all_told.Goals as goal

pub returns : goal.returns
returns g c = λ limits.
    let setup = setup_of g.T.Planner.means limits in
    none_left (all_told setup c.args.moment (c.loop-place.place + 1)) c.args.lives.now c.loop-place.place c.loop-place.told.items
    (all_told setup c.args.moment 1 c.args.lives.now) refl c.loop-place-test.false (c.loop-place.invariant limits)
