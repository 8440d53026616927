use Rattle.std.proofs.Common.{sym}
use Rattle.pickup_box.proofs.Doing.{under_begun, took}
use Rattle.pickup_box.proofs.taking.take_file.Goals as goal

pub returns-in-Some-clause-took : goal.returns-in-Some-clause-took
returns-in-Some-clause-took g c =
    let d = g.B.PickupDir.state c.args.dir.now in
    took g.I.Intake.gives c.args.intake.now c.args.intake.now c.hand_in.new.intake (g.C.Clock.moments c.args.clock.now) (g.C.Clock.moments c.hand_in.new.clock)
    d d (g.B.PickupDir.state c.hand_in.new.dir) c.args.name.now c.args.name.now c.in-Some.stem.now c.hand_in.result
    (under_begun g.I.Intake.gives c.args.intake.now d c.args.name.now c.in-Some.stem.now (sym c.in-Some.ensures)) c.hand_in.ensures.handed
