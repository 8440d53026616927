use Rattle.pickup_box.proofs.Doing.{hands_given, hands_bad}
use Rattle.pickup_box.proofs.taking.hand_in.Goals as goal

pub returns-in-Ok-Some-clause-handed : goal.returns-in-Ok-Some-clause-handed
returns-in-Ok-Some-clause-handed g c =
    hands_given g.I.Intake.gives c.args.intake.now c.give.new.intake (g.C.Clock.moments c.args.clock.now) (g.C.Clock.moments c.give.new.clock)
    (g.B.PickupDir.state c.args.dir.now) (g.B.PickupDir.state c.submission_in.new.dir) (g.B.PickupDir.state c.give.new.dir) c.args.mark.now c.args.stem.now c.in-Ok-Some.field-0 c.in-Ok-Some.submission c.give.result
    c.in-Ok-Some.field-0-is c.in-Ok-Some.ensures.stands c.give.ensures.given

pub returns-in-Ok-clause-handed : goal.returns-in-Ok-clause-handed
returns-in-Ok-clause-handed g c =
    hands_bad g.I.Intake.gives c.args.intake.now (g.C.Clock.moments c.args.clock.now)
    (g.B.PickupDir.state c.args.dir.now) (g.B.PickupDir.state c.submission_in.new.dir) (g.B.PickupDir.state c.put_aside.new.dir) c.args.mark.now c.args.stem.now c.in-Ok-None.field-0
    c.in-Ok-None.field-0-is c.in-Ok-None.ensures.stands c.in-Ok.ensures.does
