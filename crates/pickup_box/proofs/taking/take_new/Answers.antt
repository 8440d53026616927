use Rattle.std.proofs.Common.{List, ℕ, sym, subst}
use Rattle.pickup_box.specs.Folder.{Has}
use Rattle.pickup_box.specs.Parts.{Handed}
use Rattle.pickup_box.proofs.Doing.{under_new, under_has, took, took_unbegun}
use Rattle.pickup_box.proofs.taking.take_new.Goals as goal

pub hand_in-requires : goal.hand_in-requires
hand_in-requires g c =
    let d = g.B.PickupDir.state c.args.dir.now in
    subst (λ (m : List ℕ). Has m (g.B.PickupDir.state c.begin.new.dir)) (sym c.as_slice.ensures)
    (under_has g.I.Intake.gives c.args.intake.now c.begin.new.intake d (g.B.PickupDir.state c.begin.new.dir) c.args.name.now c.in-Ok.mark c.stem_of-stem.result.now
    (under_new g.I.Intake.gives c.args.intake.now c.begin.new.intake d (g.B.PickupDir.state c.begin.new.dir) c.args.name.now c.stem_of-stem.result.now c.in-Ok.mark c.requires.new c.stem_of-stem.ensures c.in-Ok.ensures.begins)
    c.requires.there)

pub returns-in-Ok-clause-took : goal.returns-in-Ok-clause-took
returns-in-Ok-clause-took g c =
    let d = g.B.PickupDir.state c.args.dir.now in
    took g.I.Intake.gives c.args.intake.now c.begin.new.intake c.hand_in.new.intake (g.C.Clock.moments c.args.clock.now) (g.C.Clock.moments c.hand_in.new.clock)
    d (g.B.PickupDir.state c.begin.new.dir) (g.B.PickupDir.state c.hand_in.new.dir) c.args.name.now c.in-Ok.mark c.stem_of-stem.result.now c.hand_in.result
    (under_new g.I.Intake.gives c.args.intake.now c.begin.new.intake d (g.B.PickupDir.state c.begin.new.dir) c.args.name.now c.stem_of-stem.result.now c.in-Ok.mark c.requires.new c.stem_of-stem.ensures c.in-Ok.ensures.begins)
    (subst (λ (m : List ℕ). Handed g.I.Intake.gives c.begin.new.intake c.hand_in.new.intake (g.C.Clock.moments c.args.clock.now) (g.C.Clock.moments c.hand_in.new.clock) (g.B.PickupDir.state c.begin.new.dir) (g.B.PickupDir.state c.hand_in.new.dir) m c.stem_of-stem.result.now c.hand_in.result)
    c.as_slice.ensures c.hand_in.ensures.handed)

pub returns-in-Err-clause-took : goal.returns-in-Err-clause-took
returns-in-Err-clause-took g c =
    took_unbegun g.I.Intake.gives c.args.intake.now c.begin.new.intake (g.C.Clock.moments c.args.clock.now) (g.B.PickupDir.state c.args.dir.now) (g.B.PickupDir.state c.begin.new.dir) c.args.name.now c.stem_of-stem.result.now c.in-Err.halt
    c.requires.new c.in-Err.ensures.begins
