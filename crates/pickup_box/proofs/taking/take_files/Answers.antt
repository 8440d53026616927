use Rattle.std.proofs.Common.{◌≡◌, ap, ◌∙◌, inr}
use Rattle.pickup_box.specs.FileNames.{order_of}
use Rattle.pickup_box.proofs.Going.{Goes-from, InOrder-listed}
use Rattle.pickup_box.proofs.taking.take_files.Goals as goal

pub returns-clause-taken : goal.returns-clause-taken
returns-clause-taken g c =
    let d = g.B.PickupDir.state c.args.dir.now in
    let e = g.B.PickupDir.state c.list.new.self in
    let is : c.as_slice-2.result.now ≡ order_of c.in-Ok.names.items = c.as_slice-2.ensures.value ∙ c.in_ok-order.ensures ∙ ap order_of c.as_slice.ensures.value in
    inr (
      c.as_slice-2.result.now,
      (InOrder-listed d e c.in-Ok.names.items c.as_slice-2.result.now c.in-Ok.ensures.told c.in-Ok.ensures.answer c.in-Ok.ensures.ascending is).0,
      Goes-from g.I.Intake.gives c.args.intake.now c.take_all.new.intake (g.C.Clock.moments c.args.clock.now) (g.C.Clock.moments c.take_all.new.clock) d e (g.B.PickupDir.state c.take_all.new.dir)
          c.as_slice-2.result.now c.take_all.result c.in-Ok.ensures.told c.take_all.ensures.goes,
    )
