use Rattle.std.proofs.Common.{◌≡◌, ◌+◌, ◌<◌, length, get_or, take, ap, ◌∙◌, sym, subst, arith}
use Rattle.pickup_box.specs.declared.taking.PickupEnd.{PickupEnd}
use Rattle.pickup_box.proofs.Going.{SoFar, SoFar-push, has_next, ends, counted-full}
use Rattle.pickup_box.proofs.taking.take_all.Goals as goal

pub take_file-requires : goal.take_file-requires
take_file-requires g c =
    let lt : c.loop-name.name-index < length c.args.names.now = omega (arith, c.loop-name-test.true) in
    let named_so : c.as_slice.result.now ≡ get_or c.args.names.now c.loop-name.name-index c.as_slice.result.now = c.as_slice.ensures ∙ c.name-item.is ∙ ap (λ d. get_or c.args.names.now c.loop-name.name-index d) (sym c.as_slice.ensures) in
    has_next g.I.Intake.gives c.args.intake.now c.loop-name.intake (g.C.Clock.moments c.args.clock.now) (g.C.Clock.moments c.loop-name.clock) (g.B.PickupDir.state c.args.dir.now) (g.B.PickupDir.state c.loop-name.dir)
    c.args.names.now c.loop-name.name-index c.loop-name.end c.as_slice.result.now c.requires (g.met.B.PickupDir.no_name_twice c.args.dir.now) lt named_so c.loop-name.invariant.goes

pub returns-in-Err-clause-goes : goal.returns-in-Err-clause-goes
returns-in-Err-clause-goes g c =
    let lt : c.loop-name.name-index < length c.args.names.now = omega (arith, c.loop-name-test.true) in
    let named_so : c.as_slice.result.now ≡ get_or c.args.names.now c.loop-name.name-index c.as_slice.result.now = c.as_slice.ensures ∙ c.name-item.is ∙ ap (λ d. get_or c.args.names.now c.loop-name.name-index d) (sym c.as_slice.ensures) in
    ends g.I.Intake.gives c.args.intake.now c.loop-name.intake c.take_file.new.intake (g.C.Clock.moments c.args.clock.now) (g.C.Clock.moments c.loop-name.clock) (g.C.Clock.moments c.take_file.new.clock)
    (g.B.PickupDir.state c.args.dir.now) (g.B.PickupDir.state c.loop-name.dir) (g.B.PickupDir.state c.take_file.new.dir)
    c.args.names.now c.loop-name.name-index c.loop-name.end c.as_slice.result.now c.in-Err.halt c.ended.result lt named_so c.loop-name.invariant.goes c.in-Err.ensures.took c.ended.ensures.value

pub loop-name-preserved : goal.loop-name-preserved
loop-name-preserved g c =
    let lt : c.loop-name.name-index < length c.args.names.now = omega (arith, c.loop-name-test.true) in
    let named_so : c.as_slice.result.now ≡ get_or c.args.names.now c.loop-name.name-index c.as_slice.result.now = c.as_slice.ensures ∙ c.name-item.is ∙ ap (λ d. get_or c.args.names.now c.loop-name.name-index d) (sym c.as_slice.ensures) in
    record {
      goes =
          subst (λ (x : PickupEnd). SoFar g.I.Intake.gives c.args.intake.now c.take_file.new.intake (g.C.Clock.moments c.args.clock.now) (g.C.Clock.moments c.take_file.new.clock)
          (g.B.PickupDir.state c.args.dir.now) (g.B.PickupDir.state c.take_file.new.dir) (take (c.loop-name.name-index + 1) c.args.names.now) x) (sym c.counted-end.ensures)
          (SoFar-push g.I.Intake.gives c.args.intake.now c.loop-name.intake c.take_file.new.intake (g.C.Clock.moments c.args.clock.now) (g.C.Clock.moments c.loop-name.clock) (g.C.Clock.moments c.take_file.new.clock)
          (g.B.PickupDir.state c.args.dir.now) (g.B.PickupDir.state c.loop-name.dir) (g.B.PickupDir.state c.take_file.new.dir)
          c.args.names.now c.loop-name.name-index c.loop-name.end c.as_slice.result.now c.in-Ok.fate c.requires (g.met.B.PickupDir.no_name_twice c.args.dir.now) lt named_so c.loop-name.invariant.goes c.in-Ok.ensures.took);
      open_still = ap (λ (x : PickupEnd). x.full) c.counted-end.ensures ∙ counted-full c.loop-name.end c.in-Ok.fate ∙ c.loop-name.invariant.open_still;
      folders = omega (arith, c.loop-name.invariant.folders, c.in-Ok.ensures.folders);
      disks = omega (arith, c.loop-name.invariant.disks, c.in-Ok.ensures.disks);
    }
