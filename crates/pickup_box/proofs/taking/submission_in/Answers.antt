use Rattle.std.specs.Prelude.{Some, None}
use Rattle.pickup_box.specs.PickupOf.{pickup_of}
use Rattle.pickup_box.proofs.Lengthy.{stands, unmade}
use Rattle.pickup_box.proofs.taking.submission_in.Goals as goal

pub returns-in-Ok-pickup_of-clause-stands : goal.returns-in-Ok-pickup_of-clause-stands
returns-in-Ok-pickup_of-clause-stands g c =
    stands (g.B.PickupDir.state c.args.dir.now) (g.B.PickupDir.state c.read.new.self) c.args.mark.now c.in_ok-label.label c.as_slice.result.now c.in-Ok.bytes (Some c.in-Ok-pickup_of.submission)
    c.in-Ok.ensures.told c.in-Ok.ensures.answer c.in_ok-label.ensures c.as_slice.ensures c.in-Ok-pickup_of.ensures

pub returns-in-Err-Bad-clause-stands : goal.returns-in-Err-Bad-clause-stands
returns-in-Err-Bad-clause-stands g c =
    stands (g.B.PickupDir.state c.args.dir.now) (g.B.PickupDir.state c.read.new.self) c.args.mark.now c.in_ok-label.label c.as_slice.result.now c.in-Ok.bytes None
    c.in-Ok.ensures.told c.in-Ok.ensures.answer c.in_ok-label.ensures c.as_slice.ensures (unmade (pickup_of c.in_ok-label.label c.as_slice.result.now) c.in-Err-Bad.field-0 c.in-Err-Bad.field-0-is c.in-Err-Bad.ensures)
