use Rattle.std.proofs.Common.{◌∙◌, sym}
use Rattle.pickup_box.proofs.Cutting.{one_more}
use Rattle.pickup_box.proofs.header.field_len.Goals as goal

pub loop-i-preserved : goal.loop-i-preserved
loop-i-preserved c = one_more c.args.bytes.now c.loop-i.i c.loop-i-test.true (sym c.ends_field.ensures.value ∙ c.if-ends_field.false) c.loop-i.invariant
