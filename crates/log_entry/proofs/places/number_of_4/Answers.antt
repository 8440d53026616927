use Rattle.std.proofs.Common.{◌∙◌, ap, arith}
use Rattle.std.specs.Int.{from_le_bytes, w32}
use Rattle.log_entry.proofs.Numbers.{le32_of}
use Rattle.log_entry.proofs.places.number_of_4.Goals as goal

pub returns : goal.returns
returns c = le32_of c.args.bytes.now c.from_le_bytes.result c.requires (λ i. omega (arith, c.type_inv.bytes i)) (c.from_le_bytes.ensures ∙ ap (from_le_bytes w32) c.copy_from_slice.ensures.after)
