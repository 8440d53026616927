use Rattle.std.proofs.Common.{◌≡◌, ◌+◌, drop}
use Rattle.pickup_box.specs.declared.addresses.Inside.TheVariants as inside
use Rattle.pickup_box.specs.Addresses.{first_len}
use Rattle.pickup_box.proofs.addresses.first_len.Given as goal

abbrev pub invariant-loop-i : goal.invariant-loop-i
invariant-loop-i l = l.i + first_len l.at (drop l.i l.value) ≡ first_len inside.Nothing l.value
