use Rattle.std.proofs.Common.{◌≡◌, drop}
use Rattle.pickup_box.specs.declared.addresses.Inside.TheVariants as inside
use Rattle.pickup_box.specs.Addresses.{angled}
use Rattle.pickup_box.proofs.addresses.angled.Given as goal

abbrev pub invariant-loop-i : goal.invariant-loop-i
invariant-loop-i l = angled l.at (drop l.i l.piece) ≡ angled inside.Nothing l.piece
