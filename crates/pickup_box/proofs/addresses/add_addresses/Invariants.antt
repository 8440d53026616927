use Rattle.std.proofs.Common.{◌≡◌, ◌≤◌, ◌++◌, length}
use Rattle.pickup_box.specs.Addresses.{addresses}
use Rattle.pickup_box.proofs.addresses.add_addresses.Given as goal

abbrev pub invariant-loop-rest : goal.invariant-loop-rest
invariant-loop-rest l = record {
  within : length l.rest ≤ length l.value;
  so_far : l.texts.items ++ addresses l.rest ≡ l.initial.texts.items ++ addresses l.value;
}

abbrev pub decreases-loop-rest : goal.decreases-loop-rest
decreases-loop-rest l = length l.rest
