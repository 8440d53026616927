use Rattle.std.proofs.Common.{◌-◌, ◌≤◌, length, drop}
use Rattle.pickup_box.specs.Folder.{HasNoNameTwice}
use Rattle.pickup_box.proofs.memory.have_own_names.Given as goal

abbrev pub invariant-loop-i : goal.invariant-loop-i
invariant-loop-i l = record {
  within : l.i ≤ length l.files;
  own : HasNoNameTwice (drop l.i l.files) → HasNoNameTwice l.files;
}

abbrev pub decreases-loop-i : goal.decreases-loop-i
decreases-loop-i l = length l.files - l.i
