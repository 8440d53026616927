use Rattle.std.proofs.Common.{◌≡◌, drop}
use Rattle.pickup_box.specs.Folder.{bytes_in}
use Rattle.pickup_box.proofs.memory.bytes_in.Given as goal

abbrev pub invariant-loop-other : goal.invariant-loop-other
invariant-loop-other l = bytes_in (drop l.other-index l.files) l.name ≡ bytes_in l.files l.name
