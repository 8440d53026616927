use Rattle.std.proofs.Common.{◌≡◌, take}
use Rattle.std.specs.List.{flat_map}
use Rattle.pickup_box.specs.LineEnds.{ended_line}
use Rattle.pickup_box.proofs.line_ends.lines_ended.Given as goal

abbrev pub invariant-loop-b : goal.invariant-loop-b
invariant-loop-b l = l.text ≡ flat_map ended_line (take l.b-index l.file)
