use Rattle.std.proofs.Common.{◌≡◌, drop}
use Rattle.org_directory.specs.Reading.{are_known}
use Rattle.org_directory.proofs.second_pass.are_known.Given as goal

abbrev pub invariant-loop-i : goal.invariant-loop-i
invariant-loop-i l = are_known l.named (drop l.i l.list) ≡ are_known l.named l.list
