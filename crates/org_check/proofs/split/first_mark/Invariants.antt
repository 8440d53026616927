use Rattle.std.proofs.Common.{◌≡◌, ◌-◌, length}
use Rattle.org_check.specs.Parts.{mark_from, first_mark}
use Rattle.org_check.proofs.split.first_mark.Given as goal

abbrev pub invariant-loop-at : goal.invariant-loop-at
invariant-loop-at l = mark_from (length l.text - l.at) l.text l.at ≡ first_mark l.text
