use Rattle.std.proofs.Common.{◌≡◌, drop}
use Rattle.std.specs.List.{list_any}
use Rattle.org_directory.specs.Reading.{names_group}
use Rattle.org_directory.proofs.second_pass.name_a_group.Given as goal

abbrev pub invariant-loop-i : goal.invariant-loop-i
invariant-loop-i l = list_any (names_group l.drafts.drafts) (drop l.i l.list) ≡ list_any (names_group l.drafts.drafts) l.list
