use Rattle.std.proofs.Common.{◌≡◌, drop}
use Rattle.std.specs.Prelude.{option_copied}
use Rattle.categorizer.specs.Releasing.{with_reports}
use Rattle.categorizer.proofs.reports.add_reports.Given as goal

abbrev pub invariant-loop-taken : goal.invariant-loop-taken
invariant-loop-taken l =
    with_reports l.letter (option_copied l.sender) l.sends l.drafts (drop l.taken-index l.all)
    ≡ with_reports l.letter (option_copied l.sender) l.sends l.fn.drafts l.all
