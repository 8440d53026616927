-- The lines so far have been added.
use Rattle.std.proofs.Common.{◌≡◌, take}
use Rattle.std.specs.List.{flat_map}
use Rattle.journal_report.specs.Report.{next}
use Rattle.journal_report.proofs.writing.next_lines.Given as goal

abbrev pub invariant-loop-line : goal.invariant-loop-line
invariant-loop-line l = l.text ≡ flat_map (λ line. next line.now) (take l.line-index l.lines)
