-- The targets so far have been added.
use Rattle.std.proofs.Common.{◌≡◌, take}
use Rattle.std.specs.List.{flat_map}
use Rattle.journal_report.specs.Report.{target_line, next}
use Rattle.journal_report.proofs.writing.targets_text.Given as goal

abbrev pub invariant-loop-line : goal.invariant-loop-line
invariant-loop-line l = l.text ≡ flat_map (λ line. next (target_line line)) (take l.line-index l.lines)
