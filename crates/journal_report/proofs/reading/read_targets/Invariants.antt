-- Of the targets those so far are read, and the others stand in the rest.
use Rattle.std.proofs.Common.{◌≡◌, ℕ, List, ◌++◌, length, false}
use Rattle.std.specs.List.{AllByRecursion}
use Rattle.journal_report.specs.declared.parts.Line.{Line}
use Rattle.journal_report.specs.Reports.{FitsLine}
use Rattle.journal_report.specs.Reading.{target_lines, is_target}
use Rattle.journal_report.proofs.reading.read_targets.Given as goal

abbrev pub invariant-targets : goal.invariant-targets
invariant-targets l = (lines : List Line) (behind : List ℕ) → AllByRecursion FitsLine lines → is_target behind ≡ false → l.fn.bytes ≡ target_lines lines ++ behind →
    (others : List Line) × (AllByRecursion FitsLine others) × (lines ≡ l.lines ++ others) × (l.rest ≡ target_lines others ++ behind)

abbrev pub decreases-targets : goal.decreases-targets
decreases-targets l = length l.rest
