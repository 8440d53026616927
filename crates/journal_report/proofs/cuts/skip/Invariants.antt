-- The lines so far are skipped.
use Rattle.std.proofs.Common.{◌≡◌}
use Rattle.journal_report.specs.Reading.{skip}
use Rattle.journal_report.proofs.cuts.skip.Given as goal

abbrev pub invariant-loop-line : goal.invariant-loop-line
invariant-loop-line l = l.rest ≡ skip l.line l.bytes
