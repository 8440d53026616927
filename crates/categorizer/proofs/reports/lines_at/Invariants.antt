use Rattle.std.proofs.Common.{◌≡◌, ◌++◌, drop}
use Rattle.categorizer.specs.Releasing.{lines_at}
use Rattle.categorizer.proofs.reports.lines_at.Given as goal

abbrev pub invariant-loop-place : goal.invariant-loop-place
invariant-loop-place l = l.lines ++ lines_at l.sends (drop l.place-index l.places) ≡ lines_at l.sends l.places
