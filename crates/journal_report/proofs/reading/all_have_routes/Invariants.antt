-- The lines so far have routes.
use Rattle.std.proofs.Common.{◌≡◌, drop}
use Rattle.std.specs.List.{list_all}
use Rattle.journal_report.specs.Reports.{has_route}
use Rattle.journal_report.proofs.reading.all_have_routes.Given as goal

abbrev pub invariant-loop-line : goal.invariant-loop-line
invariant-loop-line l = list_all (λ line. has_route line.why) (drop l.line-index l.lines) ≡ list_all (λ line. has_route line.why) l.lines
