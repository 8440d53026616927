use Rattle.std.proofs.Common.{◌≡◌, length}
use Rattle.http_head.specs.Heads.{behind_line_ends}
use Rattle.http_head.proofs.limits.behind_line_ends.Given as goal

abbrev pub invariant-loop-rest : goal.invariant-loop-rest
invariant-loop-rest l = behind_line_ends l.rest ≡ behind_line_ends l.text

abbrev pub decreases-loop-rest : goal.decreases-loop-rest
decreases-loop-rest l = length l.rest
