use Rattle.std.proofs.Common.{◌≡◌, length}
use Rattle.http_head.specs.Targets.{behind_empty_lines}
use Rattle.http_head.proofs.target.behind_empty_lines.Given as goal

abbrev pub invariant-loop-rest : goal.invariant-loop-rest
invariant-loop-rest l = behind_empty_lines l.rest ≡ behind_empty_lines l.text

abbrev pub decreases-loop-rest : goal.decreases-loop-rest
decreases-loop-rest l = length l.rest
