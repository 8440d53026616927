use Rattle.std.proofs.Common.{◌≡◌, ◌+◌, drop}
use Rattle.hub_core.specs.Standing.{first_task}
use Rattle.hub_core.proofs.live.first_task.Given as goal

abbrev pub invariant-loop-place : goal.invariant-loop-place
invariant-loop-place g l = first_task l.residue l.workers (l.place + 1) (drop l.place l.lives) ≡ first_task l.residue l.workers 1 l.lives
