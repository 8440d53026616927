use Rattle.std.proofs.Common.{◌≡◌, ◌+◌, ◌++◌, drop}
use Rattle.hub_core.specs.Standing.{tasks_from}
use Rattle.hub_core.proofs.live.uncategorised.Given as goal

abbrev pub invariant-loop-place : goal.invariant-loop-place
invariant-loop-place g l = l.names.items ++ tasks_from (l.place + 1) (drop l.place l.lives) ≡ tasks_from 1 l.lives
