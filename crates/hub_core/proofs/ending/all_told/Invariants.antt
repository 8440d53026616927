use Rattle.std.proofs.Common.{◌≡◌, ◌+◌, ◌++◌, drop}
use Rattle.hub_core.specs.declared.limits.Limits.{Limits}
use Rattle.hub_core.specs.Setup.{setup_of}
use Rattle.hub_core.specs.Ending.{all_told}
use Rattle.hub_core.proofs.ending.all_told.Given as goal

abbrev pub invariant-loop-place : goal.invariant-loop-place
invariant-loop-place g l = (limits : Limits) →
    l.told.items ++ all_told (setup_of g.T.Planner.means limits) l.moment (l.place + 1) (drop l.place l.lives)
    ≡ all_told (setup_of g.T.Planner.means limits) l.moment 1 l.lives
