use Rattle.std.proofs.Common.{◌≡◌, map}
use Rattle.hub_core.specs.Waiting.{noticed}
use Rattle.hub_core.proofs.waiting.noticed_all.Given as goal

abbrev pub invariant-loop-item : goal.invariant-loop-item
invariant-loop-item l = l.made.items ≡ map (noticed l.moment l.due) l.yielded
