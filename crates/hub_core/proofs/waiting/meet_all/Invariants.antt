use Rattle.std.proofs.Common.{◌≡◌}
use Rattle.hub_core.specs.Waiting.{met}
use Rattle.hub_core.proofs.Changing.{changed_to}
use Rattle.hub_core.proofs.waiting.meet_all.Given as goal

abbrev pub invariant-loop-place : goal.invariant-loop-place
invariant-loop-place l = l.waiting.items ≡ changed_to (met l.moment) l.place l.fn.waiting.items
