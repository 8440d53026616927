use Rattle.std.proofs.Common.{◌≡◌, map}
use Rattle.hub_core.specs.Standing.{waiting_of}
use Rattle.hub_core.proofs.waiting.waiting_each.Given as goal

abbrev pub invariant-loop-item : goal.invariant-loop-item
invariant-loop-item l = l.waiting.items ≡ map (waiting_of l.made l.texts) l.yielded
