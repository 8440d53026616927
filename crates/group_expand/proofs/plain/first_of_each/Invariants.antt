use Rattle.std.proofs.Common.{◌≡◌}
use Rattle.group_expand.specs.Ways.{first_of_each}
use Rattle.group_expand.proofs.plain.first_of_each.Given as goal

abbrev pub invariant-loop-way : goal.invariant-loop-way
invariant-loop-way l = l.first ≡ first_of_each l.yielded
