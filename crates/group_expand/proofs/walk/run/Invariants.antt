use Rattle.std.proofs.Common.{◌+◌, ◌≤◌, ℕ, List}
use Rattle.group_expand.specs.declared.way.Way.{Way}
use Rattle.group_expand.specs.Gates.{shuts, ShutsSame}
use Rattle.group_expand.specs.Places.{all_owed, Ready, Holds}
use Rattle.group_expand.proofs.walk.run.Given as goal

abbrev pub invariant-loop-alloc : goal.invariant-loop-alloc
invariant-loop-alloc g l =
    (ShutsSame l.directory l.initial.gates l.gates)
    × (Ready l.directory l.marks l.stack.items)
    × ((whole : List Way) → (roots : List (List ℕ)) → Holds l.directory (shuts l.directory l.initial.gates) whole roots l.initial.marks l.initial.stack.items l.initial.found
    → Holds l.directory (shuts l.directory l.initial.gates) whole roots l.marks l.stack.items l.found)
    × (l.steps + all_owed l.directory l.marks l.stack.items ≤ l.initial.steps + all_owed l.directory l.initial.marks l.initial.stack.items)

abbrev pub decreases-loop-alloc : goal.decreases-loop-alloc
decreases-loop-alloc g l = all_owed l.directory l.marks l.stack.items
