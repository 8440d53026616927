use Rattle.std.proofs.Common.{◌≡◌, ◌+◌, ◌≤◌, [], drop}
use Rattle.group_expand.specs.Ways.{first_of_each}
use Rattle.group_expand.specs.Routes.{all_ways}
use Rattle.group_expand.specs.Gates.{shuts, ShutsSame}
use Rattle.group_expand.specs.Places.{all_owed, owed, no_marks, Ready, Holds}
use Rattle.group_expand.proofs.walk.walk_roots.Given as goal

abbrev pub invariant-loop-root : goal.invariant-loop-root
invariant-loop-root g l =
    (Ready l.directory l.marks l.stack.items)
    × (l.stack.items ≡ [])
    × (Holds l.directory (shuts l.directory l.initial.gates) (first_of_each (all_ways l.directory (shuts l.directory l.initial.gates) l.roots)) (drop l.root-index l.roots) l.marks [] l.found)
    × (l.steps + all_owed l.directory l.marks [] ≤ l.fn.steps + owed l.directory.objects (no_marks l.directory.objects))
    × (ShutsSame l.directory l.initial.gates l.gates)
