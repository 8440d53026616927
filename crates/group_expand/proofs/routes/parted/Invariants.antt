use Rattle.std.proofs.Common.{◌≡◌, map}
use Rattle.std.specs.Prelude.{not, filter}
use Rattle.group_expand.specs.Expansion.{leaf_of, closed_of}
use Rattle.group_expand.specs.Gates.{shuts, ShutsSame}
use Rattle.group_expand.proofs.routes.parted.Given as goal

abbrev pub invariant-loop-way : goal.invariant-loop-way
invariant-loop-way l =
    (l.leaves ≡ map (leaf_of l.directory) (filter (λ w. not (shuts l.directory l.initial.gates w.key)) l.yielded))
    × (l.closed ≡ map (closed_of l.directory) (filter (λ w. shuts l.directory l.initial.gates w.key) l.yielded))
    × (ShutsSame l.directory l.initial.gates l.gates)
