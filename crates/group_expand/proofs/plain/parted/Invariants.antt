use Rattle.std.proofs.Common.{◌≡◌, map}
use Rattle.std.specs.Prelude.{not, filter}
use Rattle.group_expand.specs.Expansion.{leaf_of, closed_of}
use Rattle.group_expand.specs.Routes.{shut_by}
use Rattle.group_expand.proofs.plain.parted.Given as goal

abbrev pub invariant-loop-way : goal.invariant-loop-way
invariant-loop-way l =
    (l.leaves ≡ map (leaf_of l.directory) (filter (λ w. not (shut_by l.directory l.table w.key)) l.yielded))
    × (l.closed ≡ map (closed_of l.directory) (filter (λ w. shut_by l.directory l.table w.key) l.yielded))
