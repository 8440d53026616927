use Rattle.std.proofs.Common.{◌≡◌, ◌++◌, drop}
use Rattle.org_directory.specs.Register.{among}
use Rattle.group_expand.specs.Ways.{fresh}
use Rattle.group_expand.specs.Routes.{keys_of, unknown_ways, unknown}
use Rattle.group_expand.proofs.routes.unknown_roots.Given as goal

abbrev pub invariant-loop-root : goal.invariant-loop-root
invariant-loop-root l = l.keys ++ keys_of (fresh (λ k. among k l.keys) (unknown_ways l.directory (drop l.root-index l.roots))) ≡ unknown l.directory l.roots
