use Rattle.std.proofs.Common.{◌≡◌, ◌++◌, drop, map}
use Rattle.rule_engine.specs.Forks.{fork_of, kinds_of}
use Rattle.rule_engine.proofs.forking.forks_of.Given as goal

abbrev pub invariant-loop-kind : goal.invariant-loop-kind
invariant-loop-kind l = l.forks ++ map (fork_of l.all) (drop l.kind-index (kinds_of l.all)) ≡ map (fork_of l.all) (kinds_of l.all)
