use Rattle.std.proofs.Common.{◌≡◌, ◌++◌, drop, map}
use Rattle.group_expand.specs.declared.outcome.Leaf.{Leaf}
use Rattle.rule_engine.proofs.sets.keys_of.Given as goal

abbrev pub invariant-loop-leaf : goal.invariant-loop-leaf
invariant-loop-leaf l = l.keys ++ map (λ (leaf : Leaf). leaf.key) (drop l.leaf-index l.leaves) ≡ map (λ (leaf : Leaf). leaf.key) l.leaves
