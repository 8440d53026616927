use Rattle.std.proofs.Common.{◌≡◌, ◌++◌, drop, map, List, ℕ}
use Rattle.rule_engine.proofs.sets.for_each.Given as goal

abbrev pub invariant-loop-recipient : goal.invariant-loop-recipient
invariant-loop-recipient l =
    l.all ++ map (λ (recipient : List ℕ). l.outcome) (drop l._recipient-index l.set) ≡ map (λ (recipient : List ℕ). l.outcome) l.set
