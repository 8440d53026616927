use Rattle.std.proofs.Common.{◌≡◌, ◌++◌, drop}
use Rattle.rule_engine.proofs.sharing.shared_copies.Given as goal

abbrev pub invariant-loop-copied : goal.invariant-loop-copied
invariant-loop-copied l = l.shared ++ drop l.copied-index l.copies ≡ l.copies
