use Rattle.std.proofs.Common.{◌≡◌}
use Rattle.hub_core.proofs.queue.shared_texts.Given as goal

abbrev pub invariant-loop-text : goal.invariant-loop-text
invariant-loop-text l = l.shared.items ≡ l.yielded
