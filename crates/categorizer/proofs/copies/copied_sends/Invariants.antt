use Rattle.std.proofs.Common.{◌≡◌, ◌++◌, drop}
use Rattle.categorizer.proofs.copies.copied_sends.Given as goal

abbrev pub invariant-loop-send : goal.invariant-loop-send
invariant-loop-send l = l.copied ++ drop l.send-index l.sends ≡ l.sends
