use Rattle.std.proofs.Common.{◌≡◌, ◌++◌, drop}
use Rattle.categorizer.specs.Releasing.{rule_losses}
use Rattle.categorizer.proofs.losses.rule_losses.Given as goal

abbrev pub invariant-loop-i : goal.invariant-loop-i
invariant-loop-i l = l.losses ++ rule_losses l.i (drop l.i l.rules) l.rejections ≡ rule_losses 0 l.rules l.rejections
