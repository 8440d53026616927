use Rattle.std.proofs.Common.{◌≡◌, drop}
use Rattle.categorizer.specs.Releasing.{with_notices}
use Rattle.categorizer.proofs.drafts.add_notices.Given as goal

abbrev pub invariant-loop-loss : goal.invariant-loop-loss
invariant-loop-loss l = with_notices l.letter l.to l.drafts (drop l.loss-index l.losses) ≡ with_notices l.letter l.to l.fn.drafts l.losses
