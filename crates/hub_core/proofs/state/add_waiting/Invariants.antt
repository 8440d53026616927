use Rattle.std.proofs.Common.{◌≡◌, fold, drop}
use Rattle.hub_core.specs.Standing.{with_mail}
use Rattle.hub_core.proofs.state.add_waiting.Given as goal

abbrev pub invariant-loop-live : goal.invariant-loop-live
invariant-loop-live g l = fold with_mail l.epochs.items (drop l.live-index l.lives) ≡ fold with_mail l.fn.epochs.items l.lives
