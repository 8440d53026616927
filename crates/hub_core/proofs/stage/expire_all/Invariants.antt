use Rattle.std.proofs.Common.{◌≡◌}
use Rattle.hub_core.specs.Approvals.{expired_asking}
use Rattle.hub_core.proofs.Changing.{changed_to}
use Rattle.hub_core.proofs.stage.expire_all.Given as goal

abbrev pub invariant-loop-asking : goal.invariant-loop-asking
invariant-loop-asking l = l.asking-items ≡ changed_to (expired_asking l.moment) l.asking-index l.fn.asks.items
