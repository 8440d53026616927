use Rattle.std.proofs.Common.{◌≡◌, drop, fold}
use Rattle.categorizer.specs.Plan.{with_send, beside}
use Rattle.categorizer.proofs.sends.add_all_beside.Given as goal

abbrev pub invariant-loop-one : goal.invariant-loop-one
invariant-loop-one l = fold with_send l.sent (beside (drop l.one-index l.all)) ≡ fold with_send l.fn.sent (beside l.all)
