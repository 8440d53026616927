use Rattle.std.proofs.Common.{◌≡◌, drop}
use Rattle.categorizer.specs.Releasing.{approvers}
use Rattle.categorizer.proofs.holds.approvers.Given as goal

abbrev pub invariant-loop-action : goal.invariant-loop-action
invariant-loop-action l = approvers (drop l.action-index l.actions) ≡ approvers l.actions
