use Rattle.std.proofs.Common.{◌≡◌, drop}
use Rattle.mail_plan.specs.Planning.{have_moderators}
use Rattle.mail_plan.proofs.form.have_moderators.Given as goal

abbrev pub invariant-loop-hold : goal.invariant-loop-hold
invariant-loop-hold l = have_moderators (drop l.hold-index l.holds) ≡ have_moderators l.holds
