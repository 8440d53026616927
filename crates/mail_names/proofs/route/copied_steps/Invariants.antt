-- The steps so far have been copied.
use Rattle.std.proofs.Common.{◌≡◌, take}
use Rattle.mail_names.proofs.route.copied_steps.Given as goal

abbrev pub invariant-loop-step : goal.invariant-loop-step
invariant-loop-step l = l.copied ≡ take l.step-index l.steps
