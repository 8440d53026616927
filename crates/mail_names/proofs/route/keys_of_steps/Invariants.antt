-- The keys of the steps so far have been copied.
use Rattle.std.proofs.Common.{◌≡◌, take, map}
use Rattle.mail_names.specs.declared.route.Step.{Step}
use Rattle.mail_names.proofs.route.keys_of_steps.Given as goal

abbrev pub invariant-loop-step : goal.invariant-loop-step
invariant-loop-step l = l.keys ≡ map (λ (s : Step). s.key) (take l.step-index l.steps)
