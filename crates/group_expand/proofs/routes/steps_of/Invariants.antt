-- The keys so far are steps.
use Rattle.std.proofs.Common.{◌≡◌, map}
use Rattle.group_expand.specs.Expansion.{step_of}
use Rattle.group_expand.proofs.routes.steps_of.Given as goal

abbrev pub invariant-loop-key : goal.invariant-loop-key
invariant-loop-key l = l.steps ≡ map (step_of l.directory) l.yielded
