-- The steps so far have been added.
use Rattle.std.proofs.Common.{◌≡◌, ◌++◌, take}
use Rattle.std.specs.List.{flat_map}
use Rattle.journal_report.specs.Why.{step_hop}
use Rattle.journal_report.proofs.why.put_step_hops.Given as goal

abbrev pub invariant-loop-step : goal.invariant-loop-step
invariant-loop-step l = l.into ≡ l.fn.into ++ flat_map step_hop (take l.step-index l.steps)
