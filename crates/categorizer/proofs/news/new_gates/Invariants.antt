use Rattle.std.proofs.Common.{◌≡◌, ◌++◌, drop, filter}
use Rattle.categorizer.specs.Plan.{is_new_gate}
use Rattle.categorizer.proofs.news.new_gates.Given as goal

abbrev pub invariant-loop-gate : goal.invariant-loop-gate
invariant-loop-gate l = l.new ++ filter (is_new_gate l.opened_before l.before) (drop l.gate-index l.now) ≡ filter (is_new_gate l.opened_before l.before) l.now
