use Rattle.std.proofs.Common.{◌≡◌, take}
use Rattle.mail_plan.specs.Planning.{gates_opened}
use Rattle.mail_plan.proofs.input.gates_opened.Given as goal

abbrev pub invariant-loop-opening : goal.invariant-loop-opening
invariant-loop-opening l = l.gates ≡ gates_opened (take l.opening-index l.openings)
