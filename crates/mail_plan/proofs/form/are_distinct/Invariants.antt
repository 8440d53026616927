use Rattle.std.proofs.Common.{◌≡◌, drop}
use Rattle.mail_plan.specs.Planning.{are_distinct}
use Rattle.mail_plan.proofs.form.are_distinct.Given as goal

abbrev pub invariant-loop-i : goal.invariant-loop-i
invariant-loop-i l = are_distinct (drop l.i l.texts) ≡ are_distinct l.texts
