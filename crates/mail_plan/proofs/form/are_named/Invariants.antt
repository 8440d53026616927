use Rattle.std.proofs.Common.{◌≡◌, drop}
use Rattle.mail_plan.specs.Planning.{are_named}
use Rattle.mail_plan.proofs.form.are_named.Given as goal

abbrev pub invariant-loop-i : goal.invariant-loop-i
invariant-loop-i l = are_named l.number l.release l.i (drop l.i l.items) ≡ are_named l.number l.release 0 l.items
