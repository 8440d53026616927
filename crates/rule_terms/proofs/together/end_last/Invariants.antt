use Rattle.std.proofs.Common.{◌≡◌, drop}
use Rattle.rule_terms.specs.Forms.{end_last}
use Rattle.rule_terms.proofs.together.end_last.Given as goal

abbrev pub invariant-loop-i : goal.invariant-loop-i
invariant-loop-i l = end_last (drop l.i l.actions) ≡ end_last l.actions
