use Rattle.std.proofs.Common.{◌≡◌, ◌++◌, drop}
use Rattle.rule_terms.specs.Parts.{ended_from}
use Rattle.rule_terms.proofs.form.ended.Given as goal

abbrev pub invariant-loop-b : goal.invariant-loop-b
invariant-loop-b l = l.bytes.items ++ ended_from l.before (drop l.b-index l.text) ≡ ended_from 0 l.text
