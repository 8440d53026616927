use Rattle.std.proofs.Common.{◌≡◌, drop}
use Rattle.rule_terms.specs.Terms.{groups_of}
use Rattle.rule_terms.proofs.ReadItems.{onto}
use Rattle.rule_terms.proofs.read_term.groups_of.Given as goal

abbrev pub invariant-loop-key : goal.invariant-loop-key
invariant-loop-key l = onto l.groups (groups_of l.directory (drop l.key-index l.keys)) ≡ groups_of l.directory l.keys
