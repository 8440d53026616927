use Rattle.std.proofs.Common.{◌≡◌, drop}
use Rattle.toml.specs.View.{items_view}
use Rattle.rule_terms.specs.Lists.{each_from}
use Rattle.rule_terms.specs.Rules.{rule_of}
use Rattle.rule_terms.proofs.ReadItems.{onto}
use Rattle.rule_terms.proofs.read_rule.read_all.Given as goal

abbrev pub invariant-loop-i : goal.invariant-loop-i
invariant-loop-i l = onto l.rules (each_from (rule_of l.directory) l.i (items_view (drop l.i l.values))) ≡ each_from (rule_of l.directory) 0 (items_view l.values)
