use Rattle.std.proofs.Common.{◌≡◌, drop}
use Rattle.toml.specs.View.{items_view}
use Rattle.rule_terms.specs.Lists.{each}
use Rattle.rule_terms.specs.Terms.{term_of}
use Rattle.rule_terms.proofs.ReadItems.{onto}
use Rattle.rule_terms.proofs.read_term.read_each.Given as goal

abbrev pub invariant-loop-value : goal.invariant-loop-value
invariant-loop-value l = onto l.terms (each (term_of l.directory) (items_view (drop l.value-index l.values))) ≡ each (term_of l.directory) (items_view l.values)
