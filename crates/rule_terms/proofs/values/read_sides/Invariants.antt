use Rattle.std.proofs.Common.{◌≡◌, drop}
use Rattle.toml.specs.View.{items_view}
use Rattle.rule_terms.specs.Lists.{each, or_bad}
use Rattle.rule_terms.specs.Terms.{as_side}
use Rattle.rule_terms.proofs.ReadItems.{onto}
use Rattle.rule_terms.proofs.values.read_sides.Given as goal

abbrev pub invariant-loop-value : goal.invariant-loop-value
invariant-loop-value l = onto l.sides (each (λ d. or_bad (as_side d)) (items_view (drop l.value-index l.values))) ≡ each (λ d. or_bad (as_side d)) (items_view l.values)
