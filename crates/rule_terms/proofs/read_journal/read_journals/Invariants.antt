use Rattle.std.proofs.Common.{◌≡◌, ◌+◌, drop}
use Rattle.toml.specs.View.{items_view}
use Rattle.rule_terms.specs.Lists.{each_from}
use Rattle.rule_terms.specs.Rules.{journal_of}
use Rattle.rule_terms.proofs.ReadItems.{onto}
use Rattle.rule_terms.proofs.read_journal.read_journals.Given as goal

abbrev pub invariant-loop-i : goal.invariant-loop-i
invariant-loop-i l =
    onto l.journals (each_from (journal_of l.directory) (l.first + l.i) (items_view (drop l.i l.values)))
    ≡ each_from (journal_of l.directory) l.first (items_view l.values)
