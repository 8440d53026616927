use Rattle.std.proofs.Common.{nat_lt, sym, ◌∙◌}
use Rattle.std.proofs.lemmas.Bool.{or_parts}
use Rattle.toml.specs.View.{items_view}
use Rattle.rule_terms.specs.Lists.{count}
use Rattle.rule_terms.proofs.BookReading.{few-length}
use Rattle.rule_terms.proofs.read_book.read_table.Goals as goal

pub read_both-requires-clause-rules : goal.read_both-requires-clause-rules
read_both-requires-clause-rules c =
    few-length c.in-Some.rules.now
    (or_parts (nat_lt 100 (count (items_view c.in-Some.rules.now))) (nat_lt 100 (count (items_view c.in-Some-tables_at.journals.now)))
    (sym c.are_too_many.ensures ∙ c.if-are_too_many.false)).0

pub read_both-requires-clause-journals : goal.read_both-requires-clause-journals
read_both-requires-clause-journals c =
    few-length c.in-Some-tables_at.journals.now
    (or_parts (nat_lt 100 (count (items_view c.in-Some.rules.now))) (nat_lt 100 (count (items_view c.in-Some-tables_at.journals.now)))
    (sym c.are_too_many.ensures ∙ c.if-are_too_many.false)).1
