use Rattle.std.proofs.Common.{◌≤◌, Some, length, sym, arith}
use Rattle.std.proofs.lemmas.Bool.{iff_false}
use Rattle.toml.specs.View.{table_view}
use Rattle.rule_terms.proofs.BookReading.{table-read, table-refused}
use Rattle.rule_terms.proofs.read_book.table_of.Goals as goal

pub returns-in-Ok : goal.returns-in-Ok
returns-in-Ok c =
    let short : length c.args.text.now ≤ 1048576 = omega arith in
    sym (table-read c.args.text.now (Some (table_view c.in-Ok.table)) short c.in-Ok.ensures.ok.0 c.in-Ok.ensures.ok.1)

pub returns-else-is_memory : goal.returns-else-is_memory
returns-else-is_memory c =
    sym (table-refused c.args.text.now (c.in-Err.ensures.refused (iff_false c.is_memory.ensures c.if-is_memory.false)))
