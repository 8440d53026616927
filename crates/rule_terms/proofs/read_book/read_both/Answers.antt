use Rattle.std.proofs.Common.{Ok, Result, ap, length, sym, ◌∙◌}
use Rattle.toml.specs.View.{items_view}
use Rattle.rule_terms.specs.Forms.{Book}
use Rattle.rule_terms.specs.declared.fault.RuleFault.{RuleFault}
use Rattle.rule_terms.proofs.BookReading.{all_of-fault, all_of-read, few-count}
use Rattle.rule_terms.proofs.DeedForms.{book-form}
use Rattle.rule_terms.proofs.TableKeys.{count-items_view}
use Rattle.rule_terms.proofs.read_book.read_both.Goals as goal

pub of-requires : goal.of-requires
of-requires c =
    book-form c.args.directory.now (items_view c.args.rules.now) (items_view c.args.journals.now) (length c.args.rules.now) c.in-Ok.read c.in-Ok-2.journals
    (few-count c.args.rules.now c.requires.rules) (few-count c.args.journals.now c.requires.journals)
    (sym c.in_ok-read.ensures ∙ c.in-Ok.is) (sym c.in_ok-journals.ensures ∙ c.in-Ok-2.is)

pub returns-in-Ok-2 : goal.returns-in-Ok-2
returns-in-Ok-2 c =
    let good : Book → Result Book RuleFault = λ b. Ok b in
    sym (all_of-read c.args.directory.now (items_view c.args.rules.now) (items_view c.args.journals.now) (length c.args.rules.now) c.in-Ok.read c.in-Ok-2.journals
    (count-items_view c.args.rules.now) (sym c.in_ok-read.ensures ∙ c.in-Ok.is) (sym c.in_ok-journals.ensures ∙ c.in-Ok-2.is)
    ∙ ap good (sym c.of.ensures))

pub returns-in-Err-2 : goal.returns-in-Err-2
returns-in-Err-2 c =
    sym (all_of-fault c.args.directory.now (items_view c.args.rules.now) (items_view c.args.journals.now) (length c.args.rules.now) c.in-Ok.read c.in-Err-2.fault
    (count-items_view c.args.rules.now) (sym c.in_ok-read.ensures ∙ c.in-Ok.is) (sym c.in_ok-journals.ensures ∙ c.in-Err-2.is))
