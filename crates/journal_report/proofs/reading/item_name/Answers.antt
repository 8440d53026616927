use Rattle.std.proofs.Common.{◌∙◌, Some, ap, arith}
use Rattle.mail_names.specs.Names.{IsItemName}
use Rattle.mail_names.specs.declared.name.ItemName.{ItemName}
use Rattle.mail_names.proofs.Offered.{one_item_name}
use Rattle.journal_report.proofs.reading.item_name.Goals as goal

pub returns : goal.returns
returns c = λ name is e.
    (let own : IsItemName c.in_ok-submission.field-0 = record { submission = omega arith; release = omega arith; place = omega arith } in
    ap (λ (n : ItemName). Some n) (one_item_name c.in_ok-submission.field-0 name own is (c.in_ok-submission.ensures.some ∙ e)))
