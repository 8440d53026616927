use Rattle.log_entry.specs.EntryText.{form_organised, form_accepted, form_categorised, form_decided, entry_text}
use Rattle.log_entry.specs.Entries.{IsOrganised, IsAccepted, IsCategorised, IsDecided, IsEntry}
use Rattle.log_entry.proofs.Parts.{IsByte, form_byte, passed_on}
use Rattle.log_entry.proofs.ByKind.{tagged, has_organised, has_accepted, has_categorised, has_decided}
use Rattle.log_entry.proofs.read.entry_at.Goals as goal

pub returns-in_err-kind : goal.returns-in_err-kind
returns-in_err-kind c =
    passed_on IsByte form_byte IsEntry entry_text c.args.bytes.now c.args.at c.args.at c.in_err-kind.field-0.0 c.from_residual.result c.from_residual.ensures.1
    (tagged c.args.bytes.now c.args.at) c.in_err-kind.ensures

pub returns-in_err-directory-in-1 : goal.returns-in_err-directory-in-1
returns-in_err-directory-in-1 c =
    passed_on IsOrganised form_organised IsEntry entry_text c.args.bytes.now c.args.at c.in_ok-kind.start c.in_err-directory-in-1.field-0.0 c.from_residual-in_err-directory-in-1.result c.from_residual-in_err-directory-in-1.ensures.1
    (has_organised c.in_ok-kind.kind c.args.bytes.now c.args.at c.in_ok-kind.start c.in_ok-kind.ensures c.in-1.is)
    c.in_err-directory-in-1.ensures

pub returns-in_err-moment-in-2 : goal.returns-in_err-moment-in-2
returns-in_err-moment-in-2 c =
    passed_on IsAccepted form_accepted IsEntry entry_text c.args.bytes.now c.args.at c.in_ok-kind.start c.in_err-moment-in-2.field-0.0 c.from_residual-in_err-moment-in-2.result c.from_residual-in_err-moment-in-2.ensures.1
    (has_accepted c.in_ok-kind.kind c.args.bytes.now c.args.at c.in_ok-kind.start c.in_ok-kind.ensures c.in-2.is)
    c.in_err-moment-in-2.ensures

pub returns-in_err-number-in-3 : goal.returns-in_err-number-in-3
returns-in_err-number-in-3 c =
    passed_on IsCategorised form_categorised IsEntry entry_text c.args.bytes.now c.args.at c.in_ok-kind.start c.in_err-number-in-3.field-0.0 c.from_residual-in_err-number-in-3.result c.from_residual-in_err-number-in-3.ensures.1
    (has_categorised c.in_ok-kind.kind c.args.bytes.now c.args.at c.in_ok-kind.start c.in_ok-kind.ensures c.in-3.is)
    c.in_err-number-in-3.ensures

pub returns-in_err-approval-in-4 : goal.returns-in_err-approval-in-4
returns-in_err-approval-in-4 c =
    passed_on IsDecided form_decided IsEntry entry_text c.args.bytes.now c.args.at c.in_ok-kind.start c.in_err-approval-in-4.field-0.0 c.from_residual-in_err-approval-in-4.result c.from_residual-in_err-approval-in-4.ensures.1
    (has_decided c.in_ok-kind.kind c.args.bytes.now c.args.at c.in_ok-kind.start c.in_ok-kind.ensures c.in-4.is)
    c.in_err-approval-in-4.ensures
