use Rattle.mail_names.specs.Key.{IsKey}
use Rattle.log_entry.specs.EntryText.{le32, form_bytes, form_name, form_kind, form_why, form_item}
use Rattle.mail_submission.specs.Fits.{IsU32}
use Rattle.mail_plan.specs.Fits.{IsName, IsWhy, IsItem}
use Rattle.log_entry.proofs.Standing.{first, behind}
use Rattle.log_entry.proofs.Forms.{IsKind, one_key, one_name, one_kind, one_why}
use Rattle.log_entry.proofs.Parts.{passed_on}
use Rattle.log_entry.proofs.fields.item_at.Goals as goal

pub returns-in_err-name : goal.returns-in_err-name
returns-in_err-name c =
    passed_on IsName form_name IsItem form_item c.args.bytes.now c.args.at c.args.at c.in_err-name.field-0.0 c.from_residual.result c.from_residual.ensures.1
    (λ x end is s. (x.name, is.name, first _ _ c.args.bytes.now c.args.at end s))
    c.in_err-name.ensures

pub returns-in_err-folder : goal.returns-in_err-folder
returns-in_err-folder c =
    let bytes = c.args.bytes.now in
    let at_folder = c.in_ok-name.at_folder in
    passed_on IsKey form_bytes IsItem form_item bytes c.args.at at_folder c.in_err-folder.field-0.0 c.from_residual-in_err-folder.result c.from_residual-in_err-folder.ensures.1
    (λ x end is s.
    let t = behind IsName form_name one_name c.in_ok-name.name x.name _ bytes c.args.at at_folder end c.in_ok-name.ensures is.name s in
    (x.folder, is.folder, first _ _ bytes at_folder end t))
    c.in_err-folder.ensures

pub returns-in_err-kind : goal.returns-in_err-kind
returns-in_err-kind c =
    let bytes = c.args.bytes.now in
    let at_folder = c.in_ok-name.at_folder in
    let at_kind = c.in_ok-folder.at_kind in
    passed_on IsKind form_kind IsItem form_item bytes c.args.at at_kind c.in_err-kind.field-0.0 c.from_residual-in_err-kind.result c.from_residual-in_err-kind.ensures.1
    (λ x end is s.
    let t = behind IsName form_name one_name c.in_ok-name.name x.name _ bytes c.args.at at_folder end c.in_ok-name.ensures is.name s in
    let u = behind IsKey form_bytes one_key c.in_ok-folder.folder x.folder _ bytes at_folder at_kind end c.in_ok-folder.ensures is.folder t in
    (x.kind, tt, first _ _ bytes at_kind end u))
    c.in_err-kind.ensures

pub returns-in_err-why : goal.returns-in_err-why
returns-in_err-why c =
    let bytes = c.args.bytes.now in
    let at_folder = c.in_ok-name.at_folder in
    let at_kind = c.in_ok-folder.at_kind in
    let at_why = c.in_ok-kind.at_why in
    passed_on IsWhy form_why IsItem form_item bytes c.args.at at_why c.in_err-why.field-0.0 c.from_residual-in_err-why.result c.from_residual-in_err-why.ensures.1
    (λ x end is s.
    let t = behind IsName form_name one_name c.in_ok-name.name x.name _ bytes c.args.at at_folder end c.in_ok-name.ensures is.name s in
    let u = behind IsKey form_bytes one_key c.in_ok-folder.folder x.folder _ bytes at_folder at_kind end c.in_ok-folder.ensures is.folder t in
    let v = behind IsKind form_kind one_kind c.in_ok-kind.kind x.kind _ bytes at_kind at_why end c.in_ok-kind.ensures tt u in
    (x.why, is.why, first _ _ bytes at_why end v))
    c.in_err-why.ensures

pub returns-in_err-text : goal.returns-in_err-text
returns-in_err-text c =
    let bytes = c.args.bytes.now in
    let at_folder = c.in_ok-name.at_folder in
    let at_kind = c.in_ok-folder.at_kind in
    let at_why = c.in_ok-kind.at_why in
    let at_text = c.in_ok-why.at_text in
    passed_on IsU32 le32 IsItem form_item bytes c.args.at at_text c.in_err-text.field-0.0 c.from_residual-in_err-text.result c.from_residual-in_err-text.ensures.1
    (λ x end is s.
    let t = behind IsName form_name one_name c.in_ok-name.name x.name _ bytes c.args.at at_folder end c.in_ok-name.ensures is.name s in
    let u = behind IsKey form_bytes one_key c.in_ok-folder.folder x.folder _ bytes at_folder at_kind end c.in_ok-folder.ensures is.folder t in
    let v = behind IsKind form_kind one_kind c.in_ok-kind.kind x.kind _ bytes at_kind at_why end c.in_ok-kind.ensures tt u in
    let w = behind IsWhy form_why one_why c.in_ok-why.why x.why _ bytes at_why at_text end c.in_ok-why.ensures is.why v in
    (x.text, is.text, record { end = end; stands = w }))
    c.in_err-text.ensures
