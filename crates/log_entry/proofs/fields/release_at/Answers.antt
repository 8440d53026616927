use Rattle.log_entry.specs.EntryText.{form_bytes, form_all, form_item, form_hold, form_end, form_release}
use Rattle.mail_submission.specs.Fits.{IsBytes, IsListOf}
use Rattle.mail_plan.specs.Fits.{IsItem, IsHold, IsEnd, IsRelease}
use Rattle.log_entry.proofs.Standing.{first, behind}
use Rattle.log_entry.proofs.Forms.{one_bytes, one_item, one_hold, one_end, one_list}
use Rattle.log_entry.proofs.Parts.{passed_on}
use Rattle.log_entry.proofs.fields.release_at.Goals as goal

pub list_at-requires : goal.list_at-requires
list_at-requires c = one_bytes

pub list_at-requires-2 : goal.list_at-requires-2
list_at-requires-2 c = one_item

pub list_at-requires-3 : goal.list_at-requires-3
list_at-requires-3 c = one_hold

pub list_at-requires-4 : goal.list_at-requires-4
list_at-requires-4 c = one_end

pub returns-in_err-texts : goal.returns-in_err-texts
returns-in_err-texts c =
    passed_on (IsListOf IsBytes) (form_all form_bytes) IsRelease form_release c.args.bytes.now c.args.at c.args.at c.in_err-texts.field-0.0 c.from_residual.result c.from_residual.ensures.1
    (λ x end is s. (x.texts, is.texts, first (form_all form_bytes x.texts) _ c.args.bytes.now c.args.at end s))
    c.in_err-texts.ensures

pub returns-in_err-items : goal.returns-in_err-items
returns-in_err-items c =
    let bytes = c.args.bytes.now in
    let at_items = c.in_ok-texts.at_items in
    passed_on (IsListOf IsItem) (form_all form_item) IsRelease form_release bytes c.args.at at_items c.in_err-items.field-0.0 c.from_residual-in_err-items.result c.from_residual-in_err-items.ensures.1
    (λ x end is s.
    let t = behind (IsListOf IsBytes) (form_all form_bytes) (one_list IsBytes form_bytes one_bytes) c.in_ok-texts.texts x.texts _ bytes c.args.at at_items end c.in_ok-texts.ensures is.texts s in
    (x.items, is.items, first (form_all form_item x.items) _ bytes at_items end t))
    c.in_err-items.ensures

pub returns-in_err-holds : goal.returns-in_err-holds
returns-in_err-holds c =
    let bytes = c.args.bytes.now in
    let at_items = c.in_ok-texts.at_items in
    let at_holds = c.in_ok-items.at_holds in
    passed_on (IsListOf IsHold) (form_all form_hold) IsRelease form_release bytes c.args.at at_holds c.in_err-holds.field-0.0 c.from_residual-in_err-holds.result c.from_residual-in_err-holds.ensures.1
    (λ x end is s.
    let t = behind (IsListOf IsBytes) (form_all form_bytes) (one_list IsBytes form_bytes one_bytes) c.in_ok-texts.texts x.texts _ bytes c.args.at at_items end c.in_ok-texts.ensures is.texts s in
    let u = behind (IsListOf IsItem) (form_all form_item) (one_list IsItem form_item one_item) c.in_ok-items.items x.items _ bytes at_items at_holds end c.in_ok-items.ensures is.items t in
    (x.holds, is.holds, first (form_all form_hold x.holds) _ bytes at_holds end u))
    c.in_err-holds.ensures

pub returns-in_err-ends : goal.returns-in_err-ends
returns-in_err-ends c =
    let bytes = c.args.bytes.now in
    let at_items = c.in_ok-texts.at_items in
    let at_holds = c.in_ok-items.at_holds in
    let at_ends = c.in_ok-holds.at_ends in
    passed_on (IsListOf IsEnd) (form_all form_end) IsRelease form_release bytes c.args.at at_ends c.in_err-ends.field-0.0 c.from_residual-in_err-ends.result c.from_residual-in_err-ends.ensures.1
    (λ x end is s.
    let t = behind (IsListOf IsBytes) (form_all form_bytes) (one_list IsBytes form_bytes one_bytes) c.in_ok-texts.texts x.texts _ bytes c.args.at at_items end c.in_ok-texts.ensures is.texts s in
    let u = behind (IsListOf IsItem) (form_all form_item) (one_list IsItem form_item one_item) c.in_ok-items.items x.items _ bytes at_items at_holds end c.in_ok-items.ensures is.items t in
    let v = behind (IsListOf IsHold) (form_all form_hold) (one_list IsHold form_hold one_hold) c.in_ok-holds.holds x.holds _ bytes at_holds at_ends end c.in_ok-holds.ensures is.holds u in
    (x.ends, is.ends, record { end = end; stands = v }))
    c.in_err-ends.ensures
