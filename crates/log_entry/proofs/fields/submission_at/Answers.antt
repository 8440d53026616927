use Rattle.std.proofs.Common.{Ok, Err, sym, ◌∙◌, ap, subst, Option, List, ℕ}
use Rattle.mail_names.specs.Key.{IsKey}
use Rattle.log_entry.specs.EntryText.{form_bytes, form_key_option, form_all, form_origin, form_submission}
use Rattle.mail_submission.specs.Fits.{IsBytes, IsKeyOption, IsListOf, IsOrigin, IsSubmission}
use Rattle.log_entry.specs.Reading.{Stands}
use Rattle.mail_submission.specs.Submission.{Submitted, submission_of}
use Rattle.mail_submission.specs.declared.submission.Origin.{Origin}
use Rattle.log_entry.specs.declared.places.Miss.{Miss}
use Rattle.log_entry.proofs.Standing.{both, first, same, same_last, behind}
use Rattle.log_entry.proofs.Forms.{one_bytes, one_key, one_key_option, one_origin, one_list}
use Rattle.log_entry.proofs.Parts.{passed_on, refused}
use Rattle.mail_submission.proofs.Offered.{made_of}
use Rattle.log_entry.proofs.fields.submission_at.Goals as goal

pub list_at-requires : goal.list_at-requires
list_at-requires c = one_key

pub returns-in_err-origin : goal.returns-in_err-origin
returns-in_err-origin c =
    passed_on IsOrigin form_origin IsSubmission form_submission c.args.bytes.now c.args.at c.args.at c.in_err-origin.field-0.0 c.from_residual.result c.from_residual.ensures.1
    (λ x end is s. (x.origin, is.origin, first (form_origin x.origin) _ c.args.bytes.now c.args.at end s))
    c.in_err-origin.ensures

pub returns-in_err-reverse : goal.returns-in_err-reverse
returns-in_err-reverse c =
    let bytes = c.args.bytes.now in
    let at_reverse = c.in_ok-origin.at_reverse in
    passed_on IsKeyOption form_key_option IsSubmission form_submission bytes c.args.at at_reverse c.in_err-reverse.field-0.0 c.from_residual-in_err-reverse.result c.from_residual-in_err-reverse.ensures.1
    (λ x end is s.
    let t = behind IsOrigin form_origin one_origin c.in_ok-origin.origin x.origin _ bytes c.args.at at_reverse end c.in_ok-origin.ensures is.origin s in
    (x.reverse, is.reverse, first (form_key_option x.reverse) _ bytes at_reverse end t))
    c.in_err-reverse.ensures

pub returns-in_err-recipients : goal.returns-in_err-recipients
returns-in_err-recipients c =
    let bytes = c.args.bytes.now in
    let at_reverse = c.in_ok-origin.at_reverse in
    let at_recipients = c.in_ok-reverse.at_recipients in
    passed_on (IsListOf IsKey) (form_all form_bytes) IsSubmission form_submission bytes c.args.at at_recipients c.in_err-recipients.field-0.0 c.from_residual-in_err-recipients.result c.from_residual-in_err-recipients.ensures.1
    (λ x end is s.
    let t = behind IsOrigin form_origin one_origin c.in_ok-origin.origin x.origin _ bytes c.args.at at_reverse end c.in_ok-origin.ensures is.origin s in
    let u = behind IsKeyOption form_key_option one_key_option c.in_ok-reverse.reverse x.reverse _ bytes at_reverse at_recipients end c.in_ok-reverse.ensures is.reverse t in
    (x.recipients, is.recipients, first (form_all form_bytes x.recipients) (form_bytes x.bytes) bytes at_recipients end u))
    c.in_err-recipients.ensures

pub returns-in_err-message : goal.returns-in_err-message
returns-in_err-message c =
    let bytes = c.args.bytes.now in
    let at_reverse = c.in_ok-origin.at_reverse in
    let at_recipients = c.in_ok-reverse.at_recipients in
    let at_bytes = c.in_ok-recipients.at_bytes in
    passed_on IsBytes form_bytes IsSubmission form_submission bytes c.args.at at_bytes c.in_err-message.field-0.0 c.from_residual-in_err-message.result c.from_residual-in_err-message.ensures.1
    (λ x end is s.
    let t = behind IsOrigin form_origin one_origin c.in_ok-origin.origin x.origin _ bytes c.args.at at_reverse end c.in_ok-origin.ensures is.origin s in
    let u = behind IsKeyOption form_key_option one_key_option c.in_ok-reverse.reverse x.reverse _ bytes at_reverse at_recipients end c.in_ok-reverse.ensures is.reverse t in
    let v = behind (IsListOf IsKey) (form_all form_bytes) (one_list IsKey form_bytes one_key) c.in_ok-recipients.recipients x.recipients (form_bytes x.bytes) bytes at_recipients at_bytes end c.in_ok-recipients.ensures is.recipients u in
    (x.bytes, is.bytes, record { end = end; stands = v }))
    c.in_err-message.ensures

pub returns-in_err-submission : goal.returns-in_err-submission
returns-in_err-submission c =
    let bytes = c.args.bytes.now in
    let at_reverse = c.in_ok-origin.at_reverse in
    let at_recipients = c.in_ok-reverse.at_recipients in
    let at_bytes = c.in_ok-recipients.at_bytes in
    refused IsSubmission form_submission bytes c.args.at c.in_err-submission.field-0.0 c.from_residual-in_err-submission.result c.from_residual-in_err-submission.ensures.1
    (λ none x end is s.
    let t = behind IsOrigin form_origin one_origin c.in_ok-origin.origin x.origin _ bytes c.args.at at_reverse end c.in_ok-origin.ensures is.origin s in
    let u = behind IsKeyOption form_key_option one_key_option c.in_ok-reverse.reverse x.reverse _ bytes at_reverse at_recipients end c.in_ok-reverse.ensures is.reverse t in
    let v = behind (IsListOf IsKey) (form_all form_bytes) (one_list IsKey form_bytes one_key) c.in_ok-recipients.recipients x.recipients (form_bytes x.bytes) bytes at_recipients at_bytes end c.in_ok-recipients.ensures is.recipients u in
    let o = same IsOrigin form_origin one_origin c.in_ok-origin.origin x.origin _ bytes c.args.at at_reverse end c.in_ok-origin.ensures is.origin s in
    let r = same IsKeyOption form_key_option one_key_option c.in_ok-reverse.reverse x.reverse _ bytes at_reverse at_recipients end c.in_ok-reverse.ensures is.reverse t in
    let k = same (IsListOf IsKey) (form_all form_bytes) (one_list IsKey form_bytes one_key) c.in_ok-recipients.recipients x.recipients (form_bytes x.bytes) bytes at_recipients at_bytes end c.in_ok-recipients.ensures is.recipients u in
    let b = same_last IsBytes form_bytes one_bytes c.in_ok-message.message x.bytes bytes at_bytes c.in_ok-message.end end c.in_ok-message.ensures is.bytes v in
    c.in_err-submission.ensures.none (ap (λ (f : Miss). Err f) none) x
    (
    ap (λ (z : Origin). submission_of z c.in_ok-reverse.reverse c.in_ok-recipients.recipients c.in_ok-message.message) (sym o)
    ∙ ap (λ (z : Option (List ℕ)). submission_of x.origin z c.in_ok-recipients.recipients c.in_ok-message.message) (sym r)
    ∙ ap (λ (z : List (List ℕ)). submission_of x.origin x.reverse z c.in_ok-message.message) (sym k)
    ∙ ap (λ (z : List ℕ). submission_of x.origin x.reverse x.recipients z) (sym b)
    ∙ is.made
    ))

pub returns : goal.returns
returns c =
    let bytes = c.args.bytes.now in
    let at_reverse = c.in_ok-origin.at_reverse in
    let at_recipients = c.in_ok-reverse.at_recipients in
    let at_bytes = c.in_ok-recipients.at_bytes in
    let end = c.in_ok-message.end in
    let is = made_of c.in_ok-origin.origin c.in_ok-reverse.reverse c.in_ok-recipients.recipients c.in_ok-message.message c.in_ok-submission.submission c.in_ok-submission.ensures.some in
    subst (λ (z : Submitted). IsSubmission z × Stands (form_submission z) bytes c.args.at end) is (
      record {
        origin = c.in_ok-origin.ensures.0;
        reverse = c.in_ok-reverse.ensures.0;
        recipients = c.in_ok-recipients.ensures.0;
        bytes = c.in_ok-message.ensures.0;
        made = c.in_ok-submission.ensures.some ∙ ap (λ (z : Submitted). Ok z) (sym is);
      },
      both (form_origin c.in_ok-origin.origin) _ bytes c.args.at at_reverse end c.in_ok-origin.ensures.1
          (both (form_key_option c.in_ok-reverse.reverse) _ bytes at_reverse at_recipients end c.in_ok-reverse.ensures.1
          (both (form_all form_bytes c.in_ok-recipients.recipients) (form_bytes c.in_ok-message.message) bytes at_recipients at_bytes end c.in_ok-recipients.ensures.1 c.in_ok-message.ensures.1)),
    )
