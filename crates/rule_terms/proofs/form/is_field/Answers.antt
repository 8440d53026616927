use Rattle.std.proofs.Common.{◌≡◌, ◌&&◌, ◌∙◌, true, ap, sym, length}
use Rattle.std.specs.List.{list_all}
use Rattle.mail_message.specs.Lines.{is_name_byte}
use Rattle.rule_terms.specs.Forms.{is_within}
use Rattle.rule_terms.proofs.TableKeys.{is_field-bytes}
use Rattle.rule_terms.proofs.form.is_field.Goals as goal

pub returns-then-is_within : goal.returns-then-is_within
returns-then-is_within c =
    let on : is_within 1 64 (length c.args.text.now) ≡ true = sym c.is_within.ensures ∙ c.if-is_within.true in
    c.are_name_bytes.ensures ∙ (sym (ap (λ b. b && list_all is_name_byte c.args.text.now) on) ∙ is_field-bytes c.args.text.now)
