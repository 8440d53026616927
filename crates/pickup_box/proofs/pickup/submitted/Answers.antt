use Rattle.std.proofs.Common.{◌∙◌, ap}
use Rattle.mail_message.specs.Message.{text}
use Rattle.pickup_box.proofs.Addressing.{unsent, unaddressed, is_sent}
use Rattle.pickup_box.proofs.pickup.submitted.Goals as goal

pub returns-in-Err : goal.returns-in-Err
returns-in-Err c = unsent c.in-Err.bad c.args.mark c.args.message c.as_slice-fields.result.now (c.as_slice-fields.ensures.value ∙ c.in_ok-all.ensures) c.in-Err.ensures

pub returns-in-Err-recipients_of : goal.returns-in-Err-recipients_of
returns-in-Err-recipients_of c = unaddressed c.in-Err-recipients_of.bad c.args.mark c.args.message c.as_slice-fields.result.now c.in-Ok.senders (c.as_slice-fields.ensures.value ∙ c.in_ok-all.ensures) c.in-Ok.ensures c.in-Err-recipients_of.ensures

pub returns : goal.returns
returns c = is_sent c.sent.result c.args.mark c.args.message c.as_slice-fields.result.now c.in-Ok.senders c.in-Ok-recipients_of.recipients c.in_ok-bytes.bytes (c.as_slice-fields.ensures.value ∙ c.in_ok-all.ensures) c.in-Ok.ensures c.in-Ok-recipients_of.ensures (c.in_ok-bytes.ensures.text ∙ ap text c.in_ok-remove_field.ensures.ok) c.sent.ensures
