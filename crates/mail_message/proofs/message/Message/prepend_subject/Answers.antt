use Rattle.mail_message.proofs.Keeping.{fields_prepended}
use Rattle.mail_message.proofs.message.Message.prepend_subject.Goals as goal

pub invariant_of-self-2 : goal.invariant_of-self-2
invariant_of-self-2 c =
    fields_prepended c.args.text.now c.self.inside.fields.items c.prepend_to_subject.new.fields.items
    c.requires c.in_ok-prepend_to_subject.ensures.ok c.self.invariant
