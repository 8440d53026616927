use Rattle.mail_message.proofs.Keeping.{fields_set}
use Rattle.mail_message.proofs.message.Message.set_field.Goals as goal

pub invariant_of-self-2 : goal.invariant_of-self-2
invariant_of-self-2 c =
    fields_set c.args.name.now c.args.value.now c.in_ok-raw.raw c.self.inside.fields.items c.set_named.new.fields.items
    c.requires.name c.requires.value c.in_ok-raw.ensures c.in_ok-set_named.ensures.ok c.self.invariant
