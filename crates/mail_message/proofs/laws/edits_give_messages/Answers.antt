use Rattle.mail_message.proofs.Keeping.{set_keeps, remove_keeps, prepend_keeps, add_keeps}
use Rattle.mail_message.proofs.Bounds.{wrapped_keeps}
use Rattle.mail_message.proofs.laws.edits_give_messages.Goals as goal

pub returns-clause-set : goal.returns-clause-set
returns-clause-set c = set_keeps

pub returns-clause-remove : goal.returns-clause-remove
returns-clause-remove c = remove_keeps

pub returns-clause-prepend : goal.returns-clause-prepend
returns-clause-prepend c = prepend_keeps

pub returns-clause-add : goal.returns-clause-add
returns-clause-add c = add_keeps

pub returns-clause-wrap : goal.returns-clause-wrap
returns-clause-wrap c = wrapped_keeps
