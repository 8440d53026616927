use Rattle.mail_message.specs.ReadOf.{read_of}
use Rattle.mail_message.proofs.OneReading.{only}
use Rattle.mail_message.proofs.ReadingOf.{reading_of}
use Rattle.mail_message.proofs.message.Message.read.Goals as goal

pub returns-clause-only : goal.returns-clause-only
returns-clause-only c = only c.args.bytes.now c.parsed.result c.parsed.ensures

pub returns-clause-value : goal.returns-clause-value
returns-clause-value c = only c.args.bytes.now c.parsed.result c.parsed.ensures (read_of c.args.bytes.now) (reading_of c.args.bytes.now)
