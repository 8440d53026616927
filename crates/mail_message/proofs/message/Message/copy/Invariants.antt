use Rattle.std.proofs.Common.{◌≡◌, ◌++◌, drop}
use Rattle.mail_message.proofs.message.Message.copy.Given as goal

abbrev pub invariant-loop-raw : goal.invariant-loop-raw
invariant-loop-raw l = l.fields.items ++ drop l.raw-index l.self-inside.fields.items ≡ l.self-inside.fields.items
