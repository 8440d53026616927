-- The message that is sent for a submission.
use Rattle.std.specs.Prelude.{ℕ, Bool, true, false, if◌then◌else◌, List, [], ◌++◌, codes, decimal, Result, Ok, Err}
use Rattle.mail_message.specs.Message.{Mail, text}
use Rattle.mail_message.specs.Edits.{set_field}
use Rattle.mail_message.specs.ReadOf.{read_of}
use Rattle.mail_message.specs.declared.fault.MessageFault.{MessageFault}
use Rattle.mail_submission.specs.Submission.{has_id, has_message_id}

-- <N@hub.invalid>
abbrev pub id_text : ℕ → List ℕ
id_text number = codes "<" ++ (decimal number ++ codes "@hub.invalid>")

abbrev pub text_with_id : ℕ → Result Mail MessageFault → List ℕ
text_with_id number (Ok m) = text (set_field (codes "Message-Id") (id_text number) m)
text_with_id number (Err e) = []

-- the bytes as they are, or with a Message-Id of the hub's own where they have none with a value
abbrev pub base_text : ℕ → List ℕ → List ℕ
base_text number bytes = if has_message_id bytes then bytes else text_with_id number (read_of bytes)

-- A message without an id gets one of the hub's own.
abbrev pub with_id : Bool → ℕ → Mail → Mail
with_id true number message = message
with_id false number message = set_field (codes "Message-Id") (id_text number) message

-- The bytes of a submission read, so the default is never met.
abbrev pub base_read : ℕ → Result Mail MessageFault → Mail
base_read number (Ok message) = with_id (has_id message) number message
base_read number (Err fault) = record { fields = []; body = [] }

-- the message that the bytes of a submission are, with an id
abbrev pub base_message : ℕ → List ℕ → Mail
base_message number bytes = base_read number (read_of bytes)
