-- What is accepted, and when it is what was accepted before.
use Rattle.std.specs.Prelude.{◌≡◌, ◌&&◌, ◌||◌, nat_lt, ℕ, Bool, true, false, if◌then◌else◌, List, [], ◌∷◌, length, codes, bytes_eq, is_ok, Option, Some, None, Result, Ok, Err}
use Rattle.std.specs.Cmp.Lexicographic.{pointwise}
use Rattle.mail_message.specs.Message.{Mail, field_of}
use Rattle.mail_message.specs.ReadOf.{read_of}
use Rattle.mail_message.specs.declared.fault.MessageFault.{MessageFault}
use Rattle.mail_message.specs.declared.fault.MessageFault.TheVariants as messages
use Rattle.mail_submission.specs.declared.submission.TheConstants.{MOST_RECIPIENTS}
use Rattle.mail_submission.specs.declared.submission.Origin.{Origin}
use Rattle.mail_submission.specs.declared.submission.Origin.TheVariants as origins
use Rattle.mail_submission.specs.declared.submission.SubmissionFault.{SubmissionFault}
use Rattle.mail_submission.specs.declared.submission.SubmissionFault.TheVariants as faults

-- how a message came in, who sent it, to whom, and its bytes
pub record Submitted : Type 0 where
  pub origin : Origin
  pub reverse : Option (List ℕ)
  pub recipients : List (List ℕ)
  pub bytes : List ℕ

abbrev pub is_some_text : Option (List ℕ) → Bool
is_some_text None = false
is_some_text (Some []) = false
is_some_text (Some (b ∷ bs)) = true

-- the first Message-Id has a value
abbrev pub has_id : Mail → Bool
has_id m = is_some_text (field_of (codes "Message-Id") m)

abbrev pub has_id_read : Result Mail MessageFault → Bool
has_id_read (Ok m) = has_id m
has_id_read (Err e) = false

-- the message that these bytes are has a Message-Id with a value
abbrev pub has_message_id : List ℕ → Bool
has_message_id bytes = has_id_read (read_of bytes)

abbrev pub is_readable : List ℕ → Bool
is_readable bytes = is_ok (read_of bytes)

abbrev pub option_eq : Option (List ℕ) → Option (List ℕ) → Bool
option_eq None None = true
option_eq None (Some b) = false
option_eq (Some a) None = false
option_eq (Some a) (Some b) = bytes_eq a b

-- both came from the pickup folder under one mark
abbrev pub same_mark : Origin → Origin → Bool
same_mark (origins.Pickup a) (origins.Pickup b) = bytes_eq a b
same_mark (origins.Pickup a) origins.Smtp = false
same_mark origins.Smtp other = false

-- The reverse path, the recipients and all bytes are equal, and either the message has a Message-Id with a value
-- or both came from the pickup folder under one mark.
abbrev pub same_submission : Submitted → Submitted → Bool
same_submission a b =
    option_eq a.reverse b.reverse
    && (pointwise bytes_eq a.recipients b.recipients
    && (bytes_eq a.bytes b.bytes && (has_message_id a.bytes || same_mark a.origin b.origin)))

-- why bytes are no message: the fault's number, and its line if it has one
abbrev pub unreadable : MessageFault → SubmissionFault
unreadable messages.NoBlankLine = faults.Unreadable 1 0
unreadable (messages.BadField line) = faults.Unreadable 2 line
unreadable messages.TooLarge = faults.Unreadable 3 0
unreadable messages.NoMemory = faults.NoMemory

abbrev pub submission_read : Submitted → Result Mail MessageFault → Result Submitted SubmissionFault
submission_read s (Ok m) = Ok s
submission_read s (Err e) = Err (unreadable e)

-- the submission of these parts, or the first fault
abbrev pub submission_of : Origin → Option (List ℕ) → List (List ℕ) → List ℕ → Result Submitted SubmissionFault
submission_of origin reverse recipients bytes =
    if nat_lt 0 (length recipients)
    then (if nat_lt MOST_RECIPIENTS (length recipients) then Err faults.TooManyRecipients
    else submission_read (record { origin = origin; reverse = reverse; recipients = recipients; bytes = bytes }) (read_of bytes))
    else Err faults.NoRecipients

abbrev pub Fails : SubmissionFault → Result Submitted SubmissionFault → Type 0
Fails faults.NoMemory made = Unit {0}
Fails e made = made ≡ Err e

-- What a call answers is what the parts make, unless memory ran out.
abbrev pub Gives : Result Submitted SubmissionFault → Result Submitted SubmissionFault → Type 0
Gives (Ok s) made = made ≡ Ok s
Gives (Err e) made = Fails e made
