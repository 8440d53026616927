-- What an event does: the table of verbs, each with its checks in order.
use Rattle.std.specs.Prelude.{ℕ, nat_lt, Bool, true, false, if◌then◌else◌, List, [], ◌∷◌, ◌++◌, length, codes, Option, Some, None, Result, Ok, Err}
use Rattle.mail_submission.specs.declared.submission.Origin.TheVariants as origins
use Rattle.mail_submission.specs.declared.submission.SubmissionFault.{SubmissionFault}
use Rattle.mail_submission.specs.declared.submission.SubmissionFault.TheVariants as faults
use Rattle.mail_submission.specs.declared.submission.TheConstants.{MOST_RECIPIENTS}
use Rattle.mail_submission.specs.Submission.{Submitted, submission_of}
use Rattle.smtp_front.specs.declared.verb.Verb.{Verb}
use Rattle.smtp_front.specs.declared.verb.Verb.TheVariants as verbs
use Rattle.smtp_front.specs.declared.dialog.Event.{Event}
use Rattle.smtp_front.specs.declared.dialog.Event.TheVariants as events
use Rattle.smtp_front.specs.declared.reply.Line.{Line}
use Rattle.smtp_front.specs.declared.reply.Line.TheVariants as lines
use Rattle.smtp_front.specs.declared.reply.Reply.{Reply}
use Rattle.smtp_front.specs.declared.reply.Reply.TheVariants as replies
use Rattle.smtp_front.specs.declared.react.Phase.{Phase}
use Rattle.smtp_front.specs.declared.react.Phase.TheVariants as phases
use Rattle.smtp_front.specs.declared.react.Deed.TheVariants as deeds
use Rattle.smtp_front.specs.declared.react.Reaction.{Reaction}
use Rattle.smtp_front.specs.Commands.{Form, trim, verb_of, word_of, argument_of, form_of, unrouted, mailbox_of}
use Rattle.smtp_front.specs.Parameters.{words_of, any_refusal, refusal_of}

-- a fixed reply
abbrev pub say : Phase → Line → Reaction
say phase line = record { phase = phase; deed = deeds.Say (replies.Fixed line) }

-- HELO and EHLO: empty argument 501; else 250, and the transaction is dropped.
abbrev pub on_hello : Bool → Line → Phase → List ℕ → Reaction
on_hello extended line phase [] = say phase lines.BadArgument
on_hello extended line phase (b ∷ bs) = say (phases.Greeted extended) line

-- A path must be a mailbox (553), and then no parameter may be refused.
abbrev pub unless_refused : Option Line → Option (List ℕ) → Result (Option (List ℕ)) Line
unless_refused None path = Ok path
unless_refused (Some line) path = Err line

abbrev pub sender_known : Bool → List ℕ → Option (List ℕ) → Result (Option (List ℕ)) Line
sender_known extended rest None = Err lines.BadPath
sender_known extended rest (Some key) = unless_refused (refusal_of extended rest) (Some key)

-- the null path, or a mailbox
abbrev pub sender_at : Bool → List ℕ → List ℕ → Result (Option (List ℕ)) Line
sender_at extended rest [] = unless_refused (refusal_of extended rest) None
sender_at extended rest (b ∷ bs) = sender_known extended rest (mailbox_of (b ∷ bs))

abbrev pub sender_in : Bool → Option Form → Result (Option (List ℕ)) Line
sender_in extended None = Err lines.BadArgument
sender_in extended (Some form) = sender_at extended form.rest (unrouted form.path)

-- what MAIL names: form 501; path 553; parameters from the left
abbrev pub sender_of : Bool → List ℕ → Result (Option (List ℕ)) Line
sender_of extended argument = sender_in extended (form_of (codes "FROM:") argument)

abbrev pub with_sender : Bool → Result (Option (List ℕ)) Line → Reaction
with_sender extended (Ok reverse) = say (phases.Transaction extended reverse []) lines.Okay
with_sender extended (Err line) = say (phases.Greeted extended) line

-- MAIL: no hello or a transaction 503; then what MAIL names.
abbrev pub on_mail : Phase → List ℕ → Reaction
on_mail phases.New argument = say phases.New lines.BadSequence
on_mail (phases.Greeted extended) argument = with_sender extended (sender_of extended argument)
on_mail (phases.Transaction extended reverse recipients) argument = say (phases.Transaction extended reverse recipients) lines.BadSequence

abbrev pub recipient_alone : Option Line → List ℕ → Result (List ℕ) Line
recipient_alone None key = Ok key
recipient_alone (Some line) key = Err line

abbrev pub recipient_known : List ℕ → Option (List ℕ) → Result (List ℕ) Line
recipient_known rest None = Err lines.BadPath
recipient_known rest (Some key) = recipient_alone (any_refusal (words_of rest)) key

abbrev pub recipient_in : Option Form → Result (List ℕ) Line
recipient_in None = Err lines.BadArgument
recipient_in (Some form) = recipient_known form.rest (mailbox_of (unrouted form.path))

-- what RCPT names: form 501; path 553; any parameter 555
abbrev pub recipient_of : List ℕ → Result (List ℕ) Line
recipient_of argument = recipient_in (form_of (codes "TO:") argument)

-- recipient 1,001: 452, and the 1,000 stay
abbrev pub with_recipient : Bool → Option (List ℕ) → List (List ℕ) → Result (List ℕ) Line → Reaction
with_recipient extended reverse recipients (Ok key) =
    if nat_lt (length recipients) MOST_RECIPIENTS then say (phases.Transaction extended reverse (recipients ++ key ∷ [])) lines.Okay
    else say (phases.Transaction extended reverse recipients) lines.TooManyRecipients
with_recipient extended reverse recipients (Err line) = say (phases.Transaction extended reverse recipients) line

-- RCPT: no MAIL 503; then what RCPT names.
abbrev pub on_rcpt : Phase → List ℕ → Reaction
on_rcpt phases.New argument = say phases.New lines.BadSequence
on_rcpt (phases.Greeted extended) argument = say (phases.Greeted extended) lines.BadSequence
on_rcpt (phases.Transaction extended reverse recipients) argument = with_recipient extended reverse recipients (recipient_of argument)

abbrev pub has_recipient : Phase → Bool
has_recipient phases.New = false
has_recipient (phases.Greeted extended) = false
has_recipient (phases.Transaction extended reverse recipients) = nat_lt 0 (length recipients)

abbrev pub starting : Phase → List ℕ → Reaction
starting phase [] = record { phase = phase; deed = deeds.Start }
starting phase (b ∷ bs) = say phase lines.BadArgument

-- DATA: no recipient 503; argument 501; 354.
abbrev pub on_data : Phase → List ℕ → Reaction
on_data phase argument = if has_recipient phase then starting phase argument else say phase lines.BadSequence

-- without its transaction
abbrev pub dropped : Phase → Phase
dropped phases.New = phases.New
dropped (phases.Greeted extended) = phases.Greeted extended
dropped (phases.Transaction extended reverse recipients) = phases.Greeted extended

-- VRFY: empty argument 501; else 252.
abbrev pub on_vrfy : Phase → List ℕ → Reaction
on_vrfy phase [] = say phase lines.BadArgument
on_vrfy phase (b ∷ bs) = say phase lines.NotVerified

-- the table of verbs
abbrev pub on_command : Verb → Phase → List ℕ → Reaction
on_command verbs.Helo phase argument = on_hello false lines.Hello phase argument
on_command verbs.Ehlo phase argument = on_hello true lines.Extensions phase argument
on_command verbs.Mail phase argument = on_mail phase argument
on_command verbs.Rcpt phase argument = on_rcpt phase argument
on_command verbs.Data phase argument = on_data phase argument
on_command verbs.Rset phase argument = say (dropped phase) lines.Okay
on_command verbs.Noop phase argument = say phase lines.Okay
on_command verbs.Vrfy phase argument = on_vrfy phase argument
on_command verbs.Quit phase argument = record { phase = phase; deed = deeds.Quit }
on_command verbs.NotOffered phase argument = say phase lines.NotImplemented
on_command verbs.Unknown phase argument = say phase lines.UnknownCommand

-- Spaces and tabs at a line's end are dropped before all else.
abbrev pub on_line : Phase → List ℕ → Reaction
on_line phase line = on_command (verb_of (word_of line)) phase (argument_of line)

-- Why a content isn't asked for: 554 where it is no message. The other faults can't come in a transaction, which
-- has 1 to 1,000 recipients once its content is read.
abbrev pub refusal_reply : SubmissionFault → Reply
refusal_reply faults.NoRecipients = replies.Fixed lines.BadSequence
refusal_reply faults.TooManyRecipients = replies.Fixed lines.TooManyRecipients
refusal_reply (faults.Unreadable fault line) = replies.Unreadable fault
refusal_reply faults.NoMemory = replies.Fixed lines.NoMemory

abbrev pub asking : Bool → Result Submitted SubmissionFault → Reaction
asking extended (Ok submission) = record { phase = phases.Greeted extended; deed = deeds.Ask submission }
asking extended (Err fault) = record { phase = phases.Greeted extended; deed = deeds.Say (refusal_reply fault) }

-- A content ends the transaction, and is submitted where it is a message.
abbrev pub on_content : Phase → List ℕ → Reaction
on_content phases.New bytes = say phases.New lines.BadSequence
on_content (phases.Greeted extended) bytes = say (phases.Greeted extended) lines.BadSequence
on_content (phases.Transaction extended reverse recipients) bytes = asking extended (submission_of origins.Smtp reverse recipients bytes)

-- what an event does
abbrev pub react : Phase → Event → Reaction
react phase (events.Line line) = on_line phase (trim line)
react phase events.LongLine = say phase lines.LongLine
react phase (events.Content bytes) = on_content phase bytes
react phase events.TooLarge = say (dropped phase) lines.TooLarge
