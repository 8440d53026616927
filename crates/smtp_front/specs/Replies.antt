-- The replies of a session.
use Rattle.std.specs.Prelude.{ℕ, List, [], ◌∷◌, ◌++◌, codes, decimal, Result, Ok, Err}
use Rattle.mail_submission.specs.declared.intake.Accepted.{Accepted}
use Rattle.mail_submission.specs.declared.intake.IntakeFault.{IntakeFault}
use Rattle.mail_submission.specs.declared.intake.IntakeFault.TheVariants as faults
use Rattle.smtp_front.specs.declared.reply.Line.{Line}
use Rattle.smtp_front.specs.declared.reply.Line.TheVariants as lines
use Rattle.smtp_front.specs.declared.reply.Reply.{Reply}
use Rattle.smtp_front.specs.declared.reply.Reply.TheVariants as replies

abbrev pub crlf : List ℕ
crlf = 13 ∷ 10 ∷ []

-- the fixed replies
abbrev pub line_text : Line → List ℕ
line_text lines.Greeting = codes "220 hub.invalid mail hub ready" ++ crlf
line_text lines.Closing = codes "221 hub.invalid closing" ++ crlf
line_text lines.Hello = codes "250 hub.invalid" ++ crlf
line_text lines.Extensions =
    codes "250-hub.invalid" ++ (crlf ++ (codes "250-SIZE 1048576" ++ (crlf ++ (codes "250-8BITMIME" ++ (crlf ++ (codes "250 PIPELINING" ++ crlf))))))
line_text lines.Okay = codes "250 OK" ++ crlf
line_text lines.NotVerified = codes "252 Not verified" ++ crlf
line_text lines.Start = codes "354 End data with a dot line" ++ crlf
line_text lines.NoMemory = codes "421 Closing: no memory" ++ crlf
line_text lines.LogFull = codes "421 Closing: log full" ++ crlf
line_text lines.LogDamaged = codes "421 Closing: log damaged" ++ crlf
line_text lines.DeskFull = codes "421 Closing: desk full" ++ crlf
line_text lines.InputTooLong = codes "421 Closing: input too long" ++ crlf
line_text lines.DiskFault = codes "451 Disk fault, try again" ++ crlf
line_text lines.TooManyRecipients = codes "452 Too many recipients" ++ crlf
line_text lines.QueueFull = codes "452 Queue full" ++ crlf
line_text lines.LongLine = codes "500 Line too long" ++ crlf
line_text lines.UnknownCommand = codes "500 Unknown command" ++ crlf
line_text lines.BadArgument = codes "501 Bad argument" ++ crlf
line_text lines.NotImplemented = codes "502 Not implemented" ++ crlf
line_text lines.BadSequence = codes "503 Bad sequence" ++ crlf
line_text lines.TooLarge = codes "552 Message too large" ++ crlf
line_text lines.BadPath = codes "553 Bad path" ++ crlf
line_text lines.UnknownParameter = codes "555 Unknown parameter" ++ crlf

-- a reply, and those with a number
abbrev pub reply_text : Reply → List ℕ
reply_text (replies.Fixed line) = line_text line
reply_text (replies.Accepted number) = codes "250 Accepted " ++ (decimal number ++ crlf)
reply_text (replies.Unreadable fault) = codes "554 Message can't be read: fault " ++ (decimal fault ++ crlf)

-- the reply to a submission, by the intake's answer; a repeat is answered as the first
abbrev pub answer_reply : Result Accepted IntakeFault → Reply
answer_reply (Ok accepted) = replies.Accepted accepted.number
answer_reply (Err faults.DiskFault) = replies.Fixed lines.DiskFault
answer_reply (Err faults.NoMemory) = replies.Fixed lines.NoMemory
answer_reply (Err (faults.QueueFull live bytes)) = replies.Fixed lines.QueueFull
answer_reply (Err (faults.LogFull length)) = replies.Fixed lines.LogFull
answer_reply (Err (faults.NotALog at)) = replies.Fixed lines.LogDamaged
answer_reply (Err (faults.DeskFull calls)) = replies.Fixed lines.DeskFull
