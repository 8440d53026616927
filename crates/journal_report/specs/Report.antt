-- The text of a journal report: a message that encloses another with a list of its targets.
use Rattle.std.specs.Prelude.{ℕ, List, [], ◌∷◌, ◌++◌, length, codes, decimal, Option, Some, None}
use Rattle.std.specs.List.{flat_map}
use Rattle.mail_names.specs.Names.{name_text}
use Rattle.mail_names.specs.Dates.{date_text}
use Rattle.mail_names.specs.declared.name.ItemName.{ItemName}
use Rattle.mail_message.specs.Lines.{crlf, ended}
use Rattle.mail_message.specs.Enclose.{enclosing}
use Rattle.journal_report.specs.declared.parts.ReportHead.{ReportHead}
use Rattle.journal_report.specs.declared.parts.Line.{Line}
use Rattle.journal_report.specs.Why.{why_text}

unfoldable pub report_line : ItemName → ℕ → List ℕ
report_line name moment = codes "X-Hub-Journal-Report: " ++ (name_text name ++ (codes " " ++ decimal moment))

unfoldable pub to_line : List ℕ → List ℕ
to_line mailbox = codes "To: <" ++ (mailbox ++ codes ">")

unfoldable pub date_line : ℕ → List ℕ
date_line moment = codes "Date: " ++ date_text moment

unfoldable pub id_line : ItemName → List ℕ
id_line name = codes "Message-Id: <" ++ (name_text name ++ codes "@hub.invalid>")

unfoldable pub subject_line : ItemName → List ℕ
subject_line name = codes "Subject: Journal report " ++ name_text name

-- the header
abbrev pub head_lines : ReportHead → List (List ℕ)
head_lines head =
    report_line head.name head.moment
    ∷ codes "From: <mailhub@hub.invalid>"
    ∷ to_line head.mailbox
    ∷ date_line head.moment
    ∷ id_line head.name
    ∷ subject_line head.name
    ∷ []

-- a key, or <> for the null sender
abbrev pub sender_text : Option (List ℕ) → List ℕ
sender_text None = codes "<>"
sender_text (Some key) = key

unfoldable pub sender_line : Option (List ℕ) → List ℕ
sender_line sender = codes "Sender: " ++ sender_text sender

unfoldable pub original_id_line : List ℕ → List ℕ
original_id_line id = codes "Original-Id: " ++ id

unfoldable pub original_subject_line : List ℕ → List ℕ
original_subject_line subject = codes "Original-Subject: " ++ subject

unfoldable pub count_line : ℕ → List ℕ
count_line count = codes "Recipients: " ++ decimal count

-- a target, and why the message goes to it
unfoldable pub target_line : Line → List ℕ
target_line line = codes "Recipient: " ++ (line.target ++ why_text line.why)

-- of the message that is reported
abbrev pub about_lines : ReportHead → ℕ → List (List ℕ)
about_lines head count =
    original_id_line head.message_id ∷ original_subject_line head.subject ∷ count_line count ∷ []

-- a further line
abbrev pub next : List ℕ → List ℕ
next line = crlf ++ line

-- what stands above the message that is enclosed: its lines have CRLF between them
unfoldable pub list_text : ReportHead → List Line → List ℕ
list_text head lines =
    sender_line head.sender
    ++ (flat_map next (about_lines head (length lines)) ++ flat_map (λ line. next (target_line line)) lines)

unfoldable pub report_text : ReportHead → List Line → List ℕ → List ℕ
report_text head lines original = enclosing (flat_map ended (head_lines head)) (list_text head lines) original
