-- The texts of notices.
use Rattle.std.specs.Prelude.{ℕ, Bool, true, false, List, [], ◌∷◌, ◌++◌, map, codes, decimal}
use Rattle.std.specs.List.{flat_map}
use Rattle.mail_names.specs.Names.{name_text, approval_text}
use Rattle.mail_names.specs.Dates.{date_text}
use Rattle.mail_names.specs.declared.name.ItemName.{ItemName}
use Rattle.mail_names.specs.declared.name.ApprovalName.{ApprovalName}
use Rattle.mail_message.specs.Lines.{crlf, ended}
use Rattle.mail_message.specs.Enclose.{enclosing}
use Rattle.journal_report.specs.Why.{why_text}
use Rattle.journal_report.specs.declared.why.Why.{Why}
use Rattle.mail_notices.specs.declared.kinds.About.{About}
use Rattle.mail_notices.specs.declared.kinds.Notice.{Notice}
use Rattle.mail_notices.specs.declared.kinds.Notice.TheVariants as notices

-- the parts one behind another
abbrev pub joined : List (List ℕ) → List ℕ
joined parts = flat_map (λ part. part) parts

-- what stands behind `Subject: `
abbrev pub subject_of : Notice → List ℕ
subject_of (notices.Rejected rule name code words keys) = codes "Message rejected"
subject_of (notices.Unknown keys) = codes "Unknown recipients"
subject_of notices.TooMany = codes "Too many recipients"
subject_of (notices.Asked approval gate deadline) = codes "Approval asked " ++ approval_text approval
subject_of (notices.Refused approval gate by) = codes "Approval refused " ++ approval_text approval
subject_of (notices.RanOut approval gate deadline) = codes "Approval ran out " ++ approval_text approval
subject_of (notices.Delayed target why until) = codes "Message delayed"
subject_of (notices.Undeliverable target why ended) = codes "Message undeliverable"

unfoldable pub recipient_line : List ℕ → List ℕ
recipient_line key = codes "Recipient: " ++ key

unfoldable pub rejected_line : ℕ → List ℕ → ℕ → List ℕ → List ℕ
rejected_line rule name code words =
    joined (codes "Rejected by rule " ∷ decimal rule ∷ codes " (" ∷ name ∷ codes "): 5.7." ∷ decimal code ∷ codes " " ∷ words ∷ [])

unfoldable pub asked_line : ApprovalName → List ℕ → List ℕ
asked_line approval gate = joined (codes "Approval " ∷ approval_text approval ∷ codes " is asked for " ∷ gate ∷ codes "." ∷ [])

unfoldable pub refused_line : ApprovalName → List ℕ → List ℕ → List ℕ
refused_line approval gate by =
    joined (codes "Approval " ∷ approval_text approval ∷ codes " for " ∷ gate ∷ codes " was refused by " ∷ by ∷ codes "." ∷ [])

unfoldable pub ran_out_line : ApprovalName → List ℕ → ℕ → List ℕ
ran_out_line approval gate deadline =
    joined (codes "Approval " ∷ approval_text approval ∷ codes " for " ∷ gate ∷ codes " ran out at " ∷ decimal deadline ∷ codes "." ∷ [])

-- words, a moment and a full stop
unfoldable pub moment_line : List ℕ → ℕ → List ℕ
moment_line words moment = joined (words ∷ decimal moment ∷ codes "." ∷ [])

-- words, a target with why the message goes to it, and a full stop
unfoldable pub target_line : List ℕ → List ℕ → Why → List ℕ
target_line words target why = joined (words ∷ target ∷ why_text why ∷ codes "." ∷ [])

abbrev pub no_message : List ℕ
no_message = codes "Recipients behind it get no message."

-- what a notice says behind the lines on its submission
abbrev pub lines_of : Notice → List (List ℕ)
lines_of (notices.Rejected rule name code words keys) = rejected_line rule name code words ∷ map recipient_line keys
lines_of (notices.Unknown keys) = codes "Unknown recipients:" ∷ map recipient_line keys
lines_of notices.TooMany = codes "The message expands to more than 2000 recipients and was sent to nobody." ∷ []
lines_of (notices.Asked approval gate deadline) = asked_line approval gate ∷ moment_line (codes "Decide before ") deadline ∷ []
lines_of (notices.Refused approval gate by) = refused_line approval gate by ∷ no_message ∷ []
lines_of (notices.RanOut approval gate deadline) = ran_out_line approval gate deadline ∷ no_message ∷ []
lines_of (notices.Delayed target why until) =
    target_line (codes "Delayed: ") target why ∷ moment_line (codes "Tries go on until ") until ∷ []
lines_of (notices.Undeliverable target why ended) =
    target_line (codes "Undeliverable: ") target why ∷ moment_line (codes "Tries ended at ") ended ∷ []

unfoldable pub submission_line : ℕ → List ℕ
submission_line number = codes "Submission: " ++ decimal number

unfoldable pub original_id_line : List ℕ → List ℕ
original_id_line id = codes "Original-Id: " ++ id

unfoldable pub original_subject_line : List ℕ → List ℕ
original_subject_line subject = codes "Original-Subject: " ++ subject

-- behind the first line of a text
abbrev pub later_lines : About → Notice → List (List ℕ)
later_lines about what = original_id_line about.message_id ∷ original_subject_line about.subject ∷ lines_of what

abbrev pub angled : List ℕ → List ℕ
angled key = joined (codes "<" ∷ key ∷ codes ">" ∷ [])

abbrev pub further : List ℕ → List ℕ
further key = joined (codes ", <" ∷ key ∷ codes ">" ∷ [])

-- the keys in angle brackets, with ", " between them
abbrev pub addresses : List (List ℕ) → List ℕ
addresses [] = []
addresses (key ∷ keys) = angled key ++ flat_map further keys

unfoldable pub to_line : List (List ℕ) → List ℕ
to_line to = codes "To: " ++ addresses to

unfoldable pub date_line : ℕ → List ℕ
date_line moment = codes "Date: " ++ date_text moment

unfoldable pub id_line : ItemName → List ℕ
id_line name = joined (codes "Message-Id: <" ∷ name_text name ∷ codes "@hub.invalid>" ∷ [])

unfoldable pub subject_line : List ℕ → List ℕ
subject_line subject = codes "Subject: " ++ subject

-- the header that every notice has
abbrev pub head_lines : ItemName → List (List ℕ) → ℕ → List ℕ → List (List ℕ)
head_lines name to moment subject =
    codes "From: <mailhub@hub.invalid>"
    ∷ to_line to
    ∷ date_line moment
    ∷ id_line name
    ∷ subject_line subject
    ∷ codes "Auto-Submitted: auto-replied"
    ∷ []

unfoldable pub head_text : ItemName → List (List ℕ) → ℕ → List ℕ → List ℕ
head_text name to moment subject = flat_map ended (head_lines name to moment subject)

-- the rest of the header of one that encloses nothing, and the empty line behind it
abbrev pub plain_lines : List (List ℕ)
plain_lines =
    codes "MIME-Version: 1.0"
    ∷ codes "Content-Type: text/plain; charset=utf-8"
    ∷ codes "Content-Transfer-Encoding: 8bit"
    ∷ []
    ∷ []

unfoldable pub plain_text : List ℕ
plain_text = flat_map ended plain_lines

abbrev pub is_enclosing : Notice → Bool
is_enclosing (notices.Rejected rule name code words keys) = false
is_enclosing (notices.Unknown keys) = false
is_enclosing notices.TooMany = false
is_enclosing (notices.Asked approval gate deadline) = true
is_enclosing (notices.Refused approval gate by) = false
is_enclosing (notices.RanOut approval gate deadline) = false
is_enclosing (notices.Delayed target why until) = false
is_enclosing (notices.Undeliverable target why ended) = false

-- a further line
abbrev pub next : List ℕ → List ℕ
next line = crlf ++ line

-- the text of a notice, without the end of its last line
unfoldable pub body_text : About → Notice → List ℕ
body_text about what = submission_line about.number ++ flat_map next (later_lines about what)

-- the message enclosed with a text
unfoldable pub with_original : List ℕ → List ℕ → List ℕ → List ℕ
with_original head body original = enclosing head body original

-- One that asks encloses the message; any other is plain text.
abbrev pub text_with : Bool → List ℕ → List ℕ → List ℕ → List ℕ
text_with true head body original = with_original head body original
text_with false head body original = head ++ (plain_text ++ ended body)

abbrev pub notice_text : ItemName → List (List ℕ) → ℕ → About → Notice → List ℕ
notice_text name to moment about what =
    text_with (is_enclosing what) (head_text name to moment (subject_of what)) (body_text about what) about.original
