-- What a report's bytes tell of it. These readings don't fail: what they give is written again and compared.
use Rattle.std.specs.Prelude.{◌≡◌, ℕ, zero, suc, ◌+◌, ◌-◌, ◌==◌, nat_eq, Bool, List, length, take, drop, codes, decimal}
use Rattle.std.specs.List.{flat_map, position_or_len, starts_with}
use Rattle.mail_names.specs.Names.{name_text}
use Rattle.mail_names.specs.declared.route.How.{How}
use Rattle.mail_names.specs.declared.route.How.TheVariants as hows
use Rattle.mail_message.specs.Lines.{ended}
use Rattle.journal_report.specs.declared.parts.ReportHead.{ReportHead}
use Rattle.journal_report.specs.declared.parts.Line.{Line}
use Rattle.journal_report.specs.Report.{sender_text, target_line}

-- how many bytes stand before the first one that is b
abbrev pub place : ℕ → List ℕ → ℕ
place b bytes = position_or_len (λ x. x == b) bytes

-- the first line
unfoldable pub line_of : List ℕ → List ℕ
line_of bytes = take (place 13 bytes) bytes

-- what stands behind it and its end
unfoldable pub behind_line : List ℕ → List ℕ
behind_line bytes = drop (place 13 bytes + 2) bytes

-- what stands behind the first n lines
unfoldable pub skip : ℕ → List ℕ → List ℕ
skip zero bytes = bytes
skip (suc n) bytes = behind_line (skip n bytes)

-- the line at place n, counted from 0
unfoldable pub line_at : ℕ → List ℕ → List ℕ
line_at n bytes = line_of (skip n bytes)

abbrev pub before_space : List ℕ → List ℕ
before_space text = take (place 32 text) text

abbrev pub from_space : List ℕ → List ℕ
from_space text = drop (place 32 text) text

-- Behind the key of a step it is told whether a mailbox forwarded there.
abbrev pub is_forwarded : List ℕ → Bool
is_forwarded text = starts_with nat_eq text (codes " (forwarded)")

-- what stands behind a step and " > ", from what stands behind its key
abbrev pub behind_step : How → List ℕ → List ℕ
behind_step hows.Expanded text = drop 3 text
behind_step hows.Forwarded text = drop 15 text

unfoldable pub name_part : List ℕ → List ℕ
name_part bytes = before_space (drop 22 (line_at 0 bytes))

unfoldable pub moment_part : List ℕ → List ℕ
moment_part bytes = let text = drop 22 (line_at 0 bytes) in drop (place 32 text + 1) text

unfoldable pub mailbox_part : List ℕ → List ℕ
mailbox_part bytes = let text = drop 5 (line_at 2 bytes) in take (length text - 1) text

unfoldable pub sender_part : List ℕ → List ℕ
sender_part bytes = drop 8 (line_at 14 bytes)

unfoldable pub id_part : List ℕ → List ℕ
id_part bytes = drop 13 (line_at 15 bytes)

unfoldable pub subject_part : List ℕ → List ℕ
subject_part bytes = drop 18 (line_at 16 bytes)

-- what is enclosed, of what stands behind the targets: between four lines and the last delimiter
unfoldable pub original_part : List ℕ → List ℕ → List ℕ
original_part bytes rest = let text = skip 4 rest in take (length text - (length (line_at 10 bytes) + 6)) text

-- a target comes next
unfoldable pub is_target : List ℕ → Bool
is_target rest = starts_with nat_eq rest (codes "Recipient: ")

abbrev pub target_lines : List Line → List ℕ
target_lines lines = flat_map (λ line. ended (target_line line)) lines

-- the parts of these bytes are those of the head
pub record TellsHead (bytes : List ℕ) (head : ReportHead) : Type 0 where
  pub name : name_part bytes ≡ name_text head.name
  pub moment : moment_part bytes ≡ decimal head.moment
  pub mailbox : mailbox_part bytes ≡ head.mailbox
  pub sender : sender_part bytes ≡ sender_text head.sender
  pub id : id_part bytes ≡ head.message_id
  pub subject : subject_part bytes ≡ head.subject
