-- Which targets a report lists, read off its lines.
use Rattle.std.specs.Prelude.{◌≡◌, ℕ, false, List, [], ◌∷◌, ◌++◌}
use Rattle.journal_report.specs.declared.parts.Line.{Line}
use Rattle.journal_report.specs.Report.{target_line}
use Rattle.journal_report.specs.Reports.{FitsLine}
use Rattle.journal_report.specs.Reading.{line_of, behind_line, skip, is_target}

-- This line of a text is `Recipient: `, the target, and why it is one.
pub record Names (bytes : List ℕ) (line : Line) : Type 0 where
  pub text : bytes ≡ target_line line
  pub fits : FitsLine line

-- The next lines of a text name these targets, one each, and the line behind them names none.
abbrev pub NamesNext : List ℕ → List Line → Type 0
NamesNext bytes [] = is_target bytes ≡ false
NamesNext bytes (line ∷ lines) = Names (line_of bytes) line × NamesNext (behind_line bytes) lines

-- A report lists these targets behind its first 18 lines: its header, the head of its first part, and four on the message.
abbrev pub Lists : List ℕ → List Line → Type 0
Lists bytes lines = NamesNext (skip 18 bytes) lines

-- There is one report, which lists these targets; none, where there is no target.
abbrev pub OneLists : List (List ℕ) → List Line → Type 0
OneLists reports [] = reports ≡ []
OneLists reports (line ∷ lines) = (report : List ℕ) × (reports ≡ report ∷ []) × Lists report (line ∷ lines)

-- Reports, read one behind another, list these targets.
abbrev pub ListTogether : List (List ℕ) → List Line → Type 0
ListTogether [] lines = lines ≡ []
ListTogether (report ∷ reports) lines =
    (first : List Line) × (rest : List Line) × (lines ≡ first ++ rest) × Lists report first × ListTogether reports rest
