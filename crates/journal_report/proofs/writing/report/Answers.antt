use Rattle.std.proofs.Common.{◌≡◌, List, ℕ, Result, Ok, Err, IfOk, ap, ◌∙◌}
use Rattle.std.specs.List.{flat_map}
use Rattle.mail_names.specs.declared.bytes.NoMemory.{NoMemory}
use Rattle.mail_message.specs.Lines.{ended}
use Rattle.mail_message.specs.Enclose.{enclosing}
use Rattle.journal_report.specs.declared.parts.ReportHead.{ReportHead}
use Rattle.journal_report.specs.declared.parts.Line.{Line}
use Rattle.journal_report.specs.Report.{head_lines, list_text, report_text}
use Rattle.journal_report.proofs.writing.report.Goals as goal

joins : (r : Result (List ℕ) NoMemory) (head : ReportHead) (lines : List Line) (above list original : List ℕ) →
    above ≡ flat_map ended (head_lines head) → list ≡ list_text head lines →
    IfOk r (λ b. b ≡ enclosing above list original) → IfOk r (λ b. b ≡ report_text head lines original)
unfolding report_text
joins (Err e) head lines above list original p q h = h
joins (Ok b) head lines above list original p q h = h ∙ ap (λ x. enclosing x list original) p ∙ ap (λ x. enclosing (flat_map ended (head_lines head)) x original) q

pub returns : goal.returns
returns c =
    joins c.enclose.result c.args.head.now c.args.lines.now c.as_slice.result.now c.as_slice-2.result.now c.args.original.now
    (c.as_slice.ensures ∙ c.in_ok-above.ensures) (c.as_slice-2.ensures ∙ c.in_ok-list.ensures) c.enclose.ensures.value
