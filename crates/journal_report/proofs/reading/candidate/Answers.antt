use Rattle.std.proofs.Common.{◌≡◌, ◌∙◌, ℕ, List, ap}
use Rattle.mail_message.specs.Enclose.{boundary_of}
use Rattle.journal_report.specs.declared.parts.ReportHead.{ReportHead}
use Rattle.journal_report.specs.declared.parts.Line.{Line}
use Rattle.journal_report.specs.declared.parts.Report.{Report}
use Rattle.journal_report.specs.Report.{list_text}
use Rattle.journal_report.specs.Reading.{original_part}
use Rattle.journal_report.proofs.Shape.{behind_targets}
use Rattle.journal_report.proofs.Finding.{found}
use Rattle.journal_report.proofs.reading.candidate.Goals as goal

same : (h head : ReportHead) (l lines : List Line) (o original : List ℕ) → h ≡ head → l ≡ lines → o ≡ original →
    ◌≡◌ {A = Report} (record { head = h; lines = l; original = o }) (record { head = head; lines = lines; original = original })
same h head l lines o original p q r =
    ap (λ (x : ReportHead). let report : Report = record { head = x; lines = l; original = o } in report) p
    ∙ ap (λ (x : List Line). let report : Report = record { head = head; lines = x; original = o } in report) q
    ∙ ap (λ (x : List ℕ). let report : Report = record { head = head; lines = lines; original = x } in report) r

pub returns-in-Err : goal.returns-in-Err
returns-in-Err c = λ head lines original fits all h e.
    (let f = found c.args.bytes.now head lines original fits h e in c.in-Err.ensures head fits f.moment f.tells)

pub returns-in_ok-of-in-Ok-read_targets : goal.returns-in_ok-of-in-Ok-read_targets
returns-in_ok-of-in-Ok-read_targets c = λ head lines original fits all h e.
    (let f = found c.args.bytes.now head lines original fits h e in
    let t = c.in-Ok-read_targets.ensures lines (behind_targets (boundary_of (list_text head lines) original) original) all f.over (c.targets_part.ensures ∙ f.targets) in
    same c.in-Ok.head head c.in-Ok-read_targets.field-0.lines lines c.in_ok-of-in-Ok-read_targets.field-0 original
    (c.in-Ok.ensures head fits f.moment f.tells) t.0 (c.in_ok-of-in-Ok-read_targets.ensures ∙ c.original_part.ensures ∙ ap (original_part c.args.bytes.now) t.1 ∙ f.enclosed))

pub returns-in-Err-read_targets : goal.returns-in-Err-read_targets
returns-in-Err-read_targets c = λ head lines original fits all h e.
    (let f = found c.args.bytes.now head lines original fits h e in
    c.in-Err-read_targets.ensures lines (behind_targets (boundary_of (list_text head lines) original) original) all f.over (c.targets_part.ensures ∙ f.targets))
