use Rattle.std.proofs.Common.{◌≡◌, ◌∙◌, sym}
use Rattle.journal_report.specs.declared.parts.Line.{Line}
use Rattle.journal_report.proofs.Told.{told_err, first_target, no_target, goes_down, one_more}
use Rattle.journal_report.proofs.reading.read_targets.Goals as goal

pub returns-in-Err : goal.returns-in-Err
returns-in-Err c = λ lines rest all t e.
    (let i = c.targets.invariant lines rest all t e in
    let f = first_target c.targets.rest.now rest i.0 i.1 (sym c.is_target.ensures ∙ c.targets-test.true) t i.3 in
    told_err (λ (l : Line). l ≡ f.first) c.target.result c.in-Err.fault c.in-Err.is (c.target.ensures f.first f.fits (c.line_of.ensures ∙ f.here)))

pub targets-smaller : goal.targets-smaller
targets-smaller c = goes_down c.targets.rest.now c.behind_line-rest.result.now c.behind_line-rest.ensures (sym c.is_target.ensures ∙ c.targets-test.true)

pub targets-preserved : goal.targets-preserved
targets-preserved c = λ lines rest all t e.
    (let i = c.targets.invariant lines rest all t e in
    let f = first_target c.targets.rest.now rest i.0 i.1 (sym c.is_target.ensures ∙ c.targets-test.true) t i.3 in
    (f.others, f.all, one_more lines c.targets.lines c.push.new.self i.0 f.others c.in-Ok.line f.first i.2 f.is c.in_ok-push-in-Ok.ensures.ok (c.in-Ok.ensures f.first f.fits (c.line_of.ensures ∙ f.here)), c.behind_line-rest.ensures ∙ f.next))

pub returns : goal.returns
returns c = λ lines rest all t e.
    (let i = c.targets.invariant lines rest all t e in
    no_target c.targets.rest.now rest lines c.targets.lines i.0 (sym c.is_target.ensures ∙ c.targets-test.false) i.2 i.3)
