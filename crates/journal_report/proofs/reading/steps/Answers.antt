use Rattle.std.proofs.Common.{◌≡◌}
use Rattle.journal_report.specs.declared.reading.FirstStep.{FirstStep}
use Rattle.journal_report.specs.Why.{steps_text}
use Rattle.journal_report.proofs.Told.{told_err, some_left, one_more}
use Rattle.journal_report.proofs.StepTexts.{some_step}
use Rattle.journal_report.proofs.reading.steps.Goals as goal

pub returns-in-Err : goal.returns-in-Err
returns-in-Err c = λ all keys e.
    (let i = c.steps.invariant all keys e in
    let f = some_step c.steps.rest.now i.0 i.1 i.3 (some_left c.is_empty.result c.steps.rest.now c.is_empty.ensures c.steps-test.true) in
    told_err (λ (s : FirstStep). (s.step ≡ f.first) × (s.rest.now ≡ steps_text f.others)) c.first_step.result c.in-Err.fault c.in-Err.is
    (c.first_step.ensures.told f.first f.others f.key f.text))

pub steps-preserved : goal.steps-preserved
steps-preserved c = λ all keys e.
    (let i = c.steps.invariant all keys e in
    let f = some_step c.steps.rest.now i.0 i.1 i.3 (some_left c.is_empty.result c.steps.rest.now c.is_empty.ensures c.steps-test.true) in
    let got = c.in-Ok.ensures.told f.first f.others f.key f.text in
    (f.others, f.all, one_more all c.steps.steps c.push.new.self i.0 f.others c.in-Ok.field-0.step f.first i.2 f.is c.in_ok-push-in-Ok.ensures.ok got.0, got.1))
