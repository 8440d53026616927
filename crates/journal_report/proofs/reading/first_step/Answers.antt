use Rattle.std.proofs.Common.{◌≡◌, ◌∙◌, ◌<◌, ℕ, List, ap, arith, length, drop}
use Rattle.std.proofs.lemmas.List.{length-drop}
use Rattle.mail_names.specs.declared.route.How.{How}
use Rattle.mail_names.specs.declared.route.How.TheVariants as hows
use Rattle.journal_report.specs.Reading.{place, before_space, from_space, is_forwarded, behind_step}
use Rattle.journal_report.proofs.Told.{told_err, is_key}
use Rattle.journal_report.proofs.StepTexts.{behind_key, first_key, first_behind, same_how, same_step, told_how, told_behind}
use Rattle.journal_report.proofs.reading.first_step.Goals as goal

-- what stands behind a step is shorter than the whole
shorter : (how : How) (route rest : List ℕ) → 0 < length route → rest ≡ behind_step how (from_space route) → length rest < length route
shorter hows.Expanded route rest some e =
    let a = length-drop (place 32 route) route in
    let b = length-drop 3 (from_space route) in
    let c : length rest ≡ length (drop 3 (from_space route)) = ap length e in omega (arith, a, b, c, some)
shorter hows.Forwarded route rest some e =
    let a = length-drop (place 32 route) route in
    let b = length-drop 15 (from_space route) in
    let c : length rest ≡ length (drop 15 (from_space route)) = ap length e in omega (arith, a, b, c, some)

pub returns-in-Ok-clause-told : goal.returns-in-Ok-clause-told
returns-in-Ok-clause-told c = λ step others is e.
    (let front = c.before_space.ensures ∙ ap before_space e ∙ first_key step others is in
    let key = c.in-Ok.ensures (is_key c.before_space.result.now step.key front is) ∙ front in
    let behind = c.from_space-behind_key.ensures ∙ ap from_space e ∙ first_behind step others is in
    let how = same_how c.how-how.result step.how (c.how-how.ensures ∙ ap is_forwarded behind ∙ told_how step.how others) in (
      same_step (record { key = c.in-Ok.key; how = c.how-how.result }) step key how,
      c.behind_step.ensures ∙ ap (behind_step c.how-how.result) behind ∙ ap (λ (h : How). behind_step h (behind_key step.how others)) how ∙ told_behind step.how others,
    ))

pub returns-in-Err-clause-told : goal.returns-in-Err-clause-told
returns-in-Err-clause-told c = λ step others is e.
    (let front = c.before_space.ensures ∙ ap before_space e ∙ first_key step others is in
    told_err (λ (k : List ℕ). k ≡ c.before_space.result.now) c.key.result c.in-Err.fault c.in-Err.is (c.key.ensures (is_key c.before_space.result.now step.key front is)))

pub returns-in-Ok-clause-shorter : goal.returns-in-Ok-clause-shorter
returns-in-Ok-clause-shorter c =
    shorter c.how-how.result c.args.route.now c.behind_step.result.now c.requires (c.behind_step.ensures ∙ ap (behind_step c.how-how.result) c.from_space-behind_key.ensures)
