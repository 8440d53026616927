use Rattle.std.proofs.Common.{◌≡◌, ◌∙◌, List, ℕ, ap, map, false}
use Rattle.mail_names.specs.Steps.{has_forward}
use Rattle.mail_names.specs.declared.route.Step.{Step}
use Rattle.journal_report.specs.declared.why.Why.TheVariants as whys
use Rattle.journal_report.proofs.Told.{told_err}
use Rattle.journal_report.proofs.StepTexts.{as_steps, as-steps-keys, as-steps-no_forward, keys-as_steps, route-as_steps}
use Rattle.journal_report.proofs.reading.via.Goals as goal

pub returns-in-Err-clause-groups : goal.returns-in-Err-clause-groups
returns-in-Err-clause-groups c = λ keys all e.
    told_err (λ (s : List Step). s ≡ as_steps keys) c.steps.result c.in-Err.fault c.in-Err.is (c.steps.ensures (as_steps keys) (as-steps-keys keys all) (e ∙ route-as_steps keys))

pub returns-in-Err-clause-steps : goal.returns-in-Err-clause-steps
returns-in-Err-clause-steps c = λ steps all forwarded e.
    told_err (λ (s : List Step). s ≡ steps) c.steps.result c.in-Err.fault c.in-Err.is (c.steps.ensures steps all e)

pub returns-in_ok-routed-in-Ok-clause-groups : goal.returns-in_ok-routed-in-Ok-clause-groups
returns-in_ok-routed-in-Ok-clause-groups c = λ keys all e.
    (let same = c.in-Ok.ensures (as_steps keys) (as-steps-keys keys all) (e ∙ route-as_steps keys) in
    let off : has_forward c.in-Ok.steps ≡ false = ap has_forward same ∙ as-steps-no_forward keys in
    c.in_ok-routed-in-Ok.ensures.via off
    ∙ ap (λ (s : List Step). whys.Via (map (λ (x : Step). x.key) s)) same
    ∙ ap (λ (ks : List (List ℕ)). whys.Via ks) (keys-as_steps keys))
