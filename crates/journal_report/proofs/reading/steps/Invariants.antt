-- Of the steps of the route those so far are read, and the rest is the route of the others.
use Rattle.std.proofs.Common.{◌≡◌, List, ◌++◌, length}
use Rattle.std.specs.List.{AllByRecursion}
use Rattle.mail_names.specs.Key.{IsKey}
use Rattle.mail_names.specs.declared.route.Step.{Step}
use Rattle.journal_report.specs.Why.{steps_text}
use Rattle.journal_report.proofs.reading.steps.Given as goal

abbrev pub invariant-steps : goal.invariant-steps
invariant-steps l = (all : List Step) → AllByRecursion (λ (s : Step). IsKey s.key) all → l.fn.text ≡ steps_text all →
    (others : List Step) × (AllByRecursion (λ (s : Step). IsKey s.key) others) × (all ≡ l.steps ++ others) × (l.rest ≡ steps_text others)

abbrev pub decreases-steps : goal.decreases-steps
decreases-steps l = length l.rest
