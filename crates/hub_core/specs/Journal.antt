-- What the journal of a history holds: the reports of the releases that it categorised, and what they list.
use Rattle.std.specs.Prelude.{◌≡◌, ◌≤◌, ◌==◌, ◌-◌, ℕ, Bool, true, if◌then◌else◌, List, [], ◌∷◌, ◌++◌, map, slice_get, Some}
use Rattle.journal_report.specs.declared.parts.Line.{Line}
use Rattle.journal_report.specs.Listed.{ListTogether}
use Rattle.mail_plan.specs.Planning.{are_distinct, reports_to, lines_taken}
use Rattle.log_entry.specs.declared.entry.Entry.{Entry}
use Rattle.log_entry.specs.declared.entry.Entry.TheVariants as entries
use Rattle.mail_plan.specs.declared.release.Release.{Release}
use Rattle.hub_core.specs.Setup.{Setup}
use Rattle.hub_core.specs.Items.{Accepted, accepted}

-- the releases of the submission of this number that a history categorised, in the order in which it did
abbrev pub categorised_of : ℕ → List Entry → List Release
categorised_of number [] = []
categorised_of number (entries.Categorised n release plan ∷ history) =
    if n == number then plan ∷ categorised_of number history else categorised_of number history
categorised_of number (entries.Organised directory rules ∷ history) = categorised_of number history
categorised_of number (entries.Accepted moment submission ∷ history) = categorised_of number history
categorised_of number (entries.Decided name by verdict moment ∷ history) = categorised_of number history
categorised_of number (entries.Moment moment ∷ history) = categorised_of number history
categorised_of number (entries.Delivered name ∷ history) = categorised_of number history
categorised_of number (entries.Delayed name ∷ history) = categorised_of number history
categorised_of number (entries.Ended name ∷ history) = categorised_of number history
categorised_of number (entries.Forgot n ∷ history) = categorised_of number history

-- the reports of releases to a mailbox
abbrev pub reports_of : List ℕ → List Release → List (List ℕ)
reports_of mailbox [] = []
reports_of mailbox (plan ∷ plans) = reports_to mailbox plan ++ reports_of mailbox plans

-- the versions of releases that a mailbox takes, where it takes such targets
abbrev pub taken_of : (List ℕ → Bool) → List Release → List Line
taken_of takes [] = []
taken_of takes (plan ∷ plans) = lines_taken takes plan ++ taken_of takes plans

abbrev pub listed_targets : List Line → List (List ℕ)
listed_targets lines = map (λ (line : Line). line.target) lines

-- The reports of these releases to a mailbox, read one behind another, list exactly the versions that the mailbox takes, each
-- with why it is a target, and no target twice.
pub record AreReported (mailbox : List ℕ) (takes : List ℕ → Bool) (plans : List Release) : Type 0 where
  pub listed : ListTogether (reports_of mailbox plans) (taken_of takes plans)
  pub once : are_distinct (listed_targets (taken_of takes plans)) ≡ true

-- This holds of each submission that a history accepted and each mailbox, by the journal rules that stood at the acceptance.
abbrev pub IsJournaled : Setup → List Entry → Type 0
IsJournaled setup history =
    (number : ℕ) (a : Accepted) (mailbox : List ℕ) → 1 ≤ number → slice_get (accepted setup history) (number - 1) ≡ Some a →
    AreReported mailbox (setup.takes a.org a.submission.reverse mailbox) (categorised_of number history)
