-- Which entries there are, of all that the types of their fields may hold.
use Rattle.std.specs.Prelude.{ℕ, List}
use Rattle.mail_names.specs.Key.{IsKey}
use Rattle.mail_names.specs.declared.name.ApprovalName.{ApprovalName}
use Rattle.mail_names.specs.Names.{IsApprovalName}
use Rattle.moderation.specs.declared.approval.Verdict.{Verdict}
use Rattle.mail_submission.specs.Submission.{Submitted}
use Rattle.mail_plan.specs.declared.release.Release.{Release}
use Rattle.log_entry.specs.declared.entry.Entry.{Entry}
use Rattle.log_entry.specs.declared.entry.Entry.TheVariants as entries
use Rattle.mail_submission.specs.Fits.{IsU32, IsU64, IsBytes, IsSubmission}
use Rattle.mail_plan.specs.Fits.{IsName, IsRelease}

abbrev pub IsOrganised : List ℕ × List ℕ → Type 0
IsOrganised texts = IsBytes texts.0 × IsBytes texts.1

abbrev pub IsAccepted : ℕ × Submitted → Type 0
IsAccepted accepted = IsU64 accepted.0 × IsSubmission accepted.1

abbrev pub IsCategorised : ℕ × ℕ × Release → Type 0
IsCategorised made = IsU64 made.0 × IsU32 made.1 × IsRelease made.2

abbrev pub IsDecided : ApprovalName × List ℕ × Verdict × ℕ → Type 0
IsDecided decided = IsApprovalName decided.0 × IsKey decided.1 × IsU64 decided.3

abbrev pub IsEntry : Entry → Type 0
IsEntry (entries.Organised directory rules) = IsOrganised (directory, rules)
IsEntry (entries.Accepted moment submission) = IsAccepted (moment, submission)
IsEntry (entries.Categorised number release plan) = IsCategorised (number, release, plan)
IsEntry (entries.Decided approval by verdict moment) = IsDecided (approval, by, verdict, moment)
IsEntry (entries.Moment moment) = IsU64 moment
IsEntry (entries.Delivered name) = IsName name
IsEntry (entries.Delayed name) = IsName name
IsEntry (entries.Ended name) = IsName name
IsEntry (entries.Forgot number) = IsU64 number
