-- What `Submission::new` makes of its parts is a submission of these parts.
use Rattle.std.proofs.Common.{◌≡◌, ℕ, Bool, true, false, cond, List, length, Option, Result, Ok, Err}
use Rattle.std.specs.Prelude.{nat_lt}
use Rattle.mail_message.specs.Message.{Mail}
use Rattle.mail_message.specs.ReadOf.{read_of}
use Rattle.mail_message.specs.declared.fault.MessageFault.{MessageFault}
use Rattle.mail_submission.specs.declared.submission.Origin.{Origin}
use Rattle.mail_submission.specs.declared.submission.SubmissionFault.TheVariants as faults
use Rattle.mail_submission.specs.Submission.{Submitted, submission_read, submission_of}

by_cases : (some many : Bool) (read : Result Mail MessageFault) (t s : Submitted) → cond some (cond many (Err faults.TooManyRecipients) (submission_read t read)) (Err faults.NoRecipients) ≡ Ok s → t ≡ s
by_cases false many read t s is = absurd (cc is)
by_cases true true read t s is = absurd (cc is)
by_cases true false (Err e) t s is = absurd (cc is)
by_cases true false (Ok m) t s is = cc is

pub made_of : (origin : Origin) (reverse : Option (List ℕ)) (recipients : List (List ℕ)) (bytes : List ℕ) (s : Submitted) → submission_of origin reverse recipients bytes ≡ Ok s
    → record { origin = origin; reverse = reverse; recipients = recipients; bytes = bytes } ≡ s
made_of origin reverse recipients bytes s is = by_cases (nat_lt 0 (length recipients)) (nat_lt 1000 (length recipients)) (read_of bytes) _ s is
