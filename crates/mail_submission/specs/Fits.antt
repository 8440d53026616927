-- Which submissions there are, of all that the types of their fields may hold.
use Rattle.std.specs.Prelude.{◌≡◌, ⊤, ℕ, ◌^◌, ◌<◌, List, length, Option, IfSome, Ok}
use Rattle.std.specs.List.{AllByRecursion}
use Rattle.mail_names.specs.Key.{IsKey}
use Rattle.mail_submission.specs.Submission.{Submitted, submission_of}
use Rattle.mail_submission.specs.declared.submission.Origin.{Origin}
use Rattle.mail_submission.specs.declared.submission.Origin.TheVariants as origins

abbrev pub IsU32 : ℕ → Type 0
IsU32 n = n < 2 ^ 32

abbrev pub IsU64 : ℕ → Type 0
IsU64 n = n < 2 ^ 64

-- bytes whose count is a u64
abbrev pub IsBytes : List ℕ → Type 0
IsBytes bytes = IsU64 (length bytes)

abbrev pub IsKeyOption : Option (List ℕ) → Type 0
IsKeyOption key = IfSome key IsKey

-- a list of such values, whose count is a u32
abbrev pub IsListOf : {X : Type 0} → (X → Type 0) → List X → Type 0
IsListOf Is values = IsU32 (length values) × AllByRecursion Is values

abbrev pub IsOrigin : Origin → Type 0
IsOrigin origins.Smtp = ⊤
IsOrigin (origins.Pickup mark) = IsBytes mark

-- what `Submission::new` makes of its parts
pub record IsSubmission (s : Submitted) : Type 0 where
  pub origin : IsOrigin s.origin
  pub reverse : IsKeyOption s.reverse
  pub recipients : IsListOf IsKey s.recipients
  pub bytes : IsBytes s.bytes
  pub made : submission_of s.origin s.reverse s.recipients s.bytes ≡ Ok s
