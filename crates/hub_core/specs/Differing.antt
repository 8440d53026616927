-- Where the input of an outcome differs from the one that is asked.
use Rattle.std.specs.Prelude.{◌+◌, ◌==◌, ℕ, Bool, if◌then◌else◌, List, [], ◌∷◌, bytes_eq, option_map, Option, Some, None}
use Rattle.mail_names.specs.declared.gate.Gate.{Gate}
use Rattle.mail_names.specs.Gates.{same_gate}
use Rattle.mail_plan.specs.Planning.{Input}
use Rattle.mail_submission.specs.Submission.{Submitted}
use Rattle.mail_submission.specs.declared.submission.Origin.{Origin}
use Rattle.mail_submission.specs.declared.submission.Origin.TheVariants as origins
use Rattle.hub_core.specs.Setup.{Texts}
use Rattle.hub_core.specs.declared.part.Part.{Part}
use Rattle.hub_core.specs.declared.part.Part.TheVariants as parts
use Rattle.hub_core.specs.declared.part.Difference.{Difference}

-- the least place at which two lists differ or one of them ends
abbrev pub place_where : {X : Type 0} → (X → X → Bool) → List X → List X → Option ℕ
place_where same [] [] = None
place_where same [] (y ∷ ys) = Some 0
place_where same (x ∷ xs) [] = Some 0
place_where same (x ∷ xs) (y ∷ ys) = if same x y then option_map (λ n. n + 1) (place_where same xs ys) else Some 0

abbrev pub bytes_differ : List ℕ → List ℕ → Option ℕ
bytes_differ a b = place_where (λ x y. x == y) a b

abbrev pub keys_differ : List (List ℕ) → List (List ℕ) → Option ℕ
keys_differ a b = place_where bytes_eq a b

abbrev pub gates_differ : List Gate → List Gate → Option ℕ
gates_differ a b = place_where same_gate a b

abbrev pub numbers_differ : ℕ → ℕ → Option ℕ
numbers_differ a b = if a == b then None else Some 0

-- 0 where only one has a value
abbrev pub options_differ : {X : Type 0} → (X → X → Option ℕ) → Option X → Option X → Option ℕ
options_differ differ None None = None
options_differ differ None (Some b) = Some 0
options_differ differ (Some a) None = Some 0
options_differ differ (Some a) (Some b) = differ a b

abbrev pub origins_differ : Origin → Origin → Option ℕ
origins_differ origins.Smtp origins.Smtp = None
origins_differ origins.Smtp (origins.Pickup mark) = Some 0
origins_differ (origins.Pickup mark) origins.Smtp = Some 0
origins_differ (origins.Pickup mark) (origins.Pickup other) = bytes_differ mark other

-- the place in a part, or else what differs behind it
abbrev pub or_behind : Part → Option ℕ → Option Difference → Option Difference
or_behind part (Some at) behind = Some (record { part = part; at = at })
or_behind part None behind = behind

-- the first part in which two submissions differ
abbrev pub submissions_differ : Submitted → Submitted → Option Difference
submissions_differ a b =
    or_behind parts.Origin (origins_differ a.origin b.origin)
    (or_behind parts.Reverse (options_differ bytes_differ a.reverse b.reverse)
    (or_behind parts.Recipients (keys_differ a.recipients b.recipients)
    (or_behind parts.Content (bytes_differ a.bytes b.bytes) None)))

abbrev pub orgs_differ : Texts → Texts → Option Difference → Option Difference
orgs_differ a b behind =
    or_behind parts.Directory (bytes_differ a.directory b.directory) (or_behind parts.Rules (bytes_differ a.rules b.rules) behind)

-- the first part in which an input and its organisation differ from others, and the place in it
abbrev pub first_difference : Input → Texts → Input → Texts → Option Difference
first_difference a own b other =
    or_behind parts.Epoch (numbers_differ a.epoch b.epoch)
    (orgs_differ own other
    (or_behind parts.Accepted (numbers_differ a.accepted_at b.accepted_at)
    (or_behind parts.Made (numbers_differ a.made b.made)
    (or_behind parts.Before (options_differ gates_differ a.before b.before)
    (or_behind parts.Opened (gates_differ a.opened b.opened) (submissions_differ a.submission b.submission))))))
