-- How far a head that comes in pieces was looked at.
use Rattle.std.specs.Prelude.{◌≡◌, ℕ, ◌≤◌, ◌++◌, true, false, List, length, take, Option, Some, None}
use Rattle.std.specs.List.{list_all}
use Rattle.http_head.specs.declared.head.Head.{Head}
use Rattle.http_head.specs.declared.head.Head.TheVariants as heads
use Rattle.http_head.specs.declared.progress.Progress.{Progress}
use Rattle.http_head.specs.Heads.{is_line_end, HasNoHead}

-- The octets that were looked at are the first of this text. No head within the limits is whole in them, and where it
-- hasn't begun they are CRs and LFs alone.
pub record IsProgress (progress : Progress) (text : List ℕ) : Type 0 where
  pub within : progress.seen ≤ length text
  pub none : HasNoHead (take progress.seen text)
  pub blank : progress.has_begun ≡ false → list_all is_line_end (take progress.seen text) ≡ true

-- It is so whatever follows the text, if the head is neither whole nor refused.
abbrev pub GoesOn : Option Head → Progress → List ℕ → Type 0
GoesOn None progress text = (more : List ℕ) → IsProgress progress (text ++ more)
GoesOn (Some heads.Open) progress text = (more : List ℕ) → IsProgress progress (text ++ more)
GoesOn (Some (heads.Refused fault)) progress text = Unit {0}
GoesOn (Some (heads.Whole routed target_start target_end body_start)) progress text = Unit {0}
