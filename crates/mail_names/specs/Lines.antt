-- A text as its lines (RFC 5321 section 2.3.8: a line ends with CR LF, and neither ends it alone).
use Rattle.std.specs.Prelude.{ℕ, ◌==◌, ◌&&◌, if◌then◌else◌, List, [], ◌∷◌}

-- the lines of a text, without their ends, and what stands behind the last end
pub record Lines : Type 0 where
  pub lines : List (List ℕ)
  pub left : List ℕ

-- a byte before the first line
abbrev pub onto : ℕ → List (List ℕ) → List ℕ → Lines
onto b [] left = record { lines = []; left = b ∷ left }
onto b (line ∷ lines) left = record { lines = (b ∷ line) ∷ lines; left = left }

-- A line is what stands before the first CR LF, and the next begins behind it.
unfoldable pub lines_of : List ℕ → Lines
lines_of [] = record { lines = []; left = [] }
lines_of (b ∷ []) = record { lines = []; left = b ∷ [] }
lines_of (b ∷ c ∷ bs) =
    if b == 13 && c == 10
    then record { lines = [] ∷ (lines_of bs).lines; left = (lines_of bs).left }
    else onto b (lines_of (c ∷ bs)).lines (lines_of (c ∷ bs)).left
