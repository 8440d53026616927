-- Marks on places, and the places that get a mark.
use Rattle.std.specs.Prelude.{ℕ, Bool, true, false, List, [], ◌∷◌, ◌++◌, get_or, slice_set}

-- the place, unless it had a mark
abbrev pub new_at : Bool → ℕ → List ℕ
new_at true p = []
new_at false p = p ∷ []

-- the marks, with these places marked
abbrev pub marked : List Bool → List ℕ → List Bool
marked marks [] = marks
marked marks (p ∷ ps) = marked (slice_set marks p true) ps

-- the places that had no mark, each once
abbrev pub newly : List Bool → List ℕ → List ℕ
newly marks [] = []
newly marks (p ∷ ps) = new_at (get_or marks p false) p ++ newly (slice_set marks p true) ps
