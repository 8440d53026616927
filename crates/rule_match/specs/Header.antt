-- The end of a message's header.
use Rattle.std.specs.Prelude.{ℕ, ◌==◌, ◌&&◌, Bool, true, false, if◌then◌else◌, List, [], ◌∷◌}

-- what stands behind the first empty line, where `starts` says whether a line begins here
abbrev pub behind_blank : Bool → List ℕ → List ℕ
behind_blank starts [] = []
behind_blank starts (b ∷ []) = []
behind_blank starts (b ∷ c ∷ bs) =
    if b == 13 && c == 10 then (if starts then bs else behind_blank true bs) else behind_blank false (c ∷ bs)
