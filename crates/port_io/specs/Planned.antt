-- Which calls to come are planned to fail.
use Rattle.std.specs.Prelude.{ℕ, ◌==◌, Bool, false, List, [], ◌∷◌}

-- The next call fails where its byte is 1.
abbrev pub next_fails : List ℕ → Bool
next_fails [] = false
next_fails (b ∷ ahead) = b == 1
