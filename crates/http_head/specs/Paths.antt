-- The parts of a path, which slashes part.
use Rattle.std.specs.Prelude.{ℕ, zero, suc, ◌==◌, Bool, List}
use Rattle.std.specs.List.{before_first, after_first}

abbrev pub is_byte : ℕ → ℕ → Bool
is_byte b c = c == b

-- what stands behind the first so many slashes of a path
abbrev pub behind_slashes : ℕ → List ℕ → List ℕ
behind_slashes zero path = path
behind_slashes (suc n) path = behind_slashes n (after_first (is_byte 47) path)

-- The part of a path behind its first n slashes, up to the next slash. That of 1 in /a/b is a.
abbrev pub path_part : ℕ → List ℕ → List ℕ
path_part n path = before_first (is_byte 47) (behind_slashes n path)
