-- Whether a text ends inside a request's target.
use Rattle.std.specs.Prelude.{ℕ, ◌==◌, ◌&&◌, Bool, false, if◌then◌else◌, List, [], ◌∷◌}
use Rattle.std.specs.List.{list_all}
use Rattle.httparse.specs.Grammar.{is_token_byte, is_uri_byte}

-- without the line ends in front: CR LF, or LF alone
abbrev pub behind_empty_lines : List ℕ → List ℕ
behind_empty_lines [] = []
behind_empty_lines (b ∷ []) = if b == 10 then [] else b ∷ []
behind_empty_lines (b ∷ c ∷ bs) = if b == 10 then behind_empty_lines (c ∷ bs) else (if b == 13 && c == 10 then behind_empty_lines bs else b ∷ c ∷ bs)

-- the rest of a method, a space, and octets of a target
abbrev pub in_method : List ℕ → Bool
in_method [] = false
in_method (b ∷ bs) = if b == 32 then list_all is_uri_byte bs else (is_token_byte b && in_method bs)

-- the same, and the method isn't empty
abbrev pub in_target : List ℕ → Bool
in_target [] = false
in_target (b ∷ bs) = is_token_byte b && in_method bs

abbrev pub ends_in_target : List ℕ → Bool
ends_in_target text = in_target (behind_empty_lines text)
