-- The line ends of a file.
use Rattle.std.specs.Prelude.{ℕ, ◌==◌, Bool, if◌then◌else◌, List, [], ◌∷◌}
use Rattle.std.specs.List.{list_any, flat_map}
use Rattle.mail_message.specs.Lines.{crlf}

-- CR = %d13
abbrev pub has_cr : List ℕ → Bool
has_cr file = list_any (λ b. b == 13) file

-- LF = %d10, for which CRLF stands
abbrev pub ended_line : ℕ → List ℕ
ended_line b = if b == 10 then crlf else b ∷ []

-- In a file without any CR each LF is read as CRLF.
abbrev pub with_crlf : List ℕ → List ℕ
with_crlf file = if has_cr file then file else flat_map ended_line file
