-- The two parts of an organisation's text: the directory, and behind the first line %% the rules.
use Rattle.std.specs.Prelude.{ℕ, zero, suc, ◌+◌, ◌==◌, ◌&&◌, not, length, Bool, true, if◌then◌else◌, List, [], ◌∷◌, take, drop, get_or, Option, Some, None}
use Rattle.std.specs.List.{starts_with}

-- the length of the line %% that stands first, ended by LF or CR LF, or 0
abbrev pub mark_length : List ℕ → ℕ
mark_length rest =
    if starts_with (λ (a b : ℕ). a == b) rest (37 ∷ 37 ∷ 10 ∷ []) then 3
    else (if starts_with (λ (a b : ℕ). a == b) rest (37 ∷ 37 ∷ 13 ∷ 10 ∷ []) then 4 else 0)

-- a line begins at this place
abbrev pub begins_line : List ℕ → ℕ → Bool
begins_line text zero = true
begins_line text (suc before) = get_or text before 0 == 10

-- the line %% begins at this place
abbrev pub is_mark : List ℕ → ℕ → Bool
is_mark text at = begins_line text at && not (mark_length (drop at text) == 0)

-- the first such place of so many from a place on
abbrev pub mark_from : ℕ → List ℕ → ℕ → Option ℕ
mark_from zero text at = None
mark_from (suc count) text at = if is_mark text at then Some at else mark_from count text (at + 1)

-- where the first line %% begins
abbrev pub first_mark : List ℕ → Option ℕ
first_mark text = mark_from (length text) text 0

-- what stands before the line %% at this place, or all where there is none
abbrev pub before : List ℕ → Option ℕ → List ℕ
before text None = text
before text (Some at) = take at text

-- what stands behind the line %% at this place, or nothing where there is none
abbrev pub behind : List ℕ → Option ℕ → List ℕ
behind text None = []
behind text (Some at) = drop (mark_length (drop at text)) (drop at text)

-- the directory's text is what stands before the first line %%, or all
abbrev pub directory_text : List ℕ → List ℕ
directory_text text = before text (first_mark text)

-- the rules' text is what stands behind it
abbrev pub rules_text : List ℕ → List ℕ
rules_text text = behind text (first_mark text)
