-- The addresses that stand in the value of a field.
use Rattle.std.specs.Prelude.{◌≡◌, ℕ, ◌+◌, ◌==◌, ◌&&◌, not, Bool, true, false, if◌then◌else◌, List, [], ◌∷◌, take, Option, Some, None, unwrap_or, position}
use Rattle.std.specs.List.{filter_map}
use Rattle.std.specs.Option.{option_map}
use Rattle.mail_message.specs.Message.{trim}
use Rattle.pickup_box.specs.declared.addresses.Inside.{Inside}
use Rattle.pickup_box.specs.declared.addresses.Inside.TheVariants as inside

-- Where the bytes behind this one stand. Inside quotes, angle brackets or parentheses the marks of the others mean
-- nothing, none of them nests, and a backslash in quotes takes the next byte with it.
abbrev pub behind : Inside → ℕ → Inside
behind inside.Nothing b =
    if b == 34 then inside.Quotes
    else (if b == 60 then inside.Angles
    else (if b == 40 then inside.Parentheses else inside.Nothing))
behind inside.Quotes b =
    if b == 34 then inside.Nothing
    else (if b == 92 then inside.Escape else inside.Quotes)
behind inside.Escape b = inside.Quotes
behind inside.Angles b = if b == 62 then inside.Nothing else inside.Angles
behind inside.Parentheses b = if b == 41 then inside.Nothing else inside.Parentheses

abbrev pub is_nothing : Inside → Bool
is_nothing inside.Nothing = true
is_nothing inside.Quotes = false
is_nothing inside.Escape = false
is_nothing inside.Angles = false
is_nothing inside.Parentheses = false

abbrev pub is_quoted : Inside → Bool
is_quoted inside.Nothing = false
is_quoted inside.Quotes = true
is_quoted inside.Escape = true
is_quoted inside.Angles = false
is_quoted inside.Parentheses = false

-- a byte before the first piece
abbrev pub onto : ℕ → List (List ℕ) → List (List ℕ)
onto b [] = (b ∷ []) ∷ []
onto b (piece ∷ pieces) = (b ∷ piece) ∷ pieces

-- The pieces of a value: it is split at each comma that stands inside nothing.
abbrev pub pieces : Inside → List ℕ → List (List ℕ)
pieces at [] = [] ∷ []
pieces at (b ∷ bs) =
    if b == 44 && is_nothing at then [] ∷ pieces inside.Nothing bs
    else onto b (pieces (behind at b) bs)

-- what stands before the first >, where there is one
abbrev pub closed : List ℕ → Option (List ℕ)
closed bs = option_map (λ n. take n bs) (position (λ b. b == 62) bs)

-- what stands between the first < outside quotes and the next >
abbrev pub angled : Inside → List ℕ → Option (List ℕ)
angled at [] = None
angled at (b ∷ bs) = if b == 60 && not (is_quoted at) then closed bs else angled (behind at b) bs

abbrev pub address_or : List ℕ → List ℕ → Option (List ℕ)
address_or piece [] = None
address_or piece (b ∷ bs) = Some (unwrap_or (angled inside.Nothing piece) (b ∷ bs))

-- The address of a piece: what its angle brackets hold, or else the whole without spaces and tabs at both ends. A
-- piece of spaces and tabs alone has none.
abbrev pub address_in : List ℕ → Option (List ℕ)
address_in piece = address_or piece (trim piece)

-- the addresses of a value, in order
abbrev pub addresses : List ℕ → List (List ℕ)
addresses value = filter_map address_in (pieces inside.Nothing value)

-- how many bytes the first piece has
abbrev pub first_len : Inside → List ℕ → ℕ
first_len at [] = 0
first_len at (b ∷ bs) = if b == 44 && is_nothing at then 0 else first_len (behind at b) bs + 1

-- None of these is split, the first of them beginning here.
abbrev pub AreWhole : Inside → List (List ℕ) → Type 0
AreWhole at [] = Unit {0}
AreWhole at (piece ∷ others) = (pieces at piece ≡ piece ∷ []) × AreWhole inside.Nothing others
