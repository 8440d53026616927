-- The word test: whether a word stands in a text by itself, without case.
use Rattle.std.specs.Prelude.{ℕ, zero, suc, nat_le, Bool, false, not, ◌&&◌, ◌||◌, if◌then◌else◌, List, [], ◌∷◌, length, take, drop, map, slice_index}
use Rattle.std.specs.Str.{bytes_eq, is_utf8, chars, encode_utf8_all}
use Rattle.std.specs.Char.{to_ascii_lowercase, is_ascii_alphanumeric}
use Rattle.caseless.specs.Caseless.{default_case_fold}

-- in default case folding where it is UTF-8 (The Unicode Standard, section 3.13), else with its ASCII letters lowered
abbrev pub folded : List ℕ → List ℕ
folded text = if is_utf8 text then encode_utf8_all (default_case_fold (chars text)) else map to_ascii_lowercase text

-- an ASCII letter, a digit, or a byte of 128 and above
abbrev pub is_word_byte : ℕ → Bool
is_word_byte b = is_ascii_alphanumeric b || nat_le 128 b

-- the first byte is a word byte
abbrev pub begins_in_word : List ℕ → Bool
begins_in_word [] = false
begins_in_word (b ∷ bs) = is_word_byte b

-- a word byte stands right before this place
abbrev pub is_joined : List ℕ → ℕ → Bool
is_joined text zero = false
is_joined text (suc n) = is_word_byte (slice_index text n)

-- the word is the front of this text, and no word byte follows
abbrev pub is_front : List ℕ → List ℕ → Bool
is_front word text = bytes_eq word (take (length word) text) && not (begins_in_word (drop (length word) text))

-- The word stands at some place of the text with no word byte at either side. `joined` says whether one stands before
-- the text.
abbrev pub stands_in : Bool → List ℕ → List ℕ → Bool
stands_in joined word [] = false
stands_in joined word (b ∷ bs) = (not joined && is_front word (b ∷ bs)) || stands_in (is_word_byte b) word bs

-- The word stands in the text by itself, compared without case.
abbrev pub has_word : List ℕ → List ℕ → Bool
has_word word text = stands_in false (folded word) (folded text)
