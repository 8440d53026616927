-- Texts whose bytes are all at or above one.
use Rattle.std.proofs.Common.{◌≡◌, ℕ, ◌+◌, ◌^◌, ◌<◌, ◌≤◌, Bool, true, false, cond, List, [], ◌∷◌, ◌++◌, length, refl, ap, ◌∙◌, arith, Option, Some, None, Ok, Err, inl, inr}
use Rattle.std.specs.Prelude.{◌&&◌, ◌||◌, ◌==◌, not, nat_le, nat_lt, decimal}
use Rattle.std.specs.Char.{is_ascii_digit}
use Rattle.std.specs.Str.{all_ascii_digits}
use Rattle.std.specs.List.{list_all}
use Rattle.std.proofs.lemmas.Bool.{cases_lt}
use Rattle.std.proofs.lemmas.Bool.Decides.{nat_tests}
use Rattle.std.proofs.lemmas.List.Folds.{list_all-append}
use Rattle.std.proofs.lemmas.Fmt.{digits_decimal}
use Rattle.mail_names.proofs.Offered.{own}
use Rattle.mail_names.specs.Key.{is_key_byte, is_bad, is_empty, bad_place, key_without, IsKey}
use Rattle.mail_names.specs.declared.key.NameFault.TheVariants as names
use Rattle.mail_names.specs.declared.name.ItemName.{ItemName}
use Rattle.mail_names.specs.declared.name.Mark.{Mark}
use Rattle.mail_names.specs.declared.name.Mark.TheVariants as marks
use Rattle.mail_names.specs.Names.{mark_text, numbers_text, name_text, IsItemName}

abbrev pub above : ℕ → List ℕ → Bool
above n text = list_all (λ b. nat_le n b) text

pub both : (a b : Bool) → a ≡ true → b ≡ true → (a && b) ≡ true
both a b p q = ap (λ x. x && b) p ∙ q

pub parts : (a b : Bool) → (a && b) ≡ true → (a ≡ true) × (b ≡ true)
parts true b h = (refl, h)
parts false b h = absurd cc

pub above-append : (n : ℕ) (a b : List ℕ) → above n a ≡ true → above n b ≡ true → above n (a ++ b) ≡ true
above-append n a b p q = list_all-append (λ b. nat_le n b) a b ∙ both (above n a) (above n b) p q

higher : (b : ℕ) → nat_le 33 b ≡ true → nat_le 32 b ≡ true
higher b h = grind (arith, nat_tests)

-- 33 is above 32
pub lower_bound : (text : List ℕ) → above 33 text ≡ true → above 32 text ≡ true
lower_bound [] h = refl
lower_bound (b ∷ text) h =
    let p = parts (nat_le 33 b) (above 33 text) h in both (nat_le 32 b) (above 32 text) (higher b p.0) (lower_bound text p.1)

digit_above : (b : ℕ) → is_ascii_digit b ≡ true → nat_le 33 b ≡ true
digit_above b h = grind arith

digits_above : (ds : List ℕ) → all_ascii_digits ds ≡ true → above 33 ds ≡ true
digits_above [] h = refl
digits_above (d ∷ ds) h =
    let p = parts (is_ascii_digit d) (all_ascii_digits ds) h in both (nat_le 33 d) (above 33 ds) (digit_above d p.0) (digits_above ds p.1)

pub decimal_above : (n : ℕ) → n < 2 ^ 64 → above 33 (decimal n) ≡ true
decimal_above n small = digits_above (decimal n) (digits_decimal own n small)

mark_above : (mark : Mark) → above 33 (mark_text mark) ≡ true
mark_above marks.Plain = refl
mark_above marks.Gate = refl
mark_above marks.Delay = refl
mark_above marks.Failure = refl

numbers_above : (s r p : ℕ) → s < 2 ^ 64 → r < 2 ^ 64 → p < 2 ^ 64 → above 33 (numbers_text s r p) ≡ true
numbers_above s r p a b c =
    above-append 33 (decimal s) (45 ∷ (decimal r ++ (45 ∷ decimal p))) (decimal_above s a)
    (above-append 33 (decimal r) (45 ∷ decimal p) (decimal_above r b) (decimal_above p c))

pub name_above : (name : ItemName) → IsItemName name → above 33 (name_text name) ≡ true
name_above name is =
    above-append 33 (numbers_text name.submission name.release name.place) (mark_text name.mark)
    (let r = is.release in let p = is.place in numbers_above name.submission name.release name.place is.submission (omega arith) (omega arith)) (mark_above name.mark)

under : (n b : ℕ) → b < n → nat_le n b ≡ false
under n b h = grind (arith, nat_tests)

other : (n b : ℕ) → b < n → (n == b) ≡ false
other n b h = grind (arith, nat_tests)

no_key_byte : (b : ℕ) → b < 33 → is_key_byte b ≡ false
no_key_byte b h =
    rw (under 97 b (omega arith), under 65 b (omega arith), under 48 b (omega arith), other 33 b (omega arith), other 36 b (omega arith), other 38 b (omega arith), other 39 b (omega arith), other 42 b (omega arith), other 43 b (omega arith), other 45 b (omega arith), other 61 b (omega arith), other 95 b (omega arith), other 126 b (omega arith), other 46 b (omega arith), other 64 b (omega arith)) refl

at_least : (b : ℕ) → 33 ≤ b → nat_le 33 b ≡ true
at_least b h = grind (arith, nat_tests)

key_byte_above : (b : ℕ) → is_key_byte b ≡ true → nat_le 33 b ≡ true
key_byte_above b h = elim (cases_lt b 33) [
  | inl low ↦ absurd (let no = no_key_byte b low in cc)
  | inr high ↦ at_least b high
]

good_byte : (at_end : Bool) (b : ℕ) → is_bad at_end b ≡ false → is_key_byte b ≡ true
good_byte at_end b h = by (is_key_byte b) (b == 64 && at_end) h
  where
    by : (key x : Bool) → (not key || x) ≡ false → key ≡ true
    by true x h = refl
    by false x h = absurd cc

no_place : (bad : Bool) (at : ℕ) (o : Option ℕ) → cond bad (Some at) o ≡ None → (bad ≡ false) × (o ≡ None)
no_place true at o h = absurd cc
no_place false at o h = (refl, h)

no_bad_above : (at : ℕ) (text : List ℕ) → bad_place at text ≡ None → above 33 text ≡ true
no_bad_above at [] h = refl
no_bad_above at (b ∷ text) h =
    let p = no_place (is_bad (at == 0 || is_empty text) b) at (bad_place (at + 1) text) h in
    both (nat_le 33 b) (above 33 text) (key_byte_above b (good_byte (at == 0 || is_empty text) b p.0)) (no_bad_above (at + 1) text p.1)

key_tests : (short long : Bool) (o : Option ℕ) (text key : List ℕ) →
    cond short (Err names.TooShort) (cond long (Err names.TooLong) (key_without o text)) ≡ Ok key → o ≡ None
key_tests true long o text key h = absurd cc
key_tests false true o text key h = absurd cc
key_tests false false (Some at) text key h = absurd cc
key_tests false false None text key h = refl

-- a key has no space
pub key_above : (key : List ℕ) → IsKey key → above 33 key ≡ true
key_above key is = no_bad_above 0 key (key_tests (nat_lt (length key) 3) (nat_lt 254 (length key)) (bad_place 0 key) key key is)

no_empty : (key : List ℕ) → IsKey key → 0 < length key
no_empty [] is = absurd cc
no_empty (b ∷ key) is = omega arith

pub key_some : (key : List ℕ) → IsKey key → 0 < length key
key_some key is = no_empty key is
