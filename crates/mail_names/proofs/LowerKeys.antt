-- A key in lower case reads as the key did.
use Rattle.std.proofs.Common.{◌≡◌, inl, inr, ℕ, ◌+◌, ◌≤◌, Bool, true, false, List, [], ◌∷◌, Option, Some, None, Ok, refl, sym, ◌∙◌, ap, arith}
use Rattle.std.specs.Prelude.{◌==◌, ◌&&◌, ◌||◌, nat_le}
use Rattle.std.specs.List.{list_any}
use Rattle.std.specs.Char.{to_ascii_lowercase}
use Rattle.std.proofs.lemmas.Bool.{cases_lt, le-leb}
use Rattle.std.proofs.lemmas.List.{length-map}
use Rattle.std.proofs.lemmas.Str.Ascii.{lowercase_is, lowercase-lowercase}
use Rattle.mail_names.specs.Key.{is_key_byte, is_bad, is_empty, bad_place, lower, key_without, key_of, IsKey}

or_second : (a c d : Bool) → (a || true || c || d) ≡ true
or_second true c d = refl
or_second false c d = refl

upper_letter : (b : ℕ) → 65 ≤ b → b ≤ 90 → is_key_byte b ≡ true
upper_letter b low high = rw (le-leb 65 b low, le-leb b 90 high) (or_second (nat_le 97 b && nat_le b 122) _ _)

lower_letter : (b : ℕ) → 97 ≤ b → b ≤ 122 → is_key_byte b ≡ true
lower_letter b low high = rw (le-leb 97 b low, le-leb b 122 high) refl

no_at : (b : ℕ) → 65 ≤ b → (b == 64) ≡ false
no_at b low = grind arith

good : (at_end : Bool) (b : ℕ) → is_key_byte b ≡ true → 65 ≤ b → is_bad at_end b ≡ false
good at_end b key low = rw (key, no_at b low) refl

lower_bad : (at_end : Bool) (b : ℕ) → is_bad at_end (to_ascii_lowercase b) ≡ is_bad at_end b
lower_bad at_end b =
    elim (cases_lt b 65) [
      | inl below ↦ ap (is_bad at_end) ((lowercase_is b).1 below)
      | inr low ↦
          elim (cases_lt 90 b) [
            | inl above ↦ ap (is_bad at_end) ((lowercase_is b).2 above)
            | inr high ↦
                ap (is_bad at_end) ((lowercase_is b).0 (low, high))
                ∙ good at_end (b + 32) (lower_letter (b + 32) (omega arith) (omega arith)) (omega arith)
                ∙ sym (good at_end b (upper_letter b low high) low)
          ]
    ]

lower_at : (b : ℕ) → (to_ascii_lowercase b == 64) ≡ (b == 64)
lower_at b = grind (arith, lowercase_is)

lower_empty : (bs : List ℕ) → is_empty (lower bs) ≡ is_empty bs
lower_empty [] = refl
lower_empty (b ∷ bs) = refl

lower_place : (at : ℕ) (bs : List ℕ) → bad_place at (lower bs) ≡ bad_place at bs
lower_place at [] = refl
lower_place at (b ∷ bs) = rw (lower_empty bs, lower_bad (at == 0 || is_empty bs) b, lower_place (at + 1) bs) refl

lower_any : (bs : List ℕ) → list_any (λ b. b == 64) (lower bs) ≡ list_any (λ b. b == 64) bs
lower_any [] = refl
lower_any (b ∷ bs) = rw (lower_at b, lower_any bs) refl

lower_lower : (bs : List ℕ) → lower (lower bs) ≡ lower bs
lower_lower [] = refl
lower_lower (b ∷ bs) = ap (λ (c : ℕ). c ∷ lower (lower bs)) (lowercase-lowercase b) ∙ ap (λ (l : List ℕ). to_ascii_lowercase b ∷ l) (lower_lower bs)

lower_without : (at : Option ℕ) (text : List ℕ) → key_without at (lower text) ≡ key_without at text
lower_without (Some at) text = refl
lower_without None text = rw (lower_any text, lower_lower text) refl

key_of-lower : (text : List ℕ) → key_of (lower text) ≡ key_of text
key_of-lower text = rw (length-map text to_ascii_lowercase, lower_place 0 text, lower_without (bad_place 0 text) text) refl

-- what a text reads to is a key
pub lower_is_key : (text key : List ℕ) → key ≡ lower text → key_of text ≡ Ok key → IsKey key
lower_is_key text key is read = ap key_of is ∙ key_of-lower text ∙ read
