-- The two cases of folding, and that it leaves no word empty.
use Rattle.std.proofs.Common.{◌≡◌, ℕ, ◌<◌, ◌≤◌, Bool, true, false, nat_le, List, [], ◌∷◌, ◌++◌, map, length, refl, sym, ap, ◌∙◌, subst, arith, chars, encode_utf8, encode_utf8_all, IsUtf8, leb-true, length-append}
use Rattle.std.specs.Prelude.{if◌then◌else◌}
use Rattle.std.specs.Char.{to_ascii_lowercase}
use Rattle.std.specs.Str.{is_utf8}
use Rattle.std.proofs.lemmas.Bool.{and_parts}
use Rattle.std.proofs.lemmas.Str.{is_utf8-from_IsUtf8, IsUtf8-from_is_utf8, encodes-chars, length-encode, len_utf8_bounds}
use Rattle.caseless.specs.Caseless.{default_case_fold}
use Rattle.caseless.proofs.CaselessLemmas.{default_case_fold-cons, full_fold-none, full_fold-some}
use Rattle.rule_terms.specs.Forms.{is_within, is_word}
use Rattle.rule_match.specs.Words.{folded}

pub folded-utf8 : (text : List ℕ) → IsUtf8 text → folded text ≡ encode_utf8_all (default_case_fold (chars text))
folded-utf8 text h = ap (λ (b : Bool). if b then encode_utf8_all (default_case_fold (chars text)) else map to_ascii_lowercase text) (is_utf8-from_IsUtf8 text h)

pub folded-other : (text : List ℕ) → (IsUtf8 text → ⊥) → folded text ≡ map to_ascii_lowercase text
folded-other text h = by_test (is_utf8 text) refl
  where
    by_test : (b : Bool) → is_utf8 text ≡ b → (if b then encode_utf8_all (default_case_fold (chars text)) else map to_ascii_lowercase text) ≡ map to_ascii_lowercase text
    by_test true e = absurd (h (IsUtf8-from_is_utf8 text e))
    by_test false e = refl

-- a code point folds to itself or to the characters of a table
some_either : (c : ℕ) (table folded : List ℕ) → (length table < 1 → folded ≡ c ∷ []) → (1 ≤ length table → folded ≡ table) → 0 < length folded
some_either c [] folded none some = (let size = ap length (none (omega arith)) in omega arith)
some_either c (x ∷ xs) folded none some = (let size = ap length (some (omega arith)) in omega arith)

some_front : (front back whole : List ℕ) → whole ≡ front ++ back → 0 < length front → 0 < length whole
some_front front back whole e h = (let size = ap length e ∙ length-append front back in omega arith)

some_fold : (cs : List ℕ) → 0 < length cs → 0 < length (default_case_fold cs)
some_fold [] h = absurd (omega arith)
some_fold (c ∷ cs) h =
    some_front _ _ _ (default_case_fold-cons c cs) (some_either c _ _ (full_fold-none c _ refl) (full_fold-some c _ refl))

some_encoded : (cs : List ℕ) → 0 < length cs → 0 < length (encode_utf8_all cs)
some_encoded [] h = absurd (omega arith)
some_encoded (c ∷ cs) h =
    let first = length-encode c in
    let one = (len_utf8_bounds c).0 in
    let size = length-append (encode_utf8 c) (encode_utf8_all cs) in
    omega arith

some_chars : (cs text : List ℕ) → encode_utf8_all cs ≡ text → 0 < length text → 0 < length cs
some_chars [] text e h = (let size = ap length e in omega arith)
some_chars (c ∷ cs) text e h = omega arith

-- a word has a byte when it is folded too
pub folded-some : (word : List ℕ) → is_word word ≡ true → 0 < length (folded word)
folded-some word h =
    let parts = and_parts (is_within 1 256 (length word)) (is_utf8 word) h in
    let size = leb-true 1 (length word) (and_parts (nat_le 1 (length word)) (nat_le (length word) 256) parts.0).0 in
    let text = IsUtf8-from_is_utf8 word parts.1 in
    let some : 0 < length (chars word) = some_chars (chars word) word (encodes-chars word text) (omega arith) in
    let more = some_encoded (default_case_fold (chars word)) (some_fold (chars word) some) in
    subst (λ (b : List ℕ). 0 < length b) (sym (folded-utf8 word text)) more
