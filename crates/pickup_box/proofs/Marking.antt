-- A mark is the name of a file that was begun.
use Rattle.std.proofs.Common.{◌≡◌, ℕ, zero, suc, ◌<◌, ◌^◌, Bool, true, false, cond, List, [], ◌∷◌, length, get_or, refl, ap, ◌∙◌, sym, subst, arith}
use Rattle.std.specs.Prelude.{◌==◌, ◌&&◌, not, decimal, is_some, Some}
use Rattle.std.specs.Char.{is_ascii_digit}
use Rattle.std.specs.List.{list_all}
use Rattle.std.specs.Str.{all_ascii_digits}
use Rattle.std.proofs.lemmas.Fmt.{digits_decimal, decimal-digits_value, decimal_nonempty, first_decimal}
use Rattle.mail_names.proofs.Offered.{own}
use Rattle.mail_names.specs.Names.{is_short}
use Rattle.pickup_box.specs.FileNames.{is_number, is_begun, begun_stem, begun_name}
use Rattle.pickup_box.specs.Works.{mark_of, stem_of}
use Rattle.pickup_box.proofs.Naming.{begun_only}

no_zero : (n d e : ℕ) (ds : List ℕ) → n < 2 ^ 64 → decimal n ≡ d ∷ e ∷ ds → d ≡ 48 → ⊥
no_zero zero d e ds small is first = (let one = ap length (sym zero_text ∙ is) in omega arith)
  where
    zero_text : decimal 0 ≡ 48 ∷ []
    zero_text = decimal-digits_value own (48 ∷ []) refl (omega arith) (λ e. refl) (omega arith)
no_zero (suc n) d e ds small is first =
    let above : 48 < d = subst (λ (x : List ℕ). 48 < get_or x 0 0) is (first_decimal (suc n) (omega arith) small) in
    omega arith

differs : (d : ℕ) → (d ≡ 48 → ⊥) → not (d == 48) ≡ true
differs d h = by (d == 48) refl
  where
    same : (d : ℕ) → (d == 48) ≡ true → d ≡ 48
    same d e = grind arith

    by : (b : Bool) → (d == 48) ≡ b → not b ≡ true
    by true e = absurd (h (same d e))
    by false e = refl

short_written : (n : ℕ) (ds : List ℕ) → n < 2 ^ 64 → decimal n ≡ ds → is_short ds ≡ true
short_written n [] small e = (let size = ap length e in let some = decimal_nonempty n small in absurd (omega arith))
short_written n (d ∷ []) small e = refl
short_written n (d ∷ c ∷ ds) small e = differs d (λ first. no_zero n d c ds small e first)

all_same : (ds : List ℕ) → all_ascii_digits ds ≡ list_all is_ascii_digit ds
all_same [] = refl
all_same (d ∷ ds) = ap (λ t. is_ascii_digit d && t) (all_same ds)

number_written : (n : ℕ) → n < 2 ^ 64 → is_number (decimal n) ≡ true
number_written n small = ap (λ t. t && list_all is_ascii_digit (decimal n)) (short_written n (decimal n) small refl) ∙ sym (all_same (decimal n)) ∙ digits_decimal own n small

begun_marked : (stem : List ℕ) (n : ℕ) → n < 2 ^ 64 → begun_stem (begun_name stem n) ≡ Some stem
begun_marked stem n small = begun_only (begun_name stem n) stem (record { digits = decimal n; number = number_written n small; is = refl })

pub marks_same : (name : List ℕ) (number other : ℕ) → number < 2 ^ 64 → mark_of (mark_of name number) other ≡ mark_of name number
marks_same name number other small = by (is_begun name) refl
  where
    kept : (mark : List ℕ) → is_begun mark ≡ true → mark_of mark other ≡ mark
    kept mark h = ap (λ t. cond t mark (begun_name (stem_of mark) other)) h

    by : (t : Bool) → is_begun name ≡ t → mark_of (mark_of name number) other ≡ mark_of name number
    by true e =
        let same : mark_of name number ≡ name = ap (λ t. cond t name (begun_name (stem_of name) number)) e in
        kept (mark_of name number) (ap is_begun same ∙ e)
    by false e =
        let same : mark_of name number ≡ begun_name (stem_of name) number = ap (λ t. cond t name (begun_name (stem_of name) number)) e in
        kept (mark_of name number) (ap is_begun same ∙ ap is_some (begun_marked (stem_of name) number small))
