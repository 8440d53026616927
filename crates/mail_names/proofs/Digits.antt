-- The value of digits, step by step.
use Rattle.std.proofs.Common.{◌≡◌, ℕ, zero, suc, ◌+◌, ◌-◌, ◌*◌, ◌^◌, ◌<◌, ◌≤◌, Bool, true, false, cond, List, [], ◌∷◌, length, get_or, take, drop, Option, Some, None, refl, ap, ◌∙◌, sym, subst, arith}
use Rattle.std.specs.Prelude.{◌&&◌, ◌==◌, not, decimal, IfSome, IfNone}
use Rattle.std.specs.Option.{SomeIff}
use Rattle.std.specs.Char.{is_ascii_digit}
use Rattle.std.specs.Int.{IsInRange}
use Rattle.std.specs.List.{prefix_len}
use Rattle.std.specs.Str.{all_ascii_digits}
use Rattle.std.specs.Str.Parse.{digits_value}
use Rattle.std.proofs.lemmas.List.{take_all}
use Rattle.std.proofs.lemmas.Str.{digit_value_digit}
use Rattle.std.proofs.lemmas.Str.Parse.{IsNumeralModel, numerals_by_value, tells_all_ascii_digits, digit_at, digits_value-take-le}
use Rattle.std.proofs.lemmas.Int.Digits.{digits_value_more}
use Rattle.std.proofs.lemmas.Fmt.{digits_value-decimal, decimal-digits_value, decimal_nonempty, first_decimal}
use Rattle.mail_names.specs.Names.{is_short, begins_with_digit}

pub own : IsNumeralModel (λ ds. all_ascii_digits ds ≡ true) (digits_value 10)
own = numerals_by_value _ tells_all_ascii_digits

pub digit_in_range : (ds : List ℕ) (i : ℕ) → all_ascii_digits ds ≡ true → i < length ds → IsInRange 48 57 (get_or ds i 0)
digit_in_range ds i digits h = digit_at ds i (own.to ds digits) h

pub one_more : (ds : List ℕ) (i : ℕ) → all_ascii_digits ds ≡ true → i < length ds → digits_value 10 (take i ds) * 10 + (get_or ds i 0 - 48) ≡ digits_value 10 (take (i + 1) ds)
one_more ds i digits h =
    let range = digit_in_range ds i digits h in
    let value = digit_value_digit (get_or ds i 0) range in
    let more = digits_value_more 10 ds i h in
    omega arith

pub so_far : (ds : List ℕ) (i : ℕ) → all_ascii_digits ds ≡ true → i < length ds → digits_value 10 (take i ds) * 10 + (get_or ds i 0 - 48) ≤ digits_value 10 ds
so_far ds i digits h =
    let more = one_more ds i digits h in
    let part = digits_value-take-le 10 ds (i + 1) (omega arith) in
    omega arith

pub whole : (ds : List ℕ) (i : ℕ) → length ds ≤ i → take i ds ≡ ds
whole ds i h = take_all i ds h

no_zero : (n d e : ℕ) (ds : List ℕ) → n < 2 ^ 64 → decimal n ≡ d ∷ e ∷ ds → d ≡ 48 → ⊥
no_zero zero d e ds small is first = (let one = ap length (sym zero_text ∙ is) in omega arith)
  where
    zero_text : decimal 0 ≡ 48 ∷ []
    zero_text = decimal-digits_value own (48 ∷ []) refl (omega arith) (λ e. refl) (omega arith)
no_zero (suc n) d e ds small is first =
    let above : 48 < d = subst (λ (x : List ℕ). 48 < get_or x 0 0) is (first_decimal (suc n) (omega arith) small) in
    omega arith

differs : (d : ℕ) → (d ≡ 48 → ⊥) → not (d == 48) ≡ true
differs d h = by (d == 48) refl
  where
    same : (d : ℕ) → (d == 48) ≡ true → d ≡ 48
    same d e = grind arith

    by : (b : Bool) → (d == 48) ≡ b → not b ≡ true
    by true e = absurd (h (same d e))
    by false e = refl

pub value_written : (n : ℕ) (ds : List ℕ) → n < 2 ^ 64 → decimal n ≡ ds → digits_value 10 ds ≡ n
value_written n ds small e = ap (digits_value 10) (sym e) ∙ digits_value-decimal own n small

-- what is written for a number has no leading zero
pub short_written : (n : ℕ) (ds : List ℕ) → n < 2 ^ 64 → decimal n ≡ ds → is_short ds ≡ true
short_written n [] small e = (let size = ap length e in let some = decimal_nonempty n small in absurd (omega arith))
short_written n (d ∷ []) small e = refl
short_written n (d ∷ c ∷ ds) small e = differs d (λ first. no_zero n d c ds small e first)

pub not_written : (ds : List ℕ) → is_short ds ≡ false → (n : ℕ) → n < 2 ^ 64 → decimal n ≡ ds → ⊥
not_written ds long n small e = (let short = short_written n ds small e in absurd cc)

-- digits without a leading zero are what is written for their value
pub written : (ds : List ℕ) → all_ascii_digits ds ≡ true → is_short ds ≡ true → digits_value 10 ds < 2 ^ 64 → decimal (digits_value 10 ds) ≡ ds
written [] digits short fits = absurd cc
written (d ∷ []) digits short fits = decimal-digits_value own (d ∷ []) digits (omega arith) (λ e. refl) fits
written (d ∷ c ∷ ds) digits short fits = decimal-digits_value own (d ∷ c ∷ ds) digits (omega arith) (λ e. absurd (no_zero_first d e short)) fits
  where
    no_zero_first : (d : ℕ) → d ≡ 48 → not (d == 48) ≡ true → ⊥
    no_zero_first d e h = grind arith

pub written_value : (ds : List ℕ) (r : Option ℕ) → all_ascii_digits ds ≡ true → is_short ds ≡ true → SomeIff r (digits_value 10 ds < 2 ^ 64) (digits_value 10 ds)
    → IfSome r (λ n. decimal n ≡ ds)
written_value ds None digits short h = tt
written_value ds (Some v) digits short h = ap decimal h.1 ∙ written ds digits short h.0

pub too_large_value : (ds : List ℕ) (r : Option ℕ) → SomeIff r (digits_value 10 ds < 2 ^ 64) (digits_value 10 ds) → IfNone r ((n : ℕ) → n < 2 ^ 64 → decimal n ≡ ds → ⊥)
too_large_value ds None h = λ n small e. h (let value = value_written n ds small e in omega arith)
too_large_value ds (Some v) h = tt

-- what holds in any case holds of None
pub if_none : {T : Type 0} (r : Option T) (P : Type 0) → P → IfNone r P
if_none None P p = p
if_none (Some x) P p = tt

pub not_some : {T : Type 0} (r : Option T) (P : Type 0) (v : T) → r ≡ None → ¬ P → SomeIff r P v
not_some None P v e fails = fails
not_some (Some x) P v e fails = absurd cc

both : (a b : Bool) → (a && b) ≡ true → (a ≡ true) × (b ≡ true)
both true b h = (refl, h)
both false b h = absurd cc

-- the digits at the front
pub front_digits : (text : List ℕ) → all_ascii_digits (take (prefix_len is_ascii_digit text) text) ≡ true
front_digits [] = refl
front_digits (b ∷ text) = by (is_ascii_digit b) refl (front_digits text)
  where
    one_plus : (n : ℕ) → 1 + n ≡ suc n
    one_plus n = omega arith

    and_true : (a c : Bool) → a ≡ true → c ≡ true → (a && c) ≡ true
    and_true a c p q = ap (λ x. x && c) p ∙ q

    by : (d : Bool) → is_ascii_digit b ≡ d → all_ascii_digits (take (prefix_len is_ascii_digit text) text) ≡ true
        → all_ascii_digits (take (cond d (1 + prefix_len is_ascii_digit text) 0) (b ∷ text)) ≡ true
    by false e more = refl
    by true e more =
        ap (λ n. all_ascii_digits (take n (b ∷ text))) (one_plus (prefix_len is_ascii_digit text))
        ∙ and_true (is_ascii_digit b) (all_ascii_digits (take (prefix_len is_ascii_digit text) text)) e more

-- what stands behind them
pub behind_digits : (text : List ℕ) → begins_with_digit (drop (prefix_len is_ascii_digit text) text) ≡ false
behind_digits [] = refl
behind_digits (b ∷ text) = by (is_ascii_digit b) refl (behind_digits text)
  where
    one_plus : (n : ℕ) → 1 + n ≡ suc n
    one_plus n = omega arith

    by : (d : Bool) → is_ascii_digit b ≡ d → begins_with_digit (drop (prefix_len is_ascii_digit text) text) ≡ false
        → begins_with_digit (drop (cond d (1 + prefix_len is_ascii_digit text) 0) (b ∷ text)) ≡ false
    by false e more = e
    by true e more = ap (λ n. begins_with_digit (drop n (b ∷ text))) (one_plus (prefix_len is_ascii_digit text)) ∙ more
