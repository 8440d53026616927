-- Numbers of 1 to 9 digits.
use Rattle.std.proofs.Common.{◌≡◌, ℕ, ◌+◌, ◌-◌, ◌*◌, ◌^◌, ◌≤◌, ◌<◌, true, List, length, take, get_or, arith}
use Rattle.std.proofs.lemmas.Bool.Decides.{nat_tests}
use Rattle.std.proofs.lemmas.Str.Parse.{digits_value_short}
use Rattle.std.specs.Int.{IsInRange}
use Rattle.std.specs.Str.{all_ascii_digits}
use Rattle.std.specs.Str.Parse.{digits_value}
use Rattle.mail_names.proofs.Offered.{own, digit_in_range, one_more, so_far}
use Rattle.http_head.specs.Fields.{is_length_text}
use Rattle.http_head.proofs.TargetLemmas.{and-right}

are-digits : (ds : List ℕ) → is_length_text ds ≡ true → all_ascii_digits ds ≡ true
are-digits ds h = and-right _ _ (and-right _ _ h)

small : (ds : List ℕ) → is_length_text ds ≡ true → digits_value 10 ds < 10 ^ 9
small ds h = digits_value_short own ds 9 (are-digits ds h) (grind (arith, nat_tests))

-- one more digit of a number
pub record OneMore (ds : List ℕ) (i : ℕ) : Type 0 where
  pub low : 48 ≤ get_or ds i 0
  pub is : digits_value 10 (take i ds) * 10 + (get_or ds i 0 - 48) ≡ digits_value 10 (take (i + 1) ds)
  pub bound : digits_value 10 (take (i + 1) ds) < 10 ^ 9

pub one-more : (ds : List ℕ) (i : ℕ) → i < length ds → is_length_text ds ≡ true → OneMore ds i
one-more ds i h n =
    let range : IsInRange 48 57 (get_or ds i 0) = digit_in_range ds i (are-digits ds n) h in
    record {
      low = omega (arith, range);
      is = one_more ds i (are-digits ds n) h;
      bound = omega (arith, one_more ds i (are-digits ds n) h, so_far ds i (are-digits ds n) h, small ds n);
    }
