-- Numbers as `clap` accepts them.
use Rattle.std.proofs.Common.{◌≡◌, ◌==◌, ◌<◌, ◌≤◌, ◌^◌, ℕ, Bool, true, false, refl, arith, [], ◌∷◌, None}
use Rattle.std.specs.Str.{bytes_eq}
use Rattle.std.specs.Char.{digit_value}
use Rattle.std.specs.Str.Parse.{digits_value, without_leading_plus, IsNumeral}
use Rattle.std.proofs.lemmas.Bool.Decides.{nat_tests}
use Rattle.clap.specs.Lexer.{long_of, short_of}
use Rattle.clap.specs.ValueTests.{accepts}
use Rattle.clap.specs.declared.builder.value_parser.ValueParser.TheVariants as parsers
use Rattle.clap.proofs.ValueTestLemmas.{accepts-Accepts, Accepts-accepts}
use Rattle.command_words.specs.Words.{IsNumber, Text}
use Rattle.command_words.proofs.Steps.{dashes}

-- the number that a text is read as
abbrev pub number_in : Text → ℕ
number_in text = digits_value 10 (without_leading_plus text)

pub number_accepted : (least most : ℕ) (text : Text) → accepts false (parsers.Unsigned least most) text ≡ true → IsNumber least most text (number_in text)
number_accepted least most text h =
    let parts = accepts-Accepts false (parsers.Unsigned least most) text h in
    record { digits = parts.0; value = refl; low = parts.2; high = parts.3 }

pub accepts_number : (least most : ℕ) (text : Text) (n : ℕ) → most < 2 ^ 64 → IsNumber least most text n → accepts false (parsers.Unsigned least most) text ≡ true
accepts_number least most text n bound number =
    let value : n ≡ number_in text = number.value in
    let low : least ≤ number_in text = omega arith in
    let high : number_in text ≤ most = omega arith in
    Accepts-accepts false (parsers.Unsigned least most) text (number.digits, omega arith, low, high)

-- a digit is no hyphen
digit_differs : (x : ℕ) → digit_value x < 10 → (x == 45) ≡ false
digit_differs x h = grind (arith, nat_tests)

first_differs : (x : ℕ) (xs : Text) (is : Bool) → (x == 43) ≡ is → IsNumeral 10 (without_leading_plus (x ∷ xs)) → (x == 45) ≡ false
first_differs x xs true e h = grind (arith, nat_tests)
first_differs x xs false e h =
    let digits : IsNumeral 10 (x ∷ xs) = rw e at h in
    digit_differs x digits.1.0

-- a word that begins with no hyphen
pub record IsNoFlag (word : Text) : Type 0 where
  pub no_dashes : bytes_eq word dashes ≡ false
  pub no_long : long_of word ≡ None
  pub no_short : short_of word ≡ None

no_flag : (x : ℕ) (xs : Text) → (x == 45) ≡ false → IsNoFlag (x ∷ xs)
no_flag x xs e = record { no_dashes = rw e; no_long = rw e; no_short = rw e }

-- a number is no flag
pub number_no_flag : (word : Text) → IsNumeral 10 (without_leading_plus word) → IsNoFlag word
number_no_flag [] h = absurd (omega (arith, h.0))
number_no_flag (x ∷ xs) h = no_flag x xs (first_differs x xs (x == 43) refl h)
