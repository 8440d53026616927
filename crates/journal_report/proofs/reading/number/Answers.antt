use Rattle.std.proofs.Common.{◌≡◌, ℕ, ◌^◌, ◌<◌, false, List, Option, Some, None, ap, ◌∙◌, sym, Bool, true, arith}
use Rattle.std.specs.Prelude.{decimal}
use Rattle.std.specs.Option.{SomeIff}
use Rattle.std.specs.Str.{all_ascii_digits}
use Rattle.std.specs.Str.Parse.{digits_value}
use Rattle.std.proofs.lemmas.Fmt.{digits_decimal, digits_value-decimal}
use Rattle.mail_names.proofs.Offered.{own}
use Rattle.journal_report.proofs.reading.number.Goals as goal

reads : (text : List ℕ) (r : Option ℕ) → SomeIff r (digits_value 10 text < 2 ^ 64) (digits_value 10 text) → (n : ℕ) → n < 2 ^ 64 → text ≡ decimal n → r ≡ Some n
reads text None h n small e = absurd (h (fits text n small (ap (digits_value 10) e ∙ digits_value-decimal own n small)))
  where
    fits : (text : List ℕ) (n : ℕ) → n < 2 ^ 64 → digits_value 10 text ≡ n → digits_value 10 text < 2 ^ 64
    fits text n small e = omega arith
reads text (Some x) h n small e = ap (λ (m : ℕ). Some m) (h.1 ∙ ap (digits_value 10) e ∙ digits_value-decimal own n small)

clash : (b : Bool) → b ≡ true → b ≡ false → ⊥
clash b p q = absurd cc

pub returns-then-all_digits : goal.returns-then-all_digits
returns-then-all_digits c = reads c.args.text.now c.value_of.result c.value_of.ensures

pub returns-else-all_digits : goal.returns-else-all_digits
returns-else-all_digits c = λ n small e. absurd (clash (all_ascii_digits c.args.text.now) (ap all_ascii_digits e ∙ digits_decimal own n small) (sym c.all_digits.ensures ∙ c.if-all_digits.false))
