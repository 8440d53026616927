-- The Message-Id of the hub's own has bytes of 32 to 126 alone.
use Rattle.std.proofs.Common.{◌≡◌, ℕ, ◌<◌, ◌^◌, Bool, true, false, List, [], ◌∷◌, refl, ap, ◌∙◌, arith}
use Rattle.std.specs.Prelude.{◌&&◌, nat_le, codes, decimal}
use Rattle.std.specs.Char.{is_ascii_digit}
use Rattle.std.specs.Str.{all_ascii_digits}
use Rattle.std.proofs.lemmas.List.Folds.{list_all-append}
use Rattle.std.proofs.lemmas.Fmt.{digits_decimal}
use Rattle.mail_names.proofs.Offered.{own}
use Rattle.mail_message.specs.Lines.{is_printable}
use Rattle.mail_submission.specs.Base.{id_text}

both : (a b : Bool) → a ≡ true → b ≡ true → (a && b) ≡ true
both a b p q = ap (λ x. x && b) p ∙ q

parts : (a b : Bool) → (a && b) ≡ true → (a ≡ true) × (b ≡ true)
parts true b h = (refl, h)
parts false b h = absurd cc

digit_printable : (b : ℕ) → is_ascii_digit b ≡ true → (nat_le 32 b && nat_le b 126) ≡ true
digit_printable b h = grind arith

digits_printable : (ds : List ℕ) → all_ascii_digits ds ≡ true → is_printable ds ≡ true
digits_printable [] h = refl
digits_printable (d ∷ ds) h = let both' = parts (is_ascii_digit d) (all_ascii_digits ds) h in both _ _ (digit_printable d both'.0) (digits_printable ds both'.1)

-- <N@hub.invalid>
pub id_printable : (n : ℕ) → n < 2 ^ 64 → is_printable (id_text n) ≡ true
id_printable n small =
    let digits = digits_printable (decimal n) (digits_decimal own n small) in
    list_all-append (λ b. nat_le 32 b && nat_le b 126) (decimal n) (codes "@hub.invalid>") ∙ both _ _ digits refl
