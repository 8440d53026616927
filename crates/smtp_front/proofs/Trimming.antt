-- A byte more at the end of a line that is trimmed.
use Rattle.std.proofs.Common.{◌≡◌, ℕ, ◌+◌, ◌-◌, ◌<◌, ◌≤◌, true, false, cond, List, [], ◌∷◌, ◌++◌, length, get_or, take, refl, ap, ◌∙◌, sym, arith}
use Rattle.std.proofs.lemmas.List.{take_more}
use Rattle.smtp_front.specs.Commands.{is_blank, trim_before, trim}

trim-blank : (xs : List ℕ) (b : ℕ) → is_blank b ≡ true → trim (xs ++ b ∷ []) ≡ trim xs
trim-blank [] b h = ap (λ t. cond t [] (b ∷ [])) h
trim-blank (x ∷ xs) b h = ap (trim_before x) (trim-blank xs b h)

before-cons : (x : ℕ) (xs : List ℕ) (b : ℕ) → trim_before x (xs ++ b ∷ []) ≡ x ∷ (xs ++ b ∷ [])
before-cons x [] b = refl
before-cons x (y ∷ ys) b = refl

trim-mark : (xs : List ℕ) (b : ℕ) → is_blank b ≡ false → trim (xs ++ b ∷ []) ≡ xs ++ b ∷ []
trim-mark [] b h = ap (λ t. cond t [] (b ∷ [])) h
trim-mark (x ∷ xs) b h = ap (trim_before x) (trim-mark xs b h) ∙ before-cons x xs b

last_split : (line : List ℕ) (e : ℕ) → 0 < e → e ≤ length line → take e line ≡ take (e - 1) line ++ get_or line (e - 1) 0 ∷ []
last_split line e some within =
    let back : e ≡ e - 1 + 1 = omega arith in
    ap (λ n. take n line) back ∙ take_more line (e - 1) 0 (omega arith)

pub shorter : (line : List ℕ) (e : ℕ) → 0 < e → e ≤ length line → is_blank (get_or line (e - 1) 0) ≡ true → trim (take (e - 1) line) ≡ trim (take e line)
shorter line e some within h = sym (ap trim (last_split line e some within) ∙ trim-blank (take (e - 1) line) (get_or line (e - 1) 0) h)

pub at_mark : (line : List ℕ) (e : ℕ) → 0 < e → e ≤ length line → is_blank (get_or line (e - 1) 0) ≡ false → take e line ≡ trim (take e line)
at_mark line e some within h =
    let split = last_split line e some within in
    split ∙ sym (ap trim split ∙ trim-mark (take (e - 1) line) (get_or line (e - 1) 0) h)
