-- A byte at the end of a text that is trimmed.
use Rattle.std.proofs.Common.{◌≡◌, ℕ, ◌+◌, ◌-◌, ◌≤◌, true, false, cond, List, [], ◌∷◌, ◌++◌, length, take, get_or, refl, ap, ◌∙◌, sym, arith}
use Rattle.std.proofs.Math.Seq.{take-length}
use Rattle.std.proofs.lemmas.List.{take_more}
use Rattle.mail_message.specs.Lines.{is_blank}
use Rattle.mail_message.specs.Message.{end_before, trim_end}

trim-blank : (xs : List ℕ) (b : ℕ) → is_blank b ≡ true → trim_end (xs ++ b ∷ []) ≡ trim_end xs
trim-blank [] b h = ap (λ t. cond t [] (b ∷ [])) h
trim-blank (x ∷ xs) b h = ap (end_before x) (trim-blank xs b h)

before-cons : (x : ℕ) (xs : List ℕ) (b : ℕ) → end_before x (xs ++ b ∷ []) ≡ x ∷ (xs ++ b ∷ [])
before-cons x [] b = refl
before-cons x (y ∷ ys) b = refl

trim-mark : (xs : List ℕ) (b : ℕ) → is_blank b ≡ false → trim_end (xs ++ b ∷ []) ≡ xs ++ b ∷ []
trim-mark [] b h = ap (λ t. cond t [] (b ∷ [])) h
trim-mark (x ∷ xs) b h = ap (end_before x) (trim-mark xs b h) ∙ before-cons x xs b

last_split : (line : List ℕ) → 1 ≤ length line → line ≡ take (length line - 1) line ++ get_or line (length line - 1) 0 ∷ []
last_split line some =
    let back : length line ≡ length line - 1 + 1 = omega arith in
    sym (take-length line) ∙ ap (λ n. take n line) back ∙ take_more line (length line - 1) 0 (omega arith)

pub shorter : (line : List ℕ) → 1 ≤ length line → is_blank (get_or line (length line - 1) 0) ≡ true → trim_end (take (length line - 1) line) ≡ trim_end line
shorter line some h = sym (ap trim_end (last_split line some) ∙ trim-blank (take (length line - 1) line) (get_or line (length line - 1) 0) h)

pub at_mark : (line : List ℕ) → 1 ≤ length line → is_blank (get_or line (length line - 1) 0) ≡ false → line ≡ trim_end line
at_mark line some h =
    let split = last_split line some in
    split ∙ sym (ap trim_end split ∙ trim-mark (take (length line - 1) line) (get_or line (length line - 1) 0) h)
