-- What stands before a byte that isn't in a text.
use Rattle.std.proofs.Common.{◌≡◌, ℕ, suc, ◌+◌, ◌<◌, true, false, cond, List, [], ◌∷◌, ◌++◌, length, take, drop, refl, ap, ◌∙◌, arith, append_assoc}
use Rattle.std.specs.Prelude.{◌==◌, not, nat_le}
use Rattle.std.proofs.lemmas.Bool.Decides.{nat_tests}
use Rattle.std.proofs.Math.Seq.{take-length, drop-length, take-append_seam, drop-append_seam, drop-append-add}
use Rattle.mail_message.specs.Lines.{crlf}
use Rattle.journal_report.specs.Reading.{place, line_of, behind_line, before_space, from_space}
use Rattle.journal_report.proofs.Above.{above, parts}

no_equal : (n b x : ℕ) → b < n → nat_le n x ≡ true → (x == b) ≡ false
no_equal n b x h p = grind (arith, nat_tests)

found : (b : ℕ) → (b == b) ≡ true
found b = grind (arith, nat_tests)

-- the byte is nowhere
pub place_none : (n b : ℕ) (text : List ℕ) → b < n → above n text ≡ true → place b text ≡ length text
place_none n b [] h p = refl
place_none n b (x ∷ text) h p =
    let q = parts (nat_le n x) (above n text) p in
    ap (λ t. cond (not t) (1 + place b text) 0) (no_equal n b x h q.0) ∙ ap (λ m. 1 + m) (place_none n b text h q.1) ∙ one (length text)
  where
    one : (m : ℕ) → 1 + m ≡ suc m
    one m = omega arith

-- it stands behind the text
pub place_behind : (n b : ℕ) (text rest : List ℕ) → b < n → above n text ≡ true → place b (text ++ b ∷ rest) ≡ length text
place_behind n b [] rest h p = ap (λ t. cond (not t) (1 + place b rest) 0) (found b)
place_behind n b (x ∷ text) rest h p =
    let q = parts (nat_le n x) (above n text) p in
    ap (λ t. cond (not t) (1 + place b (text ++ b ∷ rest)) 0) (no_equal n b x h q.0) ∙ ap (λ m. 1 + m) (place_behind n b text rest h q.1) ∙ one (length text)
  where
    one : (m : ℕ) → 1 + m ≡ suc m
    one m = omega arith

pub line_again : (line rest : List ℕ) → above 32 line ≡ true → line_of (line ++ crlf ++ rest) ≡ line
unfolding line_of
line_again line rest p =
    ap line_of_text (append_assoc line crlf rest) ∙ ap (λ n. take n (line ++ 13 ∷ 10 ∷ rest)) (place_behind 32 13 line (10 ∷ rest) (omega arith) p) ∙ take-append_seam line (13 ∷ 10 ∷ rest)
  where
    line_of_text : List ℕ → List ℕ
    line_of_text bytes = take (place 13 bytes) bytes

pub behind_again : (line rest : List ℕ) → above 32 line ≡ true → behind_line (line ++ crlf ++ rest) ≡ rest
unfolding behind_line
behind_again line rest p =
    ap (λ (bytes : List ℕ). drop (place 13 bytes + 2) bytes) (append_assoc line crlf rest)
    ∙ ap (λ n. drop (n + 2) (line ++ 13 ∷ 10 ∷ rest)) (place_behind 32 13 line (10 ∷ rest) (omega arith) p) ∙ drop-append-add line (13 ∷ 10 ∷ rest) 2

pub before_space_end : (text : List ℕ) → above 33 text ≡ true → before_space text ≡ text
before_space_end text p = ap (λ n. take n text) (place_none 33 32 text (omega arith) p) ∙ take-length text

pub before_space_again : (text rest : List ℕ) → above 33 text ≡ true → before_space (text ++ 32 ∷ rest) ≡ text
before_space_again text rest p = ap (λ n. take n (text ++ 32 ∷ rest)) (place_behind 33 32 text rest (omega arith) p) ∙ take-append_seam text (32 ∷ rest)

pub from_space_end : (text : List ℕ) → above 33 text ≡ true → from_space text ≡ []
from_space_end text p = ap (λ n. drop n text) (place_none 33 32 text (omega arith) p) ∙ drop-length text

pub from_space_again : (text rest : List ℕ) → above 33 text ≡ true → from_space (text ++ 32 ∷ rest) ≡ 32 ∷ rest
from_space_again text rest p = ap (λ n. drop n (text ++ 32 ∷ rest)) (place_behind 33 32 text rest (omega arith) p) ∙ drop-append_seam text (32 ∷ rest)

pub behind_space_again : (text rest : List ℕ) → above 33 text ≡ true → drop (place 32 (text ++ 32 ∷ rest) + 1) (text ++ 32 ∷ rest) ≡ rest
behind_space_again text rest p =
    ap (λ n. drop (n + 1) (text ++ 32 ∷ rest)) (place_behind 33 32 text rest (omega arith) p) ∙ drop-append-add text (32 ∷ rest) 1
