-- No CRLF stands in the value of a field.
use Rattle.std.proofs.Common.{◌≡◌, ℕ, zero, suc, ◌+◌, Bool, true, false, cond, List, [], ◌∷◌, ◌++◌, drop, refl, ap, ◌∙◌, arith, append_assoc}
use Rattle.std.specs.Prelude.{◌==◌, ◌&&◌}
use Rattle.std.specs.List.{after_first, position_or_len}
use Rattle.mail_message.specs.Lines.{begins_with, ended, ended_all, has_crlf, is_blank}
use Rattle.mail_message.specs.Message.{AreContinuations, IsField, skip_blanks, end_before, trim_end, starts_crlf, unfolded, value_of}
use Rattle.mail_message.proofs.Cut.{or_false, or_both, and_none}

abbrev none_or_blank : List ℕ → Bool
none_or_blank [] = true
none_or_blank (b ∷ bs) = is_blank b

abbrev folds_here : List ℕ → Bool
folds_here bytes = cond (starts_crlf bytes) (none_or_blank (drop 2 bytes)) true

-- behind each CRLF stands a space, a tab or nothing
abbrev pub folds : List ℕ → Bool
folds [] = true
folds (b ∷ bs) = folds_here (b ∷ bs) && folds bs

both : (a b : Bool) → (a && b) ≡ true → (a ≡ true) × (b ≡ true)
both true b h = (refl, h)
both false b h = absurd cc

and_true : (a b : Bool) → a ≡ true → b ≡ true → (a && b) ≡ true
and_true a b p q = ap (λ x. x && b) p ∙ q

folds_drop : (xs : List ℕ) (n : ℕ) → folds xs ≡ true → folds (drop n xs) ≡ true
folds_drop xs zero h = h
folds_drop [] (suc n) h = refl
folds_drop (b ∷ xs) (suc n) h = folds_drop xs n (both (folds_here (b ∷ xs)) (folds xs) h).1

not_ten : (b : ℕ) → is_blank b ≡ true → (b == 10) ≡ false
not_ten b h = grind arith

not_cr : (b : ℕ) → is_blank b ≡ true → (b == 13) ≡ false
not_cr b h = grind arith

and_first : (a b : Bool) → a ≡ false → (a && b) ≡ false
and_first a b e = ap (λ x. x && b) e

-- what is left behind an end of a line begins with no LF
blank_start : (xs : List ℕ) → none_or_blank xs ≡ true → begins_with 10 (unfolded xs) ≡ false
blank_start [] h = refl
blank_start (b ∷ []) h = not_ten b h
blank_start (b ∷ c ∷ xs) h =
    ap (λ t. begins_with 10 (cond t (unfolded xs) (b ∷ unfolded (c ∷ xs)))) (and_first (b == 13) (c == 10) (not_cr b h)) ∙ not_ten b h

no_start : (xs : List ℕ) → folds xs ≡ true → begins_with 10 xs ≡ false → begins_with 10 (unfolded xs) ≡ false
no_start [] h n = refl
no_start (b ∷ []) h n = n
no_start (b ∷ c ∷ xs) h n = by (starts_crlf (b ∷ c ∷ xs)) (both (folds_here (b ∷ c ∷ xs)) (folds (c ∷ xs)) h).0
  where
    by : (t : Bool) → cond t (none_or_blank xs) true ≡ true → begins_with 10 (cond t (unfolded xs) (b ∷ unfolded (c ∷ xs))) ≡ false
    by true p = blank_start xs p
    by false p = n

-- without the ends of its lines no CRLF is left
unfolded_clean : (xs : List ℕ) → folds xs ≡ true → has_crlf (unfolded xs) ≡ false
unfolded_clean [] h = refl
unfolded_clean (b ∷ []) h = or_both (b == 13 && false) false (and_none (b == 13)) refl
unfolded_clean (b ∷ c ∷ xs) h =
    let rest = (both (folds_here (b ∷ c ∷ xs)) (folds (c ∷ xs)) h).1 in
    by (starts_crlf (b ∷ c ∷ xs)) refl (unfolded_clean xs (both (folds_here (c ∷ xs)) (folds xs) rest).1) (unfolded_clean (c ∷ xs) rest) (no_start (c ∷ xs) rest)
  where
    pair : (b c : Bool) (d : Bool) → (b && c) ≡ false → (c ≡ false → d ≡ false) → (b && d) ≡ false
    pair true c d e h = h e
    pair false c d e h = refl

    by : (t : Bool) → (b == 13 && c == 10) ≡ t → has_crlf (unfolded xs) ≡ false → has_crlf (unfolded (c ∷ xs)) ≡ false
        → ((c == 10) ≡ false → begins_with 10 (unfolded (c ∷ xs)) ≡ false) → has_crlf (cond t (unfolded xs) (b ∷ unfolded (c ∷ xs))) ≡ false
    by true e p q n = p
    by false e p q n = or_both (b == 13 && begins_with 10 (unfolded (c ∷ xs))) (has_crlf (unfolded (c ∷ xs))) (pair (b == 13) (c == 10) (begins_with 10 (unfolded (c ∷ xs))) e n) q

-- a line with its end before a line that goes on, or before nothing
line_folds : (line rest : List ℕ) → has_crlf line ≡ false → none_or_blank rest ≡ true → folds rest ≡ true → folds (line ++ 13 ∷ 10 ∷ rest) ≡ true
line_folds [] rest h blank more = and_true (none_or_blank rest) (folds (10 ∷ rest)) blank more
line_folds (b ∷ line) rest h blank more =
    let parts = or_false (b == 13 && begins_with 10 line) (has_crlf line) h in
    and_true (folds_here (b ∷ (line ++ 13 ∷ 10 ∷ rest))) (folds (line ++ 13 ∷ 10 ∷ rest)) (here line parts.0) (line_folds line rest parts.1 blank more)
  where
    here : (line : List ℕ) → (b == 13 && begins_with 10 line) ≡ false → folds_here (b ∷ (line ++ 13 ∷ 10 ∷ rest)) ≡ true
    here [] e = ap (λ t. cond t (none_or_blank (10 ∷ rest)) true) (and_none (b == 13))
    here (c ∷ line) e = ap (λ t. cond t (none_or_blank (line ++ 13 ∷ 10 ∷ rest)) true) e

flat : (line rest : List ℕ) → ended line ++ rest ≡ line ++ 13 ∷ 10 ∷ rest
flat line rest = append_assoc line (13 ∷ 10 ∷ []) rest

blank_next : (more : List (List ℕ)) → AreContinuations more → none_or_blank (ended_all more) ≡ true
blank_next [] h = refl
blank_next ([] ∷ more) h = absurd (let no = h.1 in cc)
blank_next ((b ∷ line) ∷ more) h = h.1

continuations_fold : (more : List (List ℕ)) → AreContinuations more → folds (ended_all more) ≡ true
continuations_fold [] h = refl
continuations_fold (line ∷ more) h =
    ap folds (flat line (ended_all more)) ∙ line_folds line (ended_all more) h.0 (blank_next more h.2) (continuations_fold more h.2)

field_folds : (raw : List ℕ) → IsField raw → folds raw ≡ true
field_folds raw f =
    ap folds (f.bytes ∙ flat f.first (ended_all f.more))
    ∙ line_folds f.first (ended_all f.more) f.line (blank_next f.more f.later) (continuations_fold f.more f.later)

skip_clean : (xs : List ℕ) → has_crlf xs ≡ false → has_crlf (skip_blanks xs) ≡ false
skip_clean [] h = refl
skip_clean (b ∷ xs) h = by (is_blank b) (skip_clean xs (or_false (b == 13 && begins_with 10 xs) (has_crlf xs) h).1)
  where
    by : (t : Bool) → has_crlf (skip_blanks xs) ≡ false → has_crlf (cond t (skip_blanks xs) (b ∷ xs)) ≡ false
    by true p = p
    by false p = h

end_start : (b : ℕ) (xs : List ℕ) → (b == 10) ≡ false → begins_with 10 (end_before b xs) ≡ false
end_start b [] h = by (is_blank b)
  where
    by : (t : Bool) → begins_with 10 (cond t [] (b ∷ [])) ≡ false
    by true = refl
    by false = h
end_start b (c ∷ xs) h = h

trim_start : (xs : List ℕ) → begins_with 10 xs ≡ false → begins_with 10 (trim_end xs) ≡ false
trim_start [] h = refl
trim_start (b ∷ xs) h = end_start b (trim_end xs) h

trim_clean : (xs : List ℕ) → has_crlf xs ≡ false → has_crlf (trim_end xs) ≡ false
trim_clean [] h = refl
trim_clean (b ∷ xs) h =
    let parts = or_false (b == 13 && begins_with 10 xs) (has_crlf xs) h in
    grown (trim_end xs) (pair (b == 13) (begins_with 10 xs) (begins_with 10 (trim_end xs)) parts.0 (trim_start xs)) (trim_clean xs parts.1)
  where
    pair : (b c : Bool) (d : Bool) → (b && c) ≡ false → (c ≡ false → d ≡ false) → (b && d) ≡ false
    pair true c d e h = h e
    pair false c d e h = refl

    one : (t : Bool) → has_crlf (cond t [] (b ∷ [])) ≡ false
    one true = refl
    one false = or_both (b == 13 && false) false (and_none (b == 13)) refl

    grown : (ys : List ℕ) → (b == 13 && begins_with 10 ys) ≡ false → has_crlf ys ≡ false → has_crlf (end_before b ys) ≡ false
    grown [] p q = one (is_blank b)
    grown (c ∷ ys) p q = or_both (b == 13 && c == 10) (has_crlf (c ∷ ys)) p q

pub value_clean : (raw : List ℕ) → IsField raw → has_crlf (value_of raw) ≡ false
value_clean raw f =
    let rest = after_first (λ b. b == 58) raw in
    trim_clean (skip_blanks (unfolded rest)) (skip_clean (unfolded rest) (unfolded_clean rest (folds_drop raw (position_or_len (λ b. b == 58) raw + 1) (field_folds raw f))))
