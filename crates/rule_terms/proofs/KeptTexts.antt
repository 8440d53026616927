-- A domain and a disclaimer's text have their form as they are kept.
use Rattle.std.proofs.Common.{◌≡◌, ℕ, ◌+◌, ◌≤◌, ◌&&◌, ◌==◌, nat_le, not, if◌then◌else◌, Bool, true, false, List, [], ◌∷◌, ◌++◌, length, refl, ap, ◌∙◌, subst, leb-true, arith, inl, inr}
use Rattle.std.specs.List.{list_all, list_any, filter}
use Rattle.std.specs.Char.{is_ascii_uppercase, to_ascii_lowercase}
use Rattle.std.proofs.lemmas.Bool.{and_parts, and_from, cases_lt, le-leb, eqb-true}
use Rattle.std.proofs.lemmas.List.{length-map}
use Rattle.std.proofs.lemmas.Str.Ascii.{lowercase_is}
use Rattle.mail_names.specs.Key.{lower}
use Rattle.rule_terms.specs.Forms.{ends_lines, has_no_nul, is_domain, is_domain_byte, is_low_domain, is_note, is_within, note_length}
use Rattle.rule_terms.specs.Parts.{ended_from}

-- domains
lower_letter : (b : ℕ) → 97 ≤ b → b ≤ 122 → is_domain_byte b ≡ true
lower_letter b low high =
    let other : (b == 64) ≡ false = grind arith in
    rw (le-leb 97 b low, le-leb b 122 high, other) refl

lower_byte : (b : ℕ) → is_domain_byte b ≡ true → is_domain_byte (to_ascii_lowercase b) ≡ true
lower_byte b h =
    elim (cases_lt b 65) [
      | inl below ↦ ap is_domain_byte ((lowercase_is b).1 below) ∙ h
      | inr low ↦
          elim (cases_lt 90 b) [
            | inl above ↦ ap is_domain_byte ((lowercase_is b).2 above) ∙ h
            | inr high ↦ ap is_domain_byte ((lowercase_is b).0 (low, high)) ∙ lower_letter (b + 32) (omega arith) (omega arith)
          ]
    ]

lower_bytes : (bs : List ℕ) → list_all is_domain_byte bs ≡ true → list_all is_domain_byte (lower bs) ≡ true
lower_bytes [] h = refl
lower_bytes (b ∷ bs) h =
    let parts : (is_domain_byte b ≡ true) × (list_all is_domain_byte bs ≡ true) = and_parts (is_domain_byte b) (list_all is_domain_byte bs) h in
    and_from (is_domain_byte (to_ascii_lowercase b)) (list_all is_domain_byte (lower bs)) (lower_byte b parts.0) (lower_bytes bs parts.1)

lower_domain : (text : List ℕ) → is_domain text ≡ true → is_domain (lower text) ≡ true
lower_domain text h =
    let parts : (is_within 1 252 (length text) ≡ true) × (list_all is_domain_byte text ≡ true) = and_parts (is_within 1 252 (length text)) (list_all is_domain_byte text) h in
    and_from (is_within 1 252 (length (lower text))) (list_all is_domain_byte (lower text))
    (ap (is_within 1 252) (length-map text to_ascii_lowercase) ∙ parts.0) (lower_bytes text parts.1)

low_byte : (b : ℕ) → is_ascii_uppercase (to_ascii_lowercase b) ≡ false
low_byte b = grind (arith, lowercase_is)

no_capital : (bs : List ℕ) → not (list_any is_ascii_uppercase (lower bs)) ≡ true
no_capital [] = refl
no_capital (b ∷ bs) = rw (low_byte b) (no_capital bs)

pub low_domain : (text : List ℕ) → is_domain text ≡ true → is_low_domain (lower text) ≡ true
low_domain text h = and_from (is_domain (lower text)) (not (list_any is_ascii_uppercase (lower text))) (lower_domain text h) (no_capital text)

-- no NUL
ended-none : (test : Bool) (b : ℕ) (rest : List ℕ) → not (b == 0) ≡ true → has_no_nul rest ≡ true → has_no_nul ((if test then 13 ∷ 10 ∷ [] else b ∷ []) ++ rest) ≡ true
ended-none true b rest h more = more
ended-none false b rest h more = and_from (not (b == 0)) (has_no_nul rest) h more

ended_no_nul : (before : ℕ) (bs : List ℕ) → has_no_nul bs ≡ true → has_no_nul (ended_from before bs) ≡ true
ended_no_nul before [] h = refl
ended_no_nul before (b ∷ bs) h =
    let parts : (not (b == 0) ≡ true) × (has_no_nul bs ≡ true) = and_parts (not (b == 0)) (has_no_nul bs) h in
    ended-none (b == 10 && not (before == 13)) b (ended_from b bs) parts.0 (ended_no_nul b bs parts.1)

-- CR LF at the end of each line
lines_step : (before b : ℕ) (at_lf behind_cr : Bool) (rest : List ℕ) → (b == 10) ≡ at_lf → (before == 13) ≡ behind_cr → ends_lines b rest ≡ true
    → ends_lines before ((if at_lf && not behind_cr then 13 ∷ 10 ∷ [] else b ∷ []) ++ rest) ≡ true
lines_step before b true false rest lf cr h = subst (λ (n : ℕ). ends_lines n rest ≡ true) (eqb-true b 10 lf) h
lines_step before b true true rest lf cr h = rw (lf, cr) h
lines_step before b false behind_cr rest lf cr h = rw lf h

lines_ended : (before : ℕ) (bs : List ℕ) → ends_lines before (ended_from before bs) ≡ true
lines_ended before [] = refl
lines_ended before (b ∷ bs) = lines_step before b (b == 10) (before == 13) (ended_from b bs) refl refl (lines_ended b bs)

-- the length
one_more : (b : ℕ) (test : Bool) (rest : List ℕ) → note_length ((if test then 13 ∷ 10 ∷ [] else b ∷ []) ++ rest) ≤ note_length rest + 1
one_more b true rest = omega arith
one_more b false rest = by_byte (b == 10)
  where
    by_byte : (lf : Bool) → length (if not lf then b ∷ filter (λ n. not (n == 10)) rest else filter (λ n. not (n == 10)) rest) ≤ note_length rest + 1
    by_byte true = omega arith
    by_byte false = omega arith

no_longer : (before : ℕ) (bs : List ℕ) → note_length (ended_from before bs) ≤ length bs
no_longer before [] = omega arith
no_longer before (b ∷ bs) =
    let more = no_longer b bs in
    let one = one_more b (b == 10 && not (before == 13)) (ended_from b bs) in
    omega (arith, more, one)

first_counts : (b : ℕ) (lf : Bool) (rest : List ℕ) → (b == 10) ≡ lf → 1 ≤ note_length ((if lf && not (0 == 13) then 13 ∷ 10 ∷ [] else b ∷ []) ++ rest)
first_counts b true rest e = omega arith
first_counts b false rest e = rw e (omega arith)

ended_length : (b : ℕ) (bs : List ℕ) → is_within 1 4096 (length (b ∷ bs)) ≡ true → is_within 1 4096 (note_length (ended_from 0 (b ∷ bs))) ≡ true
ended_length b bs h =
    let high : length (b ∷ bs) ≤ 4096 = leb-true (length (b ∷ bs)) 4096 (and_parts (nat_le 1 (length (b ∷ bs))) (nat_le (length (b ∷ bs)) 4096) h).1 in
    let few = no_longer 0 (b ∷ bs) in
    and_from (nat_le 1 (note_length (ended_from 0 (b ∷ bs)))) (nat_le (note_length (ended_from 0 (b ∷ bs))) 4096)
    (le-leb 1 (note_length (ended_from 0 (b ∷ bs))) (first_counts b (b == 10) (ended_from b bs) refl))
    (le-leb (note_length (ended_from 0 (b ∷ bs))) 4096 (omega (arith, few, high)))

pub ended_note : (text : List ℕ) → (is_within 1 4096 (length text) && has_no_nul text) ≡ true → is_note (ended_from 0 text) ≡ true
ended_note [] h = absurd (cc h)
ended_note (b ∷ bs) h =
    let parts : (is_within 1 4096 (length (b ∷ bs)) ≡ true) × (has_no_nul (b ∷ bs) ≡ true) = and_parts (is_within 1 4096 (length (b ∷ bs))) (has_no_nul (b ∷ bs)) h in
    and_from (is_within 1 4096 (note_length (ended_from 0 (b ∷ bs)))) (has_no_nul (ended_from 0 (b ∷ bs)) && ends_lines 0 (ended_from 0 (b ∷ bs)))
    (ended_length b bs parts.0)
    (and_from (has_no_nul (ended_from 0 (b ∷ bs))) (ends_lines 0 (ended_from 0 (b ∷ bs))) (ended_no_nul 0 (b ∷ bs) parts.1) (lines_ended 0 (b ∷ bs)))
