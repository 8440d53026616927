-- A long flag's word, by its name and its value.
use Rattle.std.proofs.Common.{◌≡◌, ◌∙◌, ◌==◌, ℕ, Bool, true, false, refl, sym, ap, arith, add-one, one-add, [], ◌∷◌, ◌++◌, Option, Some, None}
use Rattle.std.specs.Prelude.{option_and_then}
use Rattle.std.specs.List.{before_first, after_first}
use Rattle.std.proofs.lemmas.Bool.Decides.{nat_tests}
use Rattle.clap.specs.Lexer.{has_byte, long_of, long_of_rest, name_and_value, strip_byte}
use Rattle.clap.specs.Walk.{Text}

equals : (b c : ℕ) → (b == c) ≡ true → b ≡ c
equals b c e = grind (arith, nat_tests)

abbrev IsCut : Text → Type 0
IsCut xs = xs ≡ before_first (λ x. x == 61) xs ++ 61 ∷ after_first (λ x. x == 61) xs

cut_more : (x : ℕ) (xs : Text) (t : Bool) → (x == 61) ≡ t → has_byte 61 (x ∷ xs) ≡ true → (has_byte 61 xs ≡ true → IsCut xs) → IsCut (x ∷ xs)
cut_more x xs true e h more = rw e (ap (λ n. n ∷ xs) (equals x 61 e))
cut_more x xs false e h more =
    let rest : has_byte 61 xs ≡ true = rw e at h in
    let same = more rest in
    rw e (simp (one-add, add-one) (ap (λ l. x ∷ l) (simp add-one at same)))

-- a list with `=` is what stands before it, it, and what stands after it
with_equals : (xs : Text) → has_byte 61 xs ≡ true → IsCut xs
with_equals [] h = cc
with_equals (x ∷ xs) h = cut_more x xs (x == 61) refl h (with_equals xs)

whole_more : (x : ℕ) (xs : Text) (t : Bool) → (x == 61) ≡ t → has_byte 61 (x ∷ xs) ≡ false → (has_byte 61 xs ≡ false → before_first (λ y. y == 61) xs ≡ xs)
    → before_first (λ y. y == 61) (x ∷ xs) ≡ x ∷ xs
whole_more x xs true e h more = let bad : true ≡ false = rw e at h in cc
whole_more x xs false e h more =
    let rest : has_byte 61 xs ≡ false = rw e at h in
    rw e (simp one-add (ap (λ l. x ∷ l) (more rest)))

without_equals : (xs : Text) → has_byte 61 xs ≡ false → before_first (λ x. x == 61) xs ≡ xs
without_equals [] h = refl
without_equals (x ∷ xs) h = whole_more x xs (x == 61) refl h (without_equals xs)

-- the word of a flag, by its name and its value
abbrev pub long_word_of : Text → Option Text → Text
long_word_of name None = 45 ∷ 45 ∷ name
long_word_of name (Some text) = 45 ∷ 45 ∷ (name ++ 61 ∷ text)

by_name : (xs name : Text) (value : Option Text) (t : Bool) → has_byte 61 xs ≡ t → name_and_value xs ≡ (name, value) → 45 ∷ 45 ∷ xs ≡ long_word_of name value
by_name xs name value true e h =
    let first : before_first (λ x. x == 61) xs ≡ name = ap (λ p. p.0) h in
    let second : Some (after_first (λ x. x == 61) xs) ≡ value = rw e at (ap (λ p. p.1) h) in
    rw (← second) (ap (λ l. 45 ∷ 45 ∷ l) (with_equals xs e ∙ ap (λ l. l ++ 61 ∷ after_first (λ x. x == 61) xs) first))
by_name xs name value false e h =
    let first : before_first (λ x. x == 61) xs ≡ name = ap (λ p. p.0) h in
    let second : None ≡ value = rw e at (ap (λ p. p.1) h) in
    rw (← second) (ap (λ l. 45 ∷ 45 ∷ l) (sym (without_equals xs e) ∙ first))

by_rest : (xs name : Text) (value : Option Text) → long_of_rest xs ≡ Some (name, value) → 45 ∷ 45 ∷ xs ≡ long_word_of name value
by_rest [] name value h = cc
by_rest (x ∷ xs) name value h = by_name (x ∷ xs) name value (has_byte 61 (x ∷ xs)) refl (let same : name_and_value (x ∷ xs) ≡ (name, value) = cc in same)

by_second : (x : ℕ) (xs name : Text) (value : Option Text) (t : Bool) → (x == 45) ≡ t → option_and_then long_of_rest (strip_byte 45 (x ∷ xs)) ≡ Some (name, value)
    → 45 ∷ x ∷ xs ≡ long_word_of name value
by_second x xs name value true e h =
    ap (λ n. 45 ∷ n ∷ xs) (equals x 45 e) ∙ by_rest xs name value (rw e at h)
by_second x xs name value false e h = let bad : ◌≡◌ {A = Option (Text × Option Text)} None (Some (name, value)) = rw e at h in cc

by_first : (x : ℕ) (xs name : Text) (value : Option Text) (t : Bool) → (x == 45) ≡ t → long_of (x ∷ xs) ≡ Some (name, value)
    → x ∷ xs ≡ long_word_of name value
by_first x [] name value true e h = let bad : ◌≡◌ {A = Option (Text × Option Text)} None (Some (name, value)) = rw e at h in cc
by_first x (y ∷ ys) name value true e h = ap (λ n. n ∷ y ∷ ys) (equals x 45 e) ∙ by_second y ys name value (y == 45) refl (rw e at h)
by_first x xs name value false e h = let bad : ◌≡◌ {A = Option (Text × Option Text)} None (Some (name, value)) = rw e at h in cc

-- a word of which `clap` reads a name and a value has them so
pub long_word : (word name : Text) (value : Option Text) → long_of word ≡ Some (name, value) → word ≡ long_word_of name value
long_word [] name value h = cc
long_word (x ∷ xs) name value h = by_first x xs name value (x == 45) refl h
