-- The word test, place by place.
use Rattle.std.proofs.Common.{◌≡◌, ℕ, zero, suc, ◌+◌, ◌<◌, ◌≤◌, Bool, true, false, nat_eq, List, [], ◌∷◌, length, take, drop, get_or, refl, sym, ap, ap₂, ◌∙◌, subst, arith, length-drop}
use Rattle.std.specs.Prelude.{not, ◌&&◌, ◌||◌, bytes_eq, slice_index}
use Rattle.std.proofs.lemmas.List.{get_or-drop, drop-drop, drop_all}
use Rattle.std.proofs.lemmas.Bool.{and_parts, eqb-true, eq-eqb}
use Rattle.memchr.specs.Find.{OccursAt, Nowhere, NoneBefore}
use Rattle.rule_match.specs.Words.{is_word_byte, begins_in_word, stands_in, is_joined}

-- an occurrence behind the first byte is one of the whole
later : (b : ℕ) (bs w : List ℕ) (k : ℕ) → OccursAt bs w k → OccursAt (b ∷ bs) w (suc k)
later b bs w k o = record {
  fits = (let f = o.fits in omega arith);
  reads = λ j h. subst (λ (n : ℕ). get_or (b ∷ bs) n 0 ≡ get_or w j 0) (by_sum k j) (o.reads j h);
}
  where
    by_sum : (k j : ℕ) → suc (k + j) ≡ suc k + j
    by_sum k j = omega arith

-- an occurrence at a place is at the front of the rest
at_front : (s w : List ℕ) (k : ℕ) → OccursAt s w k → OccursAt (drop k s) w 0
at_front s w k o = record {
  fits = (let f = o.fits in let d = length-drop k s in omega arith);
  reads = λ j h. get_or-drop k s (0 + j) 0 ∙ ap (λ n. get_or s (k + n) 0) (by_zero j) ∙ o.reads j h;
}
  where
    by_zero : (j : ℕ) → 0 + j ≡ j
    by_zero j = omega arith

-- bytes that are equal one by one
same_bytes : (w s : List ℕ) → length w ≤ length s → ((j : ℕ) → j < length w → get_or s j 0 ≡ get_or w j 0) → bytes_eq w (take (length w) s) ≡ true
same_bytes [] s h reads = refl
same_bytes (a ∷ w) [] h reads = absurd (omega arith)
same_bytes (a ∷ w) (b ∷ s) h reads =
    let first : b ≡ a = reads 0 (omega arith) in
    let rest = same_bytes w s (omega arith) (λ j l. reads (suc j) (omega arith)) in
    ap₂ ◌&&◌ (eq-eqb a b (sym first)) rest

same_at : (a b : ℕ) (w s : List ℕ) → b ≡ a → ((j : ℕ) → j < length w → get_or s j 0 ≡ get_or w j 0) → (j : ℕ) → j < length (a ∷ w) → get_or (b ∷ s) j 0 ≡ get_or (a ∷ w) j 0
same_at a b w s first rest zero l = first
same_at a b w s first rest (suc j) l = rest j (omega arith)

are_same : (w s : List ℕ) → bytes_eq w (take (length w) s) ≡ true → (length w ≤ length s) × ((j : ℕ) → j < length w → get_or s j 0 ≡ get_or w j 0)
are_same [] s e = (omega arith, λ j l. absurd (omega arith))
are_same (a ∷ w) [] e = absurd cc
are_same (a ∷ w) (b ∷ s) e =
    let parts = and_parts (nat_eq a b) (bytes_eq w (take (length w) s)) e in
    let rest = are_same w s parts.1 in
    ((let l = rest.0 in omega arith), same_at a b w s (sym (eqb-true a b parts.0)) rest.1)

-- the front is the word exactly where it occurs at 0
front-is : (w s : List ℕ) → bytes_eq w (take (length w) s) ≡ true → OccursAt s w 0
front-is w s e = let same = are_same w s e in record {
  fits = (let f = same.0 in omega arith);
  reads = λ j h. ap (λ n. get_or s n 0) (by_zero j) ∙ same.1 j h;
}
  where
    by_zero : (j : ℕ) → 0 + j ≡ j
    by_zero j = omega arith

is-front : (w s : List ℕ) → OccursAt s w 0 → bytes_eq w (take (length w) s) ≡ true
is-front w s o = same_bytes w s (let f = o.fits in omega arith) (λ j h. ap (λ n. get_or s n 0) (by_zero j) ∙ o.reads j h)
  where
    by_zero : (j : ℕ) → j ≡ 0 + j
    by_zero j = omega arith

-- what stands before a place, where `joined` says it of the first
abbrev joined_at : Bool → List ℕ → ℕ → Bool
joined_at joined s zero = joined
joined_at joined s (suc k) = is_word_byte (slice_index s k)

joined_shift : (b : ℕ) (bs : List ℕ) (joined : Bool) (k : ℕ) → joined_at (is_word_byte b) bs k ≡ joined_at joined (b ∷ bs) (suc k)
joined_shift b bs joined zero = refl
joined_shift b bs joined (suc k) = refl

joined_on : (t : List ℕ) (from k : ℕ) → joined_at (is_joined t from) (drop from t) k ≡ is_joined t (from + k)
joined_on t from zero = ap (is_joined t) (by_zero from)
  where
    by_zero : (n : ℕ) → n ≡ n + 0
    by_zero n = omega arith
joined_on t from (suc k) = ap is_word_byte (get_or-drop from t k 0) ∙ ap (is_joined t) (by_suc from k)
  where
    by_suc : (n k : ℕ) → suc (n + k) ≡ n + suc k
    by_suc n k = omega arith

-- where the word isn't the front, it stands behind the first byte or nowhere
not_at : (w : List ℕ) (joined : Bool) (b : ℕ) (bs : List ℕ) → (OccursAt (b ∷ bs) w 0 → ⊥) → stands_in joined w (b ∷ bs) ≡ stands_in (is_word_byte b) w bs
not_at w joined b bs none = by_test (bytes_eq w (take (length w) (b ∷ bs))) refl
  where
    none_here : (a x y : Bool) → ((a && (false && x)) || y) ≡ y
    none_here true x y = refl
    none_here false x y = refl

    by_test : (e : Bool) → bytes_eq w (take (length w) (b ∷ bs)) ≡ e → stands_in joined w (b ∷ bs) ≡ stands_in (is_word_byte b) w bs
    by_test true is = absurd (none (front-is w (b ∷ bs) is))
    by_test false is =
        ap (λ (e : Bool). (not joined && (e && not (begins_in_word (drop (length w) (b ∷ bs))))) || stands_in (is_word_byte b) w bs) is
        ∙ none_here (not joined) (not (begins_in_word (drop (length w) (b ∷ bs)))) (stands_in (is_word_byte b) w bs)

-- where the word is the front, the neighbours decide
stands_at : (w : List ℕ) (joined : Bool) (s : List ℕ) → 0 < length w → OccursAt s w 0
    → stands_in joined w s ≡ ((not joined && not (begins_in_word (drop (length w) s))) || stands_in (joined_at joined s 1) w (drop 1 s))
stands_at w joined [] some o = absurd (let f = o.fits in omega arith)
stands_at w joined (b ∷ bs) some o =
    ap (λ (e : Bool). (not joined && (e && not (begins_in_word (drop (length w) (b ∷ bs))))) || stands_in (is_word_byte b) w bs) (is-front w (b ∷ bs) o)

-- places before the first occurrence are passed over
skip : (w s : List ℕ) (joined : Bool) (k : ℕ) → k ≤ length s → Nowhere (OccursAt s w) 0 k → stands_in joined w s ≡ stands_in (joined_at joined s k) w (drop k s)
skip w s joined zero h none = refl
skip w [] joined (suc k) h none = absurd (omega arith)
skip w (b ∷ bs) joined (suc k) h none =
    not_at w joined b bs (none 0 (omega arith) (omega arith))
    ∙ skip w bs (is_word_byte b) k (omega arith) (λ i l u o. none (suc i) (omega arith) (omega arith) (later b bs w i o))
    ∙ ap (λ j. stands_in j w (drop k bs)) (joined_shift b bs joined k)

skipped : (w t : List ℕ) (from k : ℕ) → k ≤ length (drop from t) → Nowhere (OccursAt (drop from t) w) 0 k
    → stands_in (is_joined t from) w (drop from t) ≡ stands_in (is_joined t (from + k)) w (drop (from + k) t)
skipped w t from k h none =
    skip w (drop from t) (is_joined t from) k h none
    ∙ ap₂ (λ j s. stands_in j w s) (joined_on t from k) (drop-drop k from t)

-- no occurrence is left
nowhere : (w t : List ℕ) (from : ℕ) → Nowhere (OccursAt (drop from t) w) 0 (length (drop from t) + 1) → stands_in (is_joined t from) w (drop from t) ≡ false
nowhere w t from none =
    skip w (drop from t) (is_joined t from) (length (drop from t)) (omega arith) (λ i l u. none i l (omega arith))
    ∙ ap (stands_in (joined_at (is_joined t from) (drop from t) (length (drop from t))) w) (drop_all (length (drop from t)) (drop from t) (omega arith))

-- the first occurrence ends within the text
fits : (w t : List ℕ) (from k : ℕ) → from ≤ length t → OccursAt (drop from t) w k → from + k + length w ≤ length t
fits w t from k h o = let f = o.fits in let d = length-drop from t in omega arith

-- the first occurrence stands by itself, or the search goes on behind its first byte
first_place : (w t : List ℕ) (from k n : ℕ) → 0 < length w → NoneBefore (OccursAt (drop from t) w) 0 n k → OccursAt (drop from t) w k
    → stands_in (is_joined t from) w (drop from t)
    ≡ ((not (is_joined t (from + k)) && not (begins_in_word (drop (from + k + length w) t))) || stands_in (is_joined t (from + k + 1)) w (drop (from + k + 1) t))
first_place w t from k n some first o =
    let front = subst (λ (s : List ℕ). OccursAt s w 0) (drop-drop k from t) (at_front (drop from t) w k o) in
    skipped w t from k (let f = o.fits in omega arith) first.before
    ∙ stands_at w (is_joined t (from + k)) (drop (from + k) t) some front
    ∙ ap (λ s. (not (is_joined t (from + k)) && not (begins_in_word s)) || stands_in (joined_at (is_joined t (from + k)) (drop (from + k) t) 1) w (drop 1 (drop (from + k) t))) (drop-drop (length w) (from + k) t)
    ∙ ap₂ (λ j s. (not (is_joined t (from + k)) && not (begins_in_word (drop (from + k + length w) t))) || stands_in j w s) (joined_on t (from + k) 1) (drop-drop 1 (from + k) t)

-- what a search of the rest for the word answers
module _ (w t hay needle : List ℕ) (from : ℕ) (rest : hay ≡ drop from t) (word : needle ≡ w) where
  pub none_left : Nowhere (OccursAt hay needle) 0 (length hay + 1) → stands_in (is_joined t from) w (drop from t) ≡ false
  none_left h = nowhere w t from
      (subst (λ (n : List ℕ). Nowhere (OccursAt (drop from t) n) 0 (length (drop from t) + 1)) word
      (subst (λ (s : List ℕ). Nowhere (OccursAt s needle) 0 (length s + 1)) rest h))

  module _ (k n : ℕ) (first : NoneBefore (OccursAt hay needle) 0 n k × OccursAt hay needle k) where
    here : NoneBefore (OccursAt (drop from t) w) 0 n k × OccursAt (drop from t) w k
    here =
        subst (λ (x : List ℕ). NoneBefore (OccursAt (drop from t) x) 0 n k × OccursAt (drop from t) x k) word
        (subst (λ (s : List ℕ). NoneBefore (OccursAt s needle) 0 n k × OccursAt s needle k) rest first)

    pub within : from ≤ length t → from + k + length w ≤ length t
    within h = fits w t from k h here.1

    pub one_alone : 0 < length w → true ≡ (not (is_joined t (from + k)) && not (begins_in_word (drop (from + k + length w) t))) → stands_in (is_joined t from) w (drop from t) ≡ true
    one_alone some is =
        first_place w t from k n some here.0 here.1
        ∙ ap (λ (e : Bool). e || stands_in (is_joined t (from + k + 1)) w (drop (from + k + 1) t)) (sym is)

    pub one_joined : 0 < length w → false ≡ (not (is_joined t (from + k)) && not (begins_in_word (drop (from + k + length w) t)))
        → stands_in (is_joined t (from + k + 1)) w (drop (from + k + 1) t) ≡ stands_in (is_joined t from) w (drop from t)
    one_joined some is = sym (
        first_place w t from k n some here.0 here.1
        ∙ ap (λ (e : Bool). e || stands_in (is_joined t (from + k + 1)) w (drop (from + k + 1) t)) (sym is))
