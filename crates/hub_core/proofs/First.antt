-- The first place at which a test passes.
use Rattle.std.proofs.Common.{◌≡◌, ℕ, zero, suc, ◌+◌, Bool, true, false, cond, List, [], ◌∷◌, ◌++◌, length, Some, None, refl, ap, ◌∙◌, sym, arith}
use Rattle.std.specs.Prelude.{position, slice_get}
use Rattle.std.specs.List.{position_from}
use Rattle.std.proofs.lemmas.Iterator.Adapters.{position_from-zero}
use Rattle.hub_core.specs.Repeats.{found_or}

true≢false : true ≡ false → ⊥
true≢false e = cc

some≢none : (a : ℕ) → Some a ≡ None → ⊥
some≢none a e = cc

some_place : (a b : ℕ) → Some a ≡ Some b → a ≡ b
some_place a b e = cc

module _ {X : Type 0} where
  some_item : (a b : X) → Some a ≡ Some b → a ≡ b
  some_item a b e = cc

  no_item : (a : X) → None ≡ Some a → ⊥
  no_item a e = cc

  missed_head : (p q : X → Bool) → ((x : X) → p x ≡ true → q x ≡ true) → (k : ℕ) (x : X) (xs : List X) (s t : Bool) → p x ≡ s → q x ≡ t →
      (position_from q (k + 1) xs ≡ None → position_from p (k + 1) xs ≡ None) →
      cond t (Some k) (position_from q (k + 1) xs) ≡ None → cond s (Some k) (position_from p (k + 1) xs) ≡ None
  missed_head p q narrower k x xs s true ps qt more e = absurd (some≢none k e)
  missed_head p q narrower k x xs true false ps qt more e = absurd (true≢false (sym (narrower x ps) ∙ qt))
  missed_head p q narrower k x xs false false ps qt more e = more e

  missed_from : (p q : X → Bool) → ((x : X) → p x ≡ true → q x ≡ true) → (k : ℕ) (xs : List X) → position_from q k xs ≡ None → position_from p k xs ≡ None
  missed_from p q narrower k [] e = refl
  missed_from p q narrower k (x ∷ xs) e = missed_head p q narrower k x xs (p x) (q x) refl refl (missed_from p q narrower (k + 1) xs) e

  -- where the wider test passes nowhere, the narrower one doesn't either
  pub position-none : (p q : X → Bool) (xs : List X) → ((x : X) → p x ≡ true → q x ≡ true) → position q xs ≡ None → position p xs ≡ None
  position-none p q xs narrower e =
      position_from-zero p xs ∙ missed_from p q narrower 0 xs (sym (position_from-zero q xs) ∙ e)

  here : (p : X → Bool) (k i : ℕ) (x : X) (xs : List X) (s : Bool) → p x ≡ s → s ≡ true → i ≡ k → cond s (Some k) (position_from p (k + 1) xs) ≡ Some i
  here p k i x xs true ps e at = ap (λ (n : ℕ). Some n) (sym at)
  here p k i x xs false ps e at = absurd (true≢false (sym e))

  later : (p q : X → Bool) → ((x : X) → p x ≡ true → q x ≡ true) → (k i : ℕ) (x : X) (xs : List X) (s t : Bool) → p x ≡ s → q x ≡ t → (i ≡ k → ⊥) →
      (position_from q (k + 1) xs ≡ Some i → position_from p (k + 1) xs ≡ Some i) →
      cond t (Some k) (position_from q (k + 1) xs) ≡ Some i → cond s (Some k) (position_from p (k + 1) xs) ≡ Some i
  later p q narrower k i x xs s true ps qt apart more e = absurd (apart (sym (some_place k i e)))
  later p q narrower k i x xs true false ps qt apart more e = absurd (true≢false (sym (narrower x ps) ∙ qt))
  later p q narrower k i x xs false false ps qt apart more e = more e

  agreed_from : (p q : X → Bool) → ((x : X) → p x ≡ true → q x ≡ true) → (k i j : ℕ) (x : X) (xs : List X) → i ≡ k + j → slice_get xs j ≡ Some x → p x ≡ true →
      position_from q k xs ≡ Some i → position_from p k xs ≡ Some i
  agreed_from p q narrower k i j x [] at get passes e = absurd (no_item x get)
  agreed_from p q narrower k i zero x (y ∷ ys) at get passes e =
      let same : y ≡ x = some_item y x get in
      here p k i y ys (p y) refl (ap p same ∙ passes) (let at : i ≡ k + 0 = at in omega arith)
  agreed_from p q narrower k i (suc j) x (y ∷ ys) at get passes e =
      let at : i ≡ k + suc j = at in
      let next : i ≡ k + 1 + j = omega arith in
      later p q narrower k i y ys (p y) (q y) refl refl (λ (same : i ≡ k). omega arith) (agreed_from p q narrower (k + 1) i j x ys next get passes) e

  -- where what the wider test finds passes the narrower one, that finds it too
  pub position-agrees : (p q : X → Bool) (xs : List X) (i : ℕ) (x : X) → ((x : X) → p x ≡ true → q x ≡ true) → slice_get xs i ≡ Some x → p x ≡ true → position q xs ≡ Some i → position p xs ≡ Some i
  position-agrees p q xs i x narrower get passes e =
      position_from-zero p xs ∙ agreed_from p q narrower 0 i i x xs (omega arith) get passes (sym (position_from-zero q xs) ∙ e)

  pushed_head : (p : X → Bool) (k n : ℕ) (x y : X) (xs : List X) (s : Bool) →
      position_from p (k + 1) (xs ++ y ∷ []) ≡ found_or (position_from p (k + 1) xs) (p y) n →
      cond s (Some k) (position_from p (k + 1) (xs ++ y ∷ [])) ≡ found_or (cond s (Some k) (position_from p (k + 1) xs)) (p y) n
  pushed_head p k n x y xs true e = refl
  pushed_head p k n x y xs false e = e

  pushed_from : (p : X → Bool) (k n : ℕ) (xs : List X) (y : X) → n ≡ k + length xs → position_from p k (xs ++ y ∷ []) ≡ found_or (position_from p k xs) (p y) n
  pushed_from p k n [] y at = ap (λ (i : ℕ). cond (p y) (Some i) None) (let at : n ≡ k + length {A = X} [] = at in let same : k ≡ n = omega arith in same)
  pushed_from p k n (x ∷ xs) y at =
      let at : n ≡ k + length (x ∷ xs) = at in
      pushed_head p k n x y xs (p x) (pushed_from p (k + 1) n xs y (let next : n ≡ k + 1 + length xs = omega arith in next))

  -- the first place in a list with one item more
  pub position-push : (p : X → Bool) (xs : List X) (y : X) → position p (xs ++ y ∷ []) ≡ found_or (position p xs) (p y) (length xs)
  position-push p xs y =
      position_from-zero p (xs ++ y ∷ []) ∙ pushed_from p 0 (length xs) xs y (omega arith) ∙ ap (λ o. found_or o (p y) (length xs)) (sym (position_from-zero p xs))

  never_head : (p : X → Bool) → ((x : X) → p x ≡ true → ⊥) → (k : ℕ) (x : X) (xs : List X) (s : Bool) → p x ≡ s → position_from p (k + 1) xs ≡ None → cond s (Some k) (position_from p (k + 1) xs) ≡ None
  never_head p never k x xs true ps e = absurd (never x ps)
  never_head p never k x xs false ps e = e

  never_from : (p : X → Bool) → ((x : X) → p x ≡ true → ⊥) → (k : ℕ) (xs : List X) → position_from p k xs ≡ None
  never_from p never k [] = refl
  never_from p never k (x ∷ xs) = never_head p never k x xs (p x) refl (never_from p never (k + 1) xs)

  pub position-never : (p : X → Bool) (xs : List X) → ((x : X) → p x ≡ true → ⊥) → position p xs ≡ None
  position-never p xs never = position_from-zero p xs ∙ never_from p never 0 xs
