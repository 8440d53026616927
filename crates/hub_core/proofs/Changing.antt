-- A list with one item changed.
use Rattle.std.proofs.Common.{◌≡◌, ℕ, zero, suc, ◌+◌, ◌<◌, ◌≤◌, List, [], ◌∷◌, ◌++◌, length, get_or, set, take, drop, Option, Some, None, refl, ap, ◌∙◌, sym, arith}
use Rattle.std.specs.Prelude.{map, slice_get, slice_set}
use Rattle.hub_core.specs.Approvals.{changed_at, changed}

module _ {X : Type 0} where
  tail_at : (f : X → X) (k : ℕ) (x : X) (xs : List X) (at : Option X) → changed_at f (x ∷ xs) (suc k) at ≡ x ∷ changed_at f xs k at
  tail_at f k x xs None = refl
  tail_at f k x xs (Some y) = refl

  -- a place behind the head
  pub changed-tail : (f : X → X) (k : ℕ) (x : X) (xs : List X) → changed f (suc k) (x ∷ xs) ≡ x ∷ changed f k xs
  changed-tail f k x xs = tail_at f k x xs (slice_get xs k)

  -- as a write makes it
  pub changed-set : (f : X → X) (k : ℕ) (xs : List X) (d y : X) → k < length xs → y ≡ f (get_or xs k d) → set xs k y ≡ changed f k xs
  changed-set f k [] d y within is = absurd (omega (arith, within))
  changed-set f zero (x ∷ xs) d y within is = ap (λ z. z ∷ xs) is
  changed-set f (suc k) (x ∷ xs) d y within is =
      ap (λ ys. x ∷ ys) (changed-set f k xs d y (omega (arith, within)) is) ∙ sym (changed-tail f k x xs)

  pub changed-length : (f : X → X) (k : ℕ) (xs : List X) → length (changed f k xs) ≡ length xs
  changed-length f k [] = refl
  changed-length f zero (x ∷ xs) = refl
  changed-length f (suc k) (x ∷ xs) = ap length (changed-tail f k x xs) ∙ ap (λ n. suc n) (changed-length f k xs)

  -- what the change keeps, the list keeps
  pub changed-map : {Y : Type 0} (g : X → Y) (f : X → X) → ((x : X) → g (f x) ≡ g x) → (k : ℕ) (xs : List X) → map g (changed f k xs) ≡ map g xs
  changed-map g f kept k [] = refl
  changed-map g f kept zero (x ∷ xs) = ap (λ y. y ∷ map g xs) (kept x)
  changed-map g f kept (suc k) (x ∷ xs) = ap (map g) (changed-tail f k x xs) ∙ ap (λ ys. g x ∷ ys) (changed-map g f kept k xs)

  pub map-kept : {Y : Type 0} (g : X → Y) (f : X → X) → ((x : X) → g (f x) ≡ g x) → (xs : List X) → map g (map f xs) ≡ map g xs
  map-kept g f kept [] = refl
  map-kept g f kept (x ∷ xs) = λ i. kept x i ∷ map-kept g f kept xs i

  -- behind a place, more can stand
  pub changed-push : (f : X → X) (k : ℕ) (xs : List X) (y : X) → k < length xs → changed f k (xs ++ y ∷ []) ≡ changed f k xs ++ y ∷ []
  changed-push f k [] y within = absurd (omega (arith, within))
  changed-push f zero (x ∷ xs) y within = refl
  changed-push f (suc k) (x ∷ xs) y within =
      changed-tail f k x (xs ++ y ∷ []) ∙ ap (λ ys. x ∷ ys) (changed-push f k xs y (omega (arith, within)))
      ∙ ap (λ (ys : List X). ys ++ y ∷ []) (sym (changed-tail f k x xs))

  -- a loop that changes each item has changed those before a place
  abbrev pub changed_to : (X → X) → ℕ → List X → List X
  changed_to f k xs = map f (take k xs) ++ drop k xs

  pub changed_to-length : (f : X → X) (k : ℕ) (xs : List X) → length (changed_to f k xs) ≡ length xs
  changed_to-length f zero xs = refl
  changed_to-length f (suc k) [] = refl
  changed_to-length f (suc k) (x ∷ xs) = ap (λ n. suc n) (changed_to-length f k xs)

  changed_to-next : (f : X → X) (k : ℕ) (xs : List X) (d : X) → k < length xs → set (changed_to f k xs) k (f (get_or (changed_to f k xs) k d)) ≡ changed_to f (suc k) xs
  changed_to-next f k [] d within = absurd (omega (arith, within))
  changed_to-next f zero (x ∷ xs) d within = refl
  changed_to-next f (suc k) (x ∷ xs) d within = ap (λ ys. f x ∷ ys) (changed_to-next f k xs d (omega (arith, within)))

  -- and then the one that stands there
  pub changed_to-more : (f : X → X) (k : ℕ) (xs : List X) (d : X) → k < length xs → set (changed_to f k xs) k (f (get_or (changed_to f k xs) k d)) ≡ changed_to f (k + 1) xs
  changed_to-more f k xs d within = changed_to-next f k xs d within ∙ ap (λ n. changed_to f n xs) (let next : suc k ≡ k + 1 = omega arith in next)

  -- as a loop writes it
  pub changed_to-step : (f : X → X) (k : ℕ) (xs items : List X) (d y : X) → items ≡ changed_to f k xs → k < length items → y ≡ f (get_or items k d) → set items k y ≡ changed_to f (k + 1) xs
  changed_to-step f k xs items d y so_far within is =
      let size = ap length so_far ∙ changed_to-length f k xs in
      ap (set items k) is ∙ ap (λ l. set l k (f (get_or l k d))) so_far ∙ changed_to-more f k xs d (omega (arith, within, size))

  pub changed_to-all : (f : X → X) (k : ℕ) (xs : List X) → length xs ≤ k → changed_to f k xs ≡ map f xs
  changed_to-all f zero [] past = refl
  changed_to-all f (suc k) [] past = refl
  changed_to-all f zero (x ∷ xs) past = absurd (omega (arith, past))
  changed_to-all f (suc k) (x ∷ xs) past = ap (λ ys. f x ∷ ys) (changed_to-all f k xs (omega (arith, past)))

  -- and as a loop writes it that asks for each place
  changed_to-at : (f : X → X) (k : ℕ) (xs : List X) → k < length xs →
      (x : X) × (slice_get (changed_to f k xs) k ≡ Some x) × (slice_set (changed_to f k xs) k (f x) ≡ changed_to f (suc k) xs)
  changed_to-at f k [] within = absurd (omega (arith, within))
  changed_to-at f zero (x ∷ xs) within = (x, refl, refl)
  changed_to-at f (suc k) (x ∷ xs) within =
      let (y, there, is) = changed_to-at f k xs (omega (arith, within)) in
      (y, there, ap (λ ys. f x ∷ ys) is)

  pub changed_to-place : (f : X → X) (k : ℕ) (xs items : List X) → items ≡ changed_to f k xs → k < length xs →
      (x : X) × (slice_get items k ≡ Some x) × (slice_set items k (f x) ≡ changed_to f (k + 1) xs)
  changed_to-place f k xs items so_far within =
      let (x, there, is) = changed_to-at f k xs within in
      (x, ap (λ l. slice_get l k) so_far ∙ there, ap (λ l. slice_set l k (f x)) so_far ∙ is ∙ ap (λ n. changed_to f n xs) (let next : suc k ≡ k + 1 = omega arith in next))
