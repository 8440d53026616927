-- The least place at which two lists differ, from place to place.
use Rattle.std.proofs.Common.{◌≡◌, ℕ, ◌+◌, ◌≤◌, zero, suc, ◌<◌, Bool, true, false, cond, List, [], ◌∷◌, length, drop, get_or, Option, Some, None, refl, ap, ◌∙◌, arith}
use Rattle.std.specs.Prelude.{option_map}
use Rattle.std.proofs.lemmas.List.{drop_more}
use Rattle.hub_core.specs.Differing.{place_where}

-- a place that is counted from another
abbrev pub moved_by : ℕ → Option ℕ → Option ℕ
moved_by k o = option_map (λ n. n + k) o

moved_one : (k : ℕ) (o : Option ℕ) → moved_by k (option_map (λ n. n + 1) o) ≡ moved_by (k + 1) o
moved_one k None = refl
moved_one k (Some n) = ap (λ (m : ℕ). Some m) (omega arith)

module _ {X : Type 0} (same : X → X → Bool) where
  -- one place more, where the items are the same
  pub moved : (xs ys : List X) (k : ℕ) (d e : X) (found : Option ℕ) → k < length xs → k < length ys → same (get_or xs k d) (get_or ys k e) ≡ true →
      found ≡ moved_by k (place_where same (drop k xs) (drop k ys)) → found ≡ moved_by (k + 1) (place_where same (drop (k + 1) xs) (drop (k + 1) ys))
  moved xs ys k d e found below below' is so_far =
      let x = get_or xs k d in
      let y = get_or ys k e in
      let rest = place_where same (drop (k + 1) xs) (drop (k + 1) ys) in
      so_far ∙ ap (λ (l : List X). moved_by k (place_where same l (drop k ys))) (drop_more xs k d below)
      ∙ ap (λ (l : List X). moved_by k (place_where same (x ∷ drop (k + 1) xs) l)) (drop_more ys k e below')
      ∙ ap (λ t. moved_by k (cond t (option_map (λ n. n + 1) rest) (Some 0))) is ∙ moved_one k rest

  -- the place where the items differ, or one list ends
  pub differ_here : (xs ys : List X) (k : ℕ) (d e : X) → k < length xs → k < length ys → same (get_or xs k d) (get_or ys k e) ≡ false → place_where same (drop k xs) (drop k ys) ≡ Some 0
  differ_here xs ys k d e below below' differ =
      ap (λ (l : List X). place_where same l (drop k ys)) (drop_more xs k d below)
      ∙ ap (λ (l : List X). place_where same (get_or xs k d ∷ drop (k + 1) xs) l) (drop_more ys k e below')
      ∙ ap (λ t. cond t (option_map (λ n. n + 1) (place_where same (drop (k + 1) xs) (drop (k + 1) ys))) (Some 0)) differ

  over : (ys : List X) (k : ℕ) → length ys ≤ k → drop k ys ≡ []
  over [] zero at = refl
  over [] (suc k) at = refl
  over (y ∷ ys) zero at = absurd (omega (arith, at))
  over (y ∷ ys) (suc k) at = over ys k (omega (arith, at))

  left : (xs : List X) (k : ℕ) → k < length xs → (x : X) × (rest : List X) × (drop k xs ≡ x ∷ rest)
  left [] k below = absurd (omega (arith, below))
  left (x ∷ xs) zero below = (x, xs, refl)
  left (x ∷ xs) (suc k) below = left xs k (omega (arith, below))

  pub second_ends : (xs ys : List X) (k : ℕ) → k < length xs → length ys ≤ k → place_where same (drop k xs) (drop k ys) ≡ Some 0
  second_ends xs ys k below at =
      let (x, rest, is) = left xs k below in
      ap (λ (l : List X). place_where same l (drop k ys)) is ∙ ap (λ (l : List X). place_where same (x ∷ rest) l) (over ys k at)

  pub first_ends : (xs ys : List X) (k : ℕ) → length xs ≤ k → k < length ys → place_where same (drop k xs) (drop k ys) ≡ Some 0
  first_ends xs ys k at below =
      let (y, rest, is) = left ys k below in
      ap (λ (l : List X). place_where same (drop k xs) l) is ∙ ap (λ (l : List X). place_where same l (y ∷ rest)) (over xs k at)

pub moved_zero : (k : ℕ) → moved_by k (Some 0) ≡ Some k
moved_zero k = ap (λ (n : ℕ). Some n) (omega arith)
