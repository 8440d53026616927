-- One element of a list, and those behind it.
use Rattle.std.specs.Prelude.{◌≡◌, ◌+◌, ◌&&◌, ◌||◌, ◌++◌, ℕ, zero, suc, Bool, List, [], ◌∷◌, drop, map, slice_get, Some}
use Rattle.std.proofs.Common.{sym, ◌∙◌, ap, subst, arith, append_assoc}
use Rattle.std.specs.List.{list_all, list_any}

pub drop-get : {X : Type 0} (xs : List X) (i : ℕ) (x : X) → slice_get xs i ≡ Some x → drop i xs ≡ x ∷ drop (i + 1) xs
drop-get [] i x h = absurd (cc h)
drop-get (y ∷ ys) zero x h = cc h
drop-get (y ∷ ys) (suc i) x h =
    let next : suc (i + 1) ≡ suc i + 1 = omega arith in
    subst (λ n. drop (suc i) (y ∷ ys) ≡ x ∷ drop n (y ∷ ys)) next (drop-get ys i x h)

pub all-step : {X : Type 0} (p : X → Bool) (xs : List X) (i : ℕ) (x : X) → slice_get xs i ≡ Some x → list_all p (drop i xs) ≡ (p x && list_all p (drop (i + 1) xs))
all-step p xs i x h = ap (list_all p) (drop-get xs i x h)

pub any-step : {X : Type 0} (p : X → Bool) (xs : List X) (i : ℕ) (x : X) → slice_get xs i ≡ Some x → list_any p (drop i xs) ≡ (p x || list_any p (drop (i + 1) xs))
any-step p xs i x h = ap (list_any p) (drop-get xs i x h)

pub map-step : {X Y : Type 0} (f : X → Y) (done : List Y) (xs : List X) (i : ℕ) (x : X) → slice_get xs i ≡ Some x
    → (done ++ f x ∷ []) ++ map f (drop (i + 1) xs) ≡ done ++ map f (drop i xs)
map-step f done xs i x h = append_assoc done (f x ∷ []) (map f (drop (i + 1) xs)) ∙ ap (λ ys. done ++ map f ys) (sym (drop-get xs i x h))
