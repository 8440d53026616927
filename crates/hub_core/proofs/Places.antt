-- Lists by place.
use Rattle.std.proofs.Common.{◌≡◌, ◌⊎◌, ℕ, zero, suc, ◌<◌, List, [], ◌∷◌, ◌++◌, length, map, Option, Some, None, refl, ap, ◌∙◌, sym, subst, inl, inr, arith}
use Rattle.std.specs.Prelude.{slice_get, slice_set, option_map}
use Rattle.std.proofs.lemmas.Option.{slice_get-map}
use Rattle.hub_core.specs.Approvals.{changed_at, changed}

pub get-map : {X Y : Type 0} (f : X → Y) (xs : List X) (k : ℕ) (x : X) → slice_get xs k ≡ Some x → slice_get (map f xs) k ≡ Some (f x)
get-map f xs k x e = slice_get-map f xs k ∙ ap (λ o. option_map f o) e

pub map-get : {X Y : Type 0} (f : X → Y) (xs : List X) (k : ℕ) (y : Y) → slice_get (map f xs) k ≡ Some y → (x : X) × (slice_get xs k ≡ Some x) × (y ≡ f x)
map-get f [] k y e = absurd (cc)
map-get f (x ∷ xs) zero y e = (x, refl, (cc))
map-get f (x ∷ xs) (suc k) y e = map-get f xs k y e

pub get-append : {X : Type 0} (xs ys : List X) (k : ℕ) (x : X) → slice_get xs k ≡ Some x → slice_get (xs ++ ys) k ≡ Some x
get-append [] ys k x e = absurd (cc)
get-append (z ∷ xs) ys zero x e = e
get-append (z ∷ xs) ys (suc k) x e = get-append xs ys k x e

pub get-append-in : {X : Type 0} (xs ys : List X) (k : ℕ) → k < length xs → slice_get (xs ++ ys) k ≡ slice_get xs k
get-append-in [] ys k low = absurd (omega arith)
get-append-in (x ∷ xs) ys zero low = refl
get-append-in (x ∷ xs) ys (suc k) low = get-append-in xs ys k (omega arith)

pub append-get : {X : Type 0} (xs : List X) (y : X) (k : ℕ) (x : X) → slice_get (xs ++ y ∷ []) k ≡ Some x → (slice_get xs k ≡ Some x) ⊎ (x ≡ y)
append-get [] y zero x e = inr (cc)
append-get [] y (suc k) x e = absurd (cc)
append-get (z ∷ xs) y zero x e = inl e
append-get (z ∷ xs) y (suc k) x e = append-get xs y k x e

-- what stands at another place than the one that is set
pub get-set : {X : Type 0} (xs : List X) (k : ℕ) (v : X) (j : ℕ) (x : X) → slice_get xs j ≡ Some x → (slice_get (slice_set xs k v) j ≡ Some x) ⊎ (j ≡ k)
get-set [] k v j x e = absurd (cc)
get-set (y ∷ xs) zero v zero x e = inr refl
get-set (y ∷ xs) zero v (suc j) x e = inl e
get-set (y ∷ xs) (suc k) v zero x e = inl e
get-set (y ∷ xs) (suc k) v (suc j) x e = elim (get-set xs k v j x e) [ inl same ↦ inl same | inr at ↦ inr (ap suc at) ]

pub set-get : {X : Type 0} (xs : List X) (k : ℕ) (v : X) (j : ℕ) (y : X) → slice_get (slice_set xs k v) j ≡ Some y → (slice_get xs j ≡ Some y) ⊎ ((y ≡ v) × (j ≡ k))
set-get [] k v j y e = absurd (cc)
set-get (x ∷ xs) zero v zero y e = inr ((cc), refl)
set-get (x ∷ xs) zero v (suc j) y e = inl e
set-get (x ∷ xs) (suc k) v zero y e = inl e
set-get (x ∷ xs) (suc k) v (suc j) y e = elim (set-get xs k v j y e) [ inl same ↦ inl same | inr at ↦ inr (at.0, ap suc at.1) ]

tail-at : {X : Type 0} (f : X → X) (x : X) (xs : List X) (k : ℕ) (at : Option X) → changed_at f (x ∷ xs) (suc k) at ≡ x ∷ changed_at f xs k at
tail-at f x xs k None = refl
tail-at f x xs k (Some y) = refl

pub changed-tail : {X : Type 0} (f : X → X) (x : X) (xs : List X) (k : ℕ) → changed f (suc k) (x ∷ xs) ≡ x ∷ changed f k xs
changed-tail f x xs k = tail-at f x xs k (slice_get xs k)

-- what stands at a place of the changed list is what stood there, or what was made of it
pub get-changed : {X : Type 0} (f : X → X) (xs : List X) (k j : ℕ) (x : X) → slice_get xs j ≡ Some x →
    (slice_get (changed f k xs) j ≡ Some x) ⊎ (slice_get (changed f k xs) j ≡ Some (f x))
get-changed f [] k j x e = absurd (cc)
get-changed f (y ∷ xs) zero zero x e = inr (ap (λ o. option_map f o) e)
get-changed f (y ∷ xs) zero (suc j) x e = inl e
get-changed {X = X} f (y ∷ xs) (suc k) zero x e = inl (subst (λ (ys : List X). slice_get ys 0 ≡ Some x) (sym (changed-tail f y xs k)) e)
get-changed {X = X} f (y ∷ xs) (suc k) (suc j) x e =
    subst (λ (ys : List X). (slice_get ys (suc j) ≡ Some x) ⊎ (slice_get ys (suc j) ≡ Some (f x))) (sym (changed-tail f y xs k)) (get-changed f xs k j x e)

pub get-changed-own : {X : Type 0} (f : X → X) (xs : List X) (k : ℕ) (x : X) → slice_get xs k ≡ Some x → slice_get (changed f k xs) k ≡ Some (f x)
get-changed-own f [] k x e = absurd (cc)
get-changed-own f (y ∷ xs) zero x e = ap (λ o. option_map f o) e
get-changed-own {X = X} f (y ∷ xs) (suc k) x e =
    subst (λ (ys : List X). slice_get ys (suc k) ≡ Some (f x)) (sym (changed-tail f y xs k)) (get-changed-own f xs k x e)

pub changed-get : {X : Type 0} (f : X → X) (xs : List X) (k j : ℕ) (y : X) → slice_get (changed f k xs) j ≡ Some y →
    (slice_get xs j ≡ Some y) ⊎ ((x : X) × (slice_get xs j ≡ Some x) × (y ≡ f x))
changed-get f [] k j y e = absurd (cc)
changed-get f (x ∷ xs) zero zero y e = inr (x, refl, (cc))
changed-get f (x ∷ xs) zero (suc j) y e = inl e
changed-get {X = X} f (x ∷ xs) (suc k) zero y e = inl (subst (λ (ys : List X). slice_get ys 0 ≡ Some y) (changed-tail f x xs k) e)
changed-get {X = X} f (x ∷ xs) (suc k) (suc j) y e = changed-get f xs k j y (subst (λ (ys : List X). slice_get ys (suc j) ≡ Some y) (changed-tail f x xs k) e)

pub length-changed : {X : Type 0} (f : X → X) (k : ℕ) (xs : List X) → length (changed f k xs) ≡ length xs
length-changed f k [] = refl
length-changed f zero (x ∷ xs) = refl
length-changed f (suc k) (x ∷ xs) = ap length (changed-tail f x xs k) ∙ ap suc (length-changed f k xs)

pub changed-same : {X : Type 0} (k : ℕ) (xs : List X) → changed (λ x. x) k xs ≡ xs
changed-same k [] = refl
changed-same zero (x ∷ xs) = refl
changed-same (suc k) (x ∷ xs) = changed-tail (λ y. y) x xs k ∙ ap (λ rest. x ∷ rest) (changed-same k xs)

pub map-changed : {X Y : Type 0} (f : X → X) (g : X → Y) → ((x : X) → g (f x) ≡ g x) → (k : ℕ) (xs : List X) → map g (changed f k xs) ≡ map g xs
map-changed f g same k [] = refl
map-changed f g same zero (x ∷ xs) = ap (λ y. y ∷ map g xs) (same x)
map-changed f g same (suc k) (x ∷ xs) = ap (map g) (changed-tail f x xs k) ∙ ap (λ rest. g x ∷ rest) (map-changed f g same k xs)

pub map-twice : {X Y : Type 0} (f : X → X) (g : X → Y) → ((x : X) → g (f x) ≡ g x) → (xs : List X) → map g (map f xs) ≡ map g xs
map-twice f g same [] = refl
map-twice f g same (x ∷ xs) = λ i. same x i ∷ map-twice f g same xs i
