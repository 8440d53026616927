-- Facts on keys, on the first of each end, and on what was had.
use Rattle.std.specs.Prelude.{◌≡◌, ℕ, Bool, true, ◌||◌, List, [], ◌∷◌, ◌++◌, ◌⊎◌, refl}
use Rattle.std.proofs.Common.{ap, arith}
use Rattle.std.proofs.lemmas.Grind.{common_steps}
use Rattle.std.specs.List.{flat_map}
use Rattle.std.specs.Str.{bytes_eq}
use Rattle.org_directory.proofs.Offered.{key_is_itself}
use Rattle.std.proofs.lemmas.List.Folds.{list_any-append}
use Rattle.group_expand.specs.declared.way.Way.{Way}
use Rattle.org_directory.specs.Register.{among}
use Rattle.group_expand.specs.Ways.{fresh}

-- each way ends at a key that was had
abbrev pub AllHad : (List ℕ → Bool) → List Way → Type 0
AllHad had [] = Unit {0}
AllHad had (w ∷ ws) = (had w.key ≡ true) × AllHad had ws

pub AllHad-append : (had : List ℕ → Bool) (xs ys : List Way) → AllHad had xs → AllHad had ys → AllHad had (xs ++ ys)
AllHad-append had [] ys a b = b
AllHad-append had (x ∷ xs) ys a b = (a.0, AllHad-append had xs ys a.1 b)

-- what ends at keys that were had gives nothing
pub fresh-skip : (had : List ℕ → Bool) (xs ys : List Way) → AllHad had xs → fresh had (xs ++ ys) ≡ fresh had ys
fresh-skip had [] ys a = refl
fresh-skip had (x ∷ xs) ys a = rw a.0 (fresh-skip had xs ys a.1)

-- two memories that agree at the ends of the ways
abbrev pub Agree : (List ℕ → Bool) → (List ℕ → Bool) → List Way → Type 0
Agree f g [] = Unit {0}
Agree f g (w ∷ ws) = (f w.key ≡ g w.key) × Agree f g ws

pub Agree-more : (e f g : List ℕ → Bool) (ws : List Way) → Agree f g ws → Agree (λ k. e k || f k) (λ k. e k || g k) ws
Agree-more e f g [] a = tt
Agree-more e f g (w ∷ ws) a = (ap (λ b. e w.key || b) a.0, Agree-more e f g ws a.1)

pub fresh-agree : (f g : List ℕ → Bool) (ws : List Way) → Agree f g ws → fresh f ws ≡ fresh g ws
fresh-agree f g [] a = refl
fresh-agree f g (w ∷ ws) a =
    rw (a.0, fresh-agree f g ws a.1, fresh-agree (λ k. bytes_eq k w.key || f k) (λ k. bytes_eq k w.key || g k) ws (Agree-more (λ k. bytes_eq k w.key) f g ws a.1))

pub in_front : (k : List ℕ) (xs ys : List (List ℕ)) → among k xs ≡ true → among k (xs ++ ys) ≡ true
in_front k xs ys h = rw (list_any-append, h)

pub behind : (k : List ℕ) (xs ys : List (List ℕ)) → among k ys ≡ true → among k (xs ++ ys) ≡ true
behind k xs ys h = grind (arith, common_steps, list_any-append (bytes_eq k) xs ys)

pub in_parts : (k : List ℕ) (xs ys : List (List ℕ)) → among k (xs ++ ys) ≡ true → (among k xs ≡ true) ⊎ (among k ys ≡ true)
in_parts k xs ys h = grind (arith, common_steps, list_any-append (bytes_eq k) xs ys)

pub all_flat : (had : List ℕ → Bool) (f : List ℕ → List Way) (ks : List (List ℕ))
    → ((k : List ℕ) → among k ks ≡ true → AllHad had (f k)) → AllHad had (flat_map f ks)
all_flat had f [] h = tt
all_flat had f (k ∷ ks) h =
    let first : among k (k ∷ ks) ≡ true = rw (key_is_itself k) refl in
    AllHad-append had (f k) (flat_map f ks) (h k first)
    (all_flat had f ks (λ x inside. h x (grind (arith, common_steps, inside))))
