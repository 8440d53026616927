-- A path without a repeated key has no more keys than there are objects, and one.
use Rattle.std.specs.Prelude.{◌≡◌, ◌<◌, ◌≤◌, ◌+◌, ℕ, Bool, true, false, if◌then◌else◌, List, [], ◌∷◌, ◌++◌, length, map, Option, Some, None, unwrap_or, ◌↔◌, refl}
use Rattle.std.proofs.Common.{sym, ◌∙◌, ap, subst, arith, eqb, length-append}
use Rattle.std.proofs.lemmas.List.{length-map, map-append}
use Rattle.std.proofs.lemmas.Map.Steps.{length-le_from_distinct_below}
use Rattle.std.proofs.lemmas.Map.Keys.{IsDistinct-push}
use Rattle.std.specs.List.{list_any, IsDistinct}
use Rattle.std.specs.Cmp.{nat_eq_equiv}
use Rattle.org_directory.specs.Register.{among, Register, keys_at, onward_in, place_of, object_at, onward_of}
use Rattle.group_expand.specs.Ways.{ways}
use Rattle.group_expand.specs.Routes.{web_of}
use Rattle.group_expand.specs.Paths.{Has, IsChain, NoRepeat, way_through, ListsEvery}
use Rattle.org_directory.proofs.Offered.{number, Objects, number-new, numbers-below}
use Rattle.group_expand.proofs.Listed.{lists-all}

Objects-push : (reg : Register) (ks : List (List ℕ)) (k : List ℕ) → Objects reg ks → (p : ℕ) × (place_of reg k ≡ Some p) → Objects reg (ks ++ k ∷ [])
Objects-push reg [] k a b = (b, tt)
Objects-push reg (x ∷ xs) k a b = (a.0, Objects-push reg xs k a.1 b)

-- what something follows is an object
carrier-there : (reg : Register) (closed : List ℕ → Bool) (k m : List ℕ) → among m ((web_of reg closed).next k) ≡ true → (p : ℕ) × (place_of reg k ≡ Some p)
carrier-there reg closed k m h = by_closed (closed k) h
  where
    by_place : (o : Option ℕ) → place_of reg k ≡ o → among m (keys_at reg (onward_in (object_at reg o))) ≡ true → (p : ℕ) × (place_of reg k ≡ Some p)
    by_place None e h = absurd (cc h)
    by_place (Some p) e h = (p, e)

    by_closed : (b : Bool) → among m (if b then [] else onward_of reg k) ≡ true → (p : ℕ) × (place_of reg k ≡ Some p)
    by_closed true h = absurd (cc h)
    by_closed false h = by_place (place_of reg k) refl h

chain-short : (reg : Register) (closed : List ℕ → Bool) (passed : List (List ℕ)) (k : List ℕ) (ks : List (List ℕ))
    → Objects reg passed → IsDistinct eqb (map (number reg) passed) → IsChain (web_of reg closed) k ks → NoRepeat passed k ks
    → length passed + length ks ≤ length reg.objects
chain-short reg closed passed k [] objects distinct chain once =
    let few : length (map (number reg) passed) ≤ length reg.objects
    = length-le_from_distinct_below (map (number reg) passed) (length reg.objects) distinct (λ q h. numbers-below reg passed q objects h) in
    let size : length (map (number reg) passed) ≡ length passed = length-map passed (number reg) in
    omega (arith, few, size)
chain-short reg closed passed k (m ∷ ms) objects distinct chain once =
    let there : (p : ℕ) × (place_of reg k ≡ Some p) = carrier-there reg closed k m chain.0 in
    let k-is : number reg k ≡ there.0 = ap (λ o. unwrap_or o 0) there.1 in
    let new : list_any (eqb there.0) (map (number reg) passed) ≡ false = number-new reg passed k there.0 objects there.1 once.0 in
    let more : IsDistinct eqb (map (number reg) passed ++ there.0 ∷ []) = IsDistinct-push nat_eq_equiv (map (number reg) passed) there.0 distinct new in
    let maps : map (number reg) (passed ++ k ∷ []) ≡ map (number reg) passed ++ there.0 ∷ []
    = map-append (number reg) passed (k ∷ []) ∙ ap (λ n. map (number reg) passed ++ n ∷ []) k-is in
    let rest : length (passed ++ k ∷ []) + length ms ≤ length reg.objects
    = chain-short reg closed (passed ++ k ∷ []) m ms (Objects-push reg passed k objects there) (subst (λ xs. IsDistinct eqb xs) (sym maps) more) chain.1 once.1 in
    let size : length (passed ++ k ∷ []) ≡ length passed + 1 = length-append passed (k ∷ []) in
    omega (arith, rest, size)

none-distinct : IsDistinct eqb []
unfolding IsDistinct
none-distinct = tt

pub lists-every : ListsEvery
lists-every reg closed root w = (
  λ h. drop_length (to.0 h),
  λ t. to.1 (t.0, short t.0 t.1 t.2, t.1, t.2, t.3),
)
  where
    to : Has w (ways (web_of reg closed) (length reg.objects + 1) [] root) ↔ ((ks : List (List ℕ)) × (length ks < length reg.objects + 1) × IsChain (web_of reg closed) root ks × NoRepeat [] root ks × (w ≡ way_through [] root ks))
    to = lists-all (web_of reg closed) (length reg.objects + 1) root w

    short : (ks : List (List ℕ)) → IsChain (web_of reg closed) root ks → NoRepeat [] root ks → length ks < length reg.objects + 1
    short ks chain once =
        let few : length {A = List ℕ} [] + length ks ≤ length reg.objects = chain-short reg closed [] root ks tt none-distinct chain once in
        let none : length {A = List ℕ} [] ≡ 0 = refl in
        omega (arith, few, none)

    drop_length : (ks : List (List ℕ)) × (length ks < length reg.objects + 1) × IsChain (web_of reg closed) root ks × NoRepeat [] root ks × (w ≡ way_through [] root ks)
        → (ks : List (List ℕ)) × IsChain (web_of reg closed) root ks × NoRepeat [] root ks × (w ≡ way_through [] root ks)
    drop_length t = (t.0, t.2, t.3, t.4)
