-- The listing of ways lists exactly the paths.
use Rattle.std.specs.Prelude.{◌≡◌, ◌<◌, ℕ, zero, suc, Bool, true, false, ◌||◌, List, [], ◌∷◌, ◌++◌, ◌⊎◌, length, refl}
use Rattle.std.proofs.Common.{sym, subst, inl, inr, arith}
use Rattle.std.specs.List.{flat_map}
use Rattle.std.specs.Str.{bytes_eq}
use Rattle.org_directory.specs.Register.{among}
use Rattle.group_expand.specs.Ways.{Web, ways, here, unless}
use Rattle.group_expand.specs.declared.way.Way.{Way}
use Rattle.org_directory.proofs.Offered.{same_key, key_is_itself}
use Rattle.group_expand.specs.Paths.{Has, IsChain, NoRepeat, way_through, ListsAll}
use Rattle.group_expand.proofs.Growth.{Has-front, Has-behind, Has-parts}

Has-at : (w : Way) (f : List ℕ → List Way) (m : List ℕ) (ks : List (List ℕ)) → among m ks ≡ true → Has w (f m) → Has w (flat_map f ks)
Has-at w f m [] inside h = absurd (cc inside)
Has-at w f m (k ∷ ks) inside h = by_same (λ i. Has-at w f m ks i h) (bytes_eq m k) refl inside
  where
    by_same : (among m ks ≡ true → Has w (flat_map f ks)) → (b : Bool) → bytes_eq m k ≡ b → (b || among m ks) ≡ true → Has w (f k ++ flat_map f ks)
    by_same again true e _ = Has-front w (f k) (flat_map f ks) (subst (λ x. Has w (f x)) (same_key m k e) h)
    by_same again false e i = Has-behind w (f k) (flat_map f ks) (again i)

pub ways-all : (web : Web) (room : ℕ) (passed : List (List ℕ)) (k : List ℕ) (ks : List (List ℕ))
    → length ks < room → IsChain web k ks → NoRepeat passed k ks → Has (way_through passed k ks) (ways web room passed k)
unfolding ways
ways-all web zero passed k ks short chain once = absurd (omega arith)
ways-all web (suc room) passed k [] short chain once = rw (once, chain) (inl refl)
ways-all web (suc room) passed k (m ∷ ms) short chain once =
    let later : Has (way_through (passed ++ k ∷ []) m ms) (ways web room (passed ++ k ∷ []) m)
    = ways-all web room (passed ++ k ∷ []) m ms (omega arith) chain.1 once.1 in
    rw once.0 (Has-behind (way_through (passed ++ k ∷ []) m ms) (here (web.is_end k) passed k) (flat_map (ways web room (passed ++ k ∷ [])) (web.next k))
    (Has-at (way_through (passed ++ k ∷ []) m ms) (ways web room (passed ++ k ∷ [])) m (web.next k) chain.0 later))

abbrev pub Listed : Web → ℕ → List (List ℕ) → List ℕ → Way → Type 0
Listed web room passed k w = (ks : List (List ℕ)) × (length ks < room) × IsChain web k ks × NoRepeat passed k ks × (w ≡ way_through passed k ks)

flat-from : (w : Way) (f : List ℕ → List Way) (ks : List (List ℕ)) → Has w (flat_map f ks) → (m : List ℕ) × (among m ks ≡ true) × Has w (f m)
flat-from w f [] h = absurd h
flat-from w f (k ∷ ks) h = by_part (λ h. flat-from w f ks h) (Has-parts w (f k) (flat_map f ks) h)
  where
    later : (m : List ℕ) × (among m ks ≡ true) × Has w (f m) → (m : List ℕ) × (among m (k ∷ ks) ≡ true) × Has w (f m)
    later t = (t.0, or-second (bytes_eq t.0 k) (among t.0 ks) t.1, t.2)
      where
        or-second : (b c : Bool) → c ≡ true → (b || c) ≡ true
        or-second true c h = refl
        or-second false c h = h

    first : Has w (f k) → (m : List ℕ) × (among m (k ∷ ks) ≡ true) × Has w (f m)
    first h = (k, rw (key_is_itself k) refl, h)

    by_part : (Has w (flat_map f ks) → (m : List ℕ) × (among m ks ≡ true) × Has w (f m)) → Has w (f k) ⊎ Has w (flat_map f ks) → (m : List ℕ) × (among m (k ∷ ks) ≡ true) × Has w (f m)
    by_part again (inl a) = first a
    by_part again (inr b) = later (again b)

pub ways-listed : (web : Web) (room : ℕ) (passed : List (List ℕ)) (k : List ℕ) (w : Way) → Has w (ways web room passed k) → Listed web room passed k w
unfolding ways
ways-listed web zero passed k w h = absurd h
ways-listed web (suc room) passed k w h = by_test (λ m h. ways-listed web room (passed ++ k ∷ []) m w h) (among k passed) refl h
  where
    from_here : among k passed ≡ false → (b : Bool) → web.is_end k ≡ b → Has w (here b passed k) → Listed web (suc room) passed k w
    from_here off true e (inl same) = ([], omega arith, e, off, same)
    from_here off true e (inr h) = absurd h
    from_here off false e h = absurd h

    longer : among k passed ≡ false → (m : List ℕ) → among m (web.next k) ≡ true → Listed web room (passed ++ k ∷ []) m w → Listed web (suc room) passed k w
    longer off m follows t =
        let short : length t.0 < room = t.1 in
        (m ∷ t.0, omega (arith, short), (follows, t.2), (off, t.3), t.4)

    from_next : ((m : List ℕ) → Has w (ways web room (passed ++ k ∷ []) m) → Listed web room (passed ++ k ∷ []) m w) → among k passed ≡ false
        → (m : List ℕ) × (among m (web.next k) ≡ true) × Has w (ways web room (passed ++ k ∷ []) m) → Listed web (suc room) passed k w
    from_next again off t = longer off t.0 t.1 (again t.0 t.2)

    by_part : ((m : List ℕ) → Has w (ways web room (passed ++ k ∷ []) m) → Listed web room (passed ++ k ∷ []) m w) → among k passed ≡ false
        → Has w (here (web.is_end k) passed k) ⊎ Has w (flat_map (ways web room (passed ++ k ∷ [])) (web.next k)) → Listed web (suc room) passed k w
    by_part again off (inl a) = from_here off (web.is_end k) refl a
    by_part again off (inr b) = from_next again off (flat-from w (ways web room (passed ++ k ∷ [])) (web.next k) b)

    by_test : ((m : List ℕ) → Has w (ways web room (passed ++ k ∷ []) m) → Listed web room (passed ++ k ∷ []) m w) → (b : Bool) → among k passed ≡ b
        → Has w (unless b (here (web.is_end k) passed k ++ flat_map (ways web room (passed ++ k ∷ [])) (web.next k))) → Listed web (suc room) passed k w
    by_test again true e h = absurd h
    by_test again false e h = by_part again e (Has-parts w (here (web.is_end k) passed k) (flat_map (ways web room (passed ++ k ∷ [])) (web.next k)) h)

pub lists-all : ListsAll
lists-all web room root w = (
  ways-listed web room [] root w,
  λ t. subst (λ x. Has x (ways web room [] root)) (sym t.4) (ways-all web room [] root t.0 t.1 t.2 t.3),
)
