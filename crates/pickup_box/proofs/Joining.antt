-- The pieces of a value, joined, and each alone.
use Rattle.std.proofs.Common.{◌≡◌, ℕ, Bool, true, false, cond, List, [], ◌∷◌, take, drop, refl, ap, ◌∙◌, sym, arith}
use Rattle.std.specs.Prelude.{◌&&◌, ◌==◌}
use Rattle.std.specs.List.{join_with_byte}
use Rattle.pickup_box.specs.declared.addresses.Inside.{Inside}
use Rattle.pickup_box.specs.declared.addresses.Inside.TheVariants as inside
use Rattle.pickup_box.specs.Addresses.{behind, is_nothing, onto, pieces, first_len, AreWhole}
use Rattle.pickup_box.proofs.Splitting.{others, pieces-first}

is_comma : (b : ℕ) (t : Bool) → (b == 44 && t) ≡ true → 44 ≡ b
is_comma b t h = grind arith

join-onto : (b : ℕ) (ps : List (List ℕ)) → join_with_byte 44 (onto b ps) ≡ b ∷ join_with_byte 44 ps
join-onto b [] = refl
join-onto b (p ∷ []) = refl
join-onto b (p ∷ q ∷ ps) = refl

pub join-pieces : (at : Inside) (value : List ℕ) → join_with_byte 44 (pieces at value) ≡ value
join-pieces at [] = refl
join-pieces at (b ∷ bs) = by_comma (b == 44 && is_nothing at) refl (join-pieces inside.Nothing bs) (join-pieces (behind at b) bs)
  where
    split : (ps : List (List ℕ)) (p : List ℕ) (qs : List (List ℕ)) → ps ≡ p ∷ qs → join_with_byte 44 ([] ∷ ps) ≡ 44 ∷ join_with_byte 44 ps
    split ps p qs e = ap (λ l. join_with_byte 44 ([] ∷ l)) e ∙ ap (λ l. 44 ∷ join_with_byte 44 l) (sym e)

    by_comma : (t : Bool) → (b == 44 && is_nothing at) ≡ t → join_with_byte 44 (pieces inside.Nothing bs) ≡ bs → join_with_byte 44 (pieces (behind at b) bs) ≡ bs → join_with_byte 44 (cond t ([] ∷ pieces inside.Nothing bs) (onto b (pieces (behind at b) bs))) ≡ b ∷ bs
    by_comma true e more next =
        split (pieces inside.Nothing bs) (take (first_len inside.Nothing bs) bs) (others (drop (first_len inside.Nothing bs) bs)) (pieces-first inside.Nothing bs)
        ∙ ap (λ l. 44 ∷ l) more
        ∙ ap (λ c. c ∷ bs) (is_comma b (is_nothing at) e)
    by_comma false e more next = join-onto b (pieces (behind at b) bs) ∙ ap (λ l. b ∷ l) next

pub whole-pieces : (at : Inside) (value : List ℕ) → AreWhole at (pieces at value)
whole-pieces at [] = (refl, tt)
whole-pieces at (b ∷ bs) = by_comma (b == 44 && is_nothing at) refl (whole-pieces inside.Nothing bs) (whole-pieces (behind at b) bs)
  where
    longer : (ps : List (List ℕ)) → (b == 44 && is_nothing at) ≡ false → AreWhole (behind at b) ps → AreWhole at (onto b ps)
    longer [] e w = (ap (λ t. cond t ([] ∷ pieces inside.Nothing []) (onto b (pieces (behind at b) []))) e, tt)
    longer (p ∷ ps) e w = (ap (λ t. cond t ([] ∷ pieces inside.Nothing p) (onto b (pieces (behind at b) p))) e ∙ ap (onto b) w.0, w.1)

    by_comma : (t : Bool) → (b == 44 && is_nothing at) ≡ t → AreWhole inside.Nothing (pieces inside.Nothing bs) → AreWhole (behind at b) (pieces (behind at b) bs) → AreWhole at (cond t ([] ∷ pieces inside.Nothing bs) (onto b (pieces (behind at b) bs)))
    by_comma true e more next = (refl, more)
    by_comma false e more next = longer (pieces (behind at b) bs) e next
