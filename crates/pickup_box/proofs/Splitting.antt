-- The first piece of a value, and the others.
use Rattle.std.proofs.Common.{◌≡◌, ℕ, ◌+◌, ◌-◌, ◌<◌, ◌≤◌, suc, add-one, Bool, true, false, cond, List, [], ◌∷◌, ◌++◌, length, take, drop, get_or, refl, ap, ◌∙◌, sym, arith, append_assoc, append-nil, drop-cons}
use Rattle.std.proofs.lemmas.List.{drop_all, take_rest, length-drop}
use Rattle.std.specs.Prelude.{◌&&◌, ◌==◌, Option, Some, None}
use Rattle.std.specs.List.{filter_map, cons_option}
use Rattle.std.specs.Option.{option_to_list}
use Rattle.pickup_box.specs.declared.addresses.Inside.{Inside}
use Rattle.pickup_box.specs.declared.addresses.Inside.TheVariants as inside
use Rattle.pickup_box.specs.Addresses.{behind, is_nothing, onto, pieces, first_len, address_in, addresses}

pub within : (at : Inside) (value : List ℕ) → first_len at value ≤ length value
within at [] = omega arith
within at (b ∷ bs) = shorter (b == 44 && is_nothing at) (first_len (behind at b) bs) (within (behind at b) bs)
  where
    shorter : (t : Bool) (n : ℕ) → n ≤ length bs → cond t 0 (n + 1) ≤ length (b ∷ bs)
    shorter true n h = omega arith
    shorter false n h = omega arith

-- the pieces behind the first
abbrev pub others : List ℕ → List (List ℕ)
others [] = []
others (b ∷ bs) = pieces inside.Nothing bs

pub pieces-first : (at : Inside) (value : List ℕ) → pieces at value ≡ take (first_len at value) value ∷ others (drop (first_len at value) value)
pieces-first at [] = refl
pieces-first at (b ∷ bs) = by_comma (b == 44 && is_nothing at) (pieces (behind at b) bs) (first_len (behind at b) bs) (pieces-first (behind at b) bs)
  where
    longer : (n : ℕ) (k : ℕ) → k ≡ suc n → (b ∷ take n bs) ∷ others (drop n bs) ≡ take k (b ∷ bs) ∷ others (drop k (b ∷ bs))
    longer n k e = rw e refl

    by_comma : (t : Bool) (ps : List (List ℕ)) (n : ℕ) → ps ≡ take n bs ∷ others (drop n bs) → cond t ([] ∷ pieces inside.Nothing bs) (onto b ps) ≡ take (cond t 0 (n + 1)) (b ∷ bs) ∷ others (drop (cond t 0 (n + 1)) (b ∷ bs))
    by_comma true ps n e = refl
    by_comma false ps n e = ap (onto b) e ∙ longer n (n + 1) (add-one n)

-- the addresses behind the first piece
abbrev pub later : List ℕ → List (List ℕ)
later [] = []
later (b ∷ bs) = addresses bs

cons_option-append : {X : Type 0} (o : Option X) (xs : List X) → cons_option o xs ≡ option_to_list o ++ xs
cons_option-append None xs = refl
cons_option-append (Some x) xs = refl

later_pieces : (bs : List ℕ) → filter_map address_in (others bs) ≡ later bs
later_pieces [] = refl
later_pieces (b ∷ bs) = refl

pub addresses-first : (value : List ℕ) (n : ℕ) → n ≡ first_len inside.Nothing value → addresses value ≡ option_to_list (address_in (take n value)) ++ later (drop n value)
addresses-first value n e =
    ap (filter_map address_in) (pieces-first inside.Nothing value)
    ∙ ap (λ k. filter_map address_in (take k value ∷ others (drop k value))) (sym e)
    ∙ cons_option-append (address_in (take n value)) (filter_map address_in (others (drop n value)))
    ∙ ap (λ more. option_to_list (address_in (take n value)) ++ more) (later_pieces (drop n value))

pub goes : (first old texts : List (List ℕ)) (value rest : List ℕ) (n : ℕ) → n ≡ first_len inside.Nothing rest → n < length rest → texts ≡ old ++ option_to_list (address_in (take n rest)) → old ++ addresses rest ≡ first ++ addresses value → texts ++ addresses (take (length rest - (n + 1)) (drop (n + 1) rest)) ≡ first ++ addresses value
goes first old texts value rest n e lt h so_far =
    let behind : drop n rest ≡ get_or rest n 0 ∷ drop (n + 1) rest = rw add-one (drop-cons rest n 0 lt) in
    ap (λ x. texts ++ addresses x) (take_rest rest (n + 1))
    ∙ ap (λ x. x ++ addresses (drop (n + 1) rest)) h
    ∙ append_assoc old (option_to_list (address_in (take n rest))) (addresses (drop (n + 1) rest))
    ∙ ap (λ bs. old ++ (option_to_list (address_in (take n rest)) ++ later bs)) (sym behind)
    ∙ ap (λ x. old ++ x) (sym (addresses-first rest n e))
    ∙ so_far

pub ends : (first old texts : List (List ℕ)) (value rest : List ℕ) (n : ℕ) → n ≡ first_len inside.Nothing rest → length rest ≤ n → texts ≡ old ++ option_to_list (address_in (take n rest)) → old ++ addresses rest ≡ first ++ addresses value → texts ≡ first ++ addresses value
ends first old texts value rest n e all h so_far =
    let none : drop n rest ≡ [] = drop_all n rest all in
    h
    ∙ ap (λ x. old ++ x) (sym (append-nil (option_to_list (address_in (take n rest)))))
    ∙ ap (λ bs. old ++ (option_to_list (address_in (take n rest)) ++ later bs)) (sym none)
    ∙ ap (λ x. old ++ x) (sym (addresses-first rest n e))
    ∙ so_far

pub left : (value rest : List ℕ) (n : ℕ) → length rest ≤ length value → length (take (length rest - (n + 1)) (drop (n + 1) rest)) ≤ length value
left value rest n h = omega (arith, ap length (take_rest rest (n + 1)), length-drop (n + 1) rest)
