-- Tests of a list, element by element.
use Rattle.std.proofs.Common.{◌≡◌, ℕ, ◌+◌, ◌<◌, ◌≤◌, Bool, true, false, List, length, drop, get_or, sym, ap, ◌∙◌}
use Rattle.std.specs.Prelude.{◌&&◌, ◌||◌}
use Rattle.std.specs.List.{list_all, list_any}
use Rattle.std.proofs.lemmas.Bool.{and_parts}
use Rattle.std.proofs.lemmas.List.{at_drop_more, at_drop_all}

module _ {X : Type 0} (p : X → Bool) (xs : List X) (i : ℕ) where
  pub list_all-rest : (x : X) → i < length xs → list_all p (drop i xs) ≡ true → list_all p (drop (i + 1) xs) ≡ true
  list_all-rest x h all = (and_parts (p (get_or xs i x)) (list_all p (drop (i + 1) xs)) (sym (at_drop_more (list_all p) xs i x h) ∙ all)).1

  pub list_all-passed : (x : X) → i < length xs → x ≡ get_or xs i x → p x ≡ true → list_all p (drop (i + 1) xs) ≡ list_all p (drop i xs)
  list_all-passed x h at is = sym (at_drop_more (list_all p) xs i x h ∙ ap (λ (b : Bool). b && list_all p (drop (i + 1) xs)) (sym (ap p at) ∙ is))

  pub list_all-end : length xs ≤ i → list_all p (drop i xs) ≡ true
  list_all-end h = at_drop_all (list_all p) xs i h

  pub list_any-passed : (x : X) → i < length xs → x ≡ get_or xs i x → p x ≡ false → list_any p (drop (i + 1) xs) ≡ list_any p (drop i xs)
  list_any-passed x h at is = sym (at_drop_more (list_any p) xs i x h ∙ ap (λ (b : Bool). b || list_any p (drop (i + 1) xs)) (sym (ap p at) ∙ is))

  pub list_any-end : length xs ≤ i → list_any p (drop i xs) ≡ false
  list_any-end h = at_drop_all (list_any p) xs i h
