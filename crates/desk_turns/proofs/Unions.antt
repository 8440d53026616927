-- Two seats that are joined.
use Rattle.std.proofs.Common.{◌≡◌, ℕ, ◌+◌, ◌⊎◌, inl, inr, List, [], ◌∷◌, ◌++◌, length, sym, refl, ap, ◌∙◌, subst, Option, ⊎_elim, length-append, arith}
use Rattle.std.proofs.lemmas.List.{append-nil}
use mathlib.Core.Option.{none}
use mathlib.Core.List.{IsPrefix}
use Rattle.atomic_table.specs.Table.{Me, step}
use Rattle.desk_turns.specs.declared.view.Element.{Element}
use Rattle.desk_turns.specs.declared.view.View.{View}
use Rattle.desk_turns.specs.History.{calls_of, Knows, HalvesKnow, longer}
use Rattle.desk_turns.specs.Calls.{Unites}
use Rattle.desk_turns.specs.Plays.{united, settled, Sees, IsLegal}
use Rattle.desk_turns.proofs.Lists.{calls_of-append, tail_of, knows_same}

module _ {E : Type 0} where
  abbrev head_or : Element E → List (Element E) → Element E
  head_or y [] = y
  head_or y (x ∷ xs) = x

  longer_one : (xs ys : (List (Element E))) → IsPrefix xs (longer xs ys)
  longer_one [] ys = (ys, refl)
  longer_one (x ∷ xs) [] = ([], append-nil (x ∷ xs))
  longer_one (x ∷ xs) (y ∷ ys) = let p = longer_one xs ys in (p.0, ap (λ (l : (List (Element E))). x ∷ l) p.1)

  -- of two beginnings of one list the shorter begins the longer
  longer_other : (xs ys p q history : (List (Element E))) → xs ++ p ≡ history → ys ++ q ≡ history → IsPrefix ys (longer xs ys)
  longer_other [] ys p q history e f = ([], append-nil ys)
  longer_other (x ∷ xs) [] p q history e f = (x ∷ xs, refl)
  longer_other (x ∷ xs) (y ∷ ys) p q history e f =
      let both : (x ∷ xs) ++ p ≡ (y ∷ ys) ++ q = e ∙ sym f in
      let r = longer_other xs ys p q (xs ++ p) refl (ap tail_of (sym both)) in
      (r.0, λ i. head_or y (sym both i) ∷ r.1 i)

  longer_either : (xs ys p q history : (List (Element E))) → xs ++ p ≡ history → ys ++ q ≡ history → (longer xs ys ≡ xs) ⊎ (longer xs ys ≡ ys)
  longer_either [] ys p q history e f = inr refl
  longer_either (x ∷ xs) [] p q history e f = inl refl
  longer_either (x ∷ xs) (y ∷ ys) p q history e f =
      let both : (x ∷ xs) ++ p ≡ (y ∷ ys) ++ q = e ∙ sym f in
      let head : x ≡ y = ap (λ (l : (List (Element E))). head_or y l) both in
      ⊎_elim (λ (r : longer xs ys ≡ xs). inl (ap (λ (l : (List (Element E))). x ∷ l) r)) (λ (r : longer xs ys ≡ ys). inr (λ i. head i ∷ r i))
      (longer_either xs ys p q (xs ++ p) refl (ap tail_of (sym both)))

  no_length : (l : (List (Element E))) → length l ≡ 0 → l ≡ []
  no_length [] e = refl
  no_length (x ∷ xs) e = absurd (omega arith)

  -- what has no more in a list has no more in a beginning of it
  calls_between : (ns : List ℕ) (xs ys history : (List (Element E))) → IsPrefix xs ys → IsPrefix ys history → calls_of ns history ≡ calls_of ns xs → calls_of ns ys ≡ calls_of ns xs
  calls_between ns xs ys history p q same =
      let mid : calls_of ns ys ≡ calls_of ns xs ++ calls_of ns p.0 = ap (λ (l : (List (Element E))). calls_of ns l) (sym p.1) ∙ calls_of-append ns xs p.0 in
      let all : calls_of ns history ≡ calls_of ns ys ++ calls_of ns q.0 = ap (λ (l : (List (Element E))). calls_of ns l) (sym q.1) ∙ calls_of-append ns ys q.0 in
      let a : length (calls_of ns ys) ≡ length (calls_of ns xs) + length (calls_of ns p.0) = ap (λ (l : (List (Element E))). length l) mid ∙ length-append (calls_of ns xs) (calls_of ns p.0) in
      let b : length (calls_of ns xs) ≡ length (calls_of ns ys) + length (calls_of ns q.0) = ap (λ (l : (List (Element E))). length l) (sym same ∙ all) ∙ length-append (calls_of ns ys) (calls_of ns q.0) in
      let none : calls_of ns p.0 ≡ [] = no_length (calls_of ns p.0) (omega arith) in
      mid ∙ (ap (λ (l : (List (Element E))). calls_of ns xs ++ l) none ∙ append-nil (calls_of ns xs))

module _ {C E : Type 0} (does : C → E → C → Type 0) where
  abbrev V : Type 0
  V = View C E

  pub unites : (slots : ℕ) (v w : V) (m u : Me (Option C) V) (n : ℕ) → m.0 ≡ united v w → settled does (step slots 1 0 0 none) m n u → Unites does v w u.0
  unites slots v w m u n is s =
      let seen : m.0.seen ≡ longer v.seen w.seen = ap (λ (z : V). z.seen) is in
      let F : V → List (Element E) → Type 0 = λ z l. HalvesKnow l z.numbers z.halves in
      let halves : F (united v w) s.0 = subst (λ (z : V). F z s.0) is s.3 in
      let one : Knows s.0 v.numbers v.seen = halves.0 in
      let other : Knows s.0 w.numbers w.seen = halves.2.0 in
      let now : u.0 ≡ record m.0 { halves = [] } = ap (λ (z : Me (Option C) V). z.0) s.1 in
      let last : u.0.seen ≡ longer v.seen w.seen = ap (λ (z : V). z.seen) now ∙ seen in
      let here : IsPrefix (longer v.seen w.seen) s.0 = subst (λ (l : List (Element E)). IsPrefix l s.0) seen s.2.0 in
      let p = longer_one v.seen w.seen in
      let q = longer_other v.seen w.seen one.0 other.0 s.0 one.1 other.1 in
      record {
        one = subst (λ (l : List (Element E)). IsPrefix v.seen l) (sym last) p;
        other = subst (λ (l : List (Element E)). IsPrefix w.seen l) (sym last) q;
        longer_is = subst (λ (l : List (Element E)). (l ≡ v.seen) ⊎ (l ≡ w.seen)) (sym last) (longer_either v.seen w.seen one.0 other.0 s.0 one.1 other.1);
        numbers = ap (λ (z : V). z.numbers) now ∙ ap (λ (z : V). z.numbers) is;
        calls_one = ap (λ (l : List (Element E)). calls_of v.numbers l) last ∙ calls_between v.numbers v.seen (longer v.seen w.seen) s.0 p here (knows_same s.0 v.numbers v.seen one);
        calls_other = ap (λ (l : List (Element E)). calls_of w.numbers l) last ∙ calls_between w.numbers w.seen (longer v.seen w.seen) s.0 q here (knows_same s.0 w.numbers w.seen other);
        key = (ap (λ (z : V). z.start) now ∙ ap (λ (z : V). z.start) is, ap (λ (z : V). z.calls) now ∙ ap (λ (z : V). z.calls) is);
        legal = (s.0, subst (λ (z : V). Sees z s.0) (sym now) s.2, subst (λ (z : V). IsLegal does z s.0) (sym now) s.4);
      }
