-- Histories as lists, and views that are set.
use Rattle.std.proofs.Common.{◌≡◌, ◌≢◌, ℕ, zero, suc, ◌<◌, ◌==◌, ◌||◌, ◌⊎◌, Bool, Option, Some, true, false, cond, List, [], ◌∷◌, ◌++◌, length, set, sym, refl, ap, ◌∙◌, subst, inl, inr, ⊎_elim, arith, append_assoc, eq-eqb, eqb-true}
use Rattle.std.proofs.lemmas.List.{append-nil}
use Rattle.std.proofs.lemmas.List.Elements.{filter-append}
use mathlib.Core.Option.{some, some-injective, some-ne-none}
use mathlib.Core.List.{IsPrefix}
use lib.ListN.{get_elem?}
use Rattle.atomic_table.proofs.Lists.{at_set}
use Rattle.desk_turns.specs.declared.view.Element.{Element}
use Rattle.desk_turns.specs.declared.view.Half.{Half}
use Rattle.desk_turns.specs.History.{is_among, calls_of, Leads, LeadsFrom, Knows, HalvesKnow, longer}

pub same_number : (n : ℕ) → (n == n) ≡ true
same_number n = eq-eqb n n refl

pub is_among-more : (n : ℕ) (ms ns : List ℕ) → is_among n (ms ++ ns) ≡ (is_among n ms || is_among n ns)
is_among-more n [] ns = refl
is_among-more n (m ∷ ms) ns = elim (n == m) as (λ b. (b || is_among n (ms ++ ns)) ≡ ((b || is_among n ms) || is_among n ns)) [ true ↦ refl | false ↦ is_among-more n ms ns ]

pub not_true : (b : Bool) → b ≢ true → b ≡ false
not_true true n = absurd (n refl)
not_true false n = refl

module _ {A : Type 0} where
  pub at_inside : (l : List A) (i : ℕ) (a : A) → get_elem? l i ≡ some a → i < length l
  at_inside [] i a e = absurd (some-ne-none a (sym e))
  at_inside (x ∷ xs) zero a e = omega arith
  at_inside (x ∷ xs) (suc i) a e = let r = at_inside xs i a e in omega arith

  pub same_at : (l : List A) (i : ℕ) (a b : A) → get_elem? l i ≡ some a → get_elem? l i ≡ some b → a ≡ b
  same_at l i a b e f = some-injective a b (sym e ∙ f)

  -- what holds of each view holds of each where one is set
  pub each_set : (P : ℕ → A → Type 0) (vs : List A) (id : ℕ) (w : A) → P id w → ((j : ℕ) (v : A) → j ≢ id → get_elem? vs j ≡ some v → P j v)
      → (j : ℕ) (v : A) → get_elem? (set vs id w) j ≡ some v → P j v
  each_set P vs id w mine others j v e = ⊎_elim (λ (t : (j ≡ id) × (w ≡ v)). subst (λ (x : ℕ × A). P x.0 x.1) (λ i. (sym t.0 i, t.1 i)) mine)
      (λ (t : (j ≢ id) × (get_elem? vs j ≡ some v)). others j v t.0 t.1) (at_set vs id j w v e)

module _ {E : Type 0} where
  pub calls_of-append : (ns : List ℕ) (xs ys : List (Element E)) → calls_of ns (xs ++ ys) ≡ calls_of ns xs ++ calls_of ns ys
  calls_of-append ns xs ys = filter-append (λ (l : Element E). is_among l.by ns) xs ys

  pub calls_of_other : (ns : List ℕ) (l : Element E) → is_among l.by ns ≡ false → calls_of ns (l ∷ []) ≡ []
  calls_of_other ns l miss = let F : Bool → List (Element E) = λ b. cond b (l ∷ []) [] in ap F miss

  pub calls_of_own : (ns : List ℕ) (l : Element E) → is_among l.by ns ≡ true → calls_of ns (l ∷ []) ≡ l ∷ []
  calls_of_own ns l hit = let F : Bool → List (Element E) = λ b. cond b (l ∷ []) [] in ap F hit

  -- one more number of which each element is known takes in nothing
  pub calls_of_known : (n : ℕ) (ns : List ℕ) (ls : List (Element E)) → ((k : ℕ) (l : Element E) → get_elem? ls k ≡ some l → l.by ≡ n → is_among l.by ns ≡ true) → calls_of (n ∷ ns) ls ≡ calls_of ns ls
  calls_of_known n ns [] known = refl
  calls_of_known n ns (l ∷ ls) known =
      let more = calls_of_known n ns ls (λ k x at. known (suc k) x at) in
      let G : Bool → List (Element E) → List (Element E) = λ b xs. cond b (l ∷ xs) xs in
      let same : is_among l.by (n ∷ ns) ≡ is_among l.by ns = elim (l.by == n) as (λ b. (l.by == n) ≡ b → (b || is_among l.by ns) ≡ is_among l.by ns)
      [ true ↦ (λ e. sym (known 0 l refl (eqb-true l.by n e))) | false ↦ (λ _. refl) ] refl in
      λ i. G (same i) (more i)

  pub knows_same : (history : List (Element E)) (ns : List ℕ) (seen : List (Element E)) → Knows history ns seen → calls_of ns history ≡ calls_of ns seen
  knows_same history ns seen f = ap (λ (l : List (Element E)). calls_of ns l) (sym f.1) ∙ (calls_of-append ns seen f.0 ∙ (ap (λ (l : List (Element E)). calls_of ns seen ++ l) f.2 ∙ append-nil (calls_of ns seen)))

  pub knows_all : (history : List (Element E)) (ns : List ℕ) → Knows history ns history
  knows_all history ns = ([], append-nil history, refl)

  -- an element of another seat
  pub knows_more : (history : List (Element E)) (ns : List ℕ) (seen : List (Element E)) (l : Element E) → Knows history ns seen → is_among l.by ns ≡ false → Knows (history ++ l ∷ []) ns seen
  knows_more history ns seen l f miss = (
    f.0 ++ l ∷ [],
    sym (append_assoc seen f.0 (l ∷ [])) ∙ ap (λ (x : List (Element E)). x ++ l ∷ []) f.1,
    calls_of-append ns f.0 (l ∷ []) ∙ λ i. f.2 i ++ calls_of_other ns l miss i,
  )

  pub knows_prefix : (history : List (Element E)) (ns : List ℕ) (seen : List (Element E)) → Knows history ns seen → IsPrefix seen history
  knows_prefix history ns seen f = (f.0, f.1)

module _ {E : Type 0} where
  pub halves_more : (history : List (Element E)) (ns : List ℕ) (hs : List (Half E)) (l : Element E) → HalvesKnow history ns hs → is_among l.by ns ≡ false → HalvesKnow (history ++ l ∷ []) ns hs
  halves_more history ns [] l h miss = tt
  halves_more history ns (x ∷ xs) l h miss = (knows_more history x.numbers x.seen l h.0 (not_true (is_among l.by x.numbers) (λ e. let f : true ≡ false = sym (h.1 l.by e) ∙ miss in cc)), h.1, halves_more history ns xs l h.2 miss)

module _ {C E : Type 0} (does : C → E → C → Type 0) where
  pub leads_more : (a : C) (ls : List (Element E)) (b c : C) (l : Element E) → Leads does a ls b → does b l.deed c → Leads does a (ls ++ l ∷ []) c
  leads_more a [] b c l r d = (c, subst (λ (x : C). does x l.deed c) (sym r) d, refl)
  leads_more a (x ∷ xs) b c l r d = (r.0, r.1, leads_more r.0 xs b c l r.2 d)

  pub from_start : (start : Option C) (a : C) (ls : List (Element E)) (c : C) → start ≡ Some a → Leads does a ls c → LeadsFrom does start ls c
  from_start start a ls c e r = subst (λ (o : Option C). LeadsFrom does o ls c) (sym e) r

  pub start_from : (start : Option C) (a : C) (ls : List (Element E)) (c : C) → start ≡ Some a → LeadsFrom does start ls c → Leads does a ls c
  start_from start a ls c e r = subst (λ (o : Option C). LeadsFrom does o ls c) e r

module _ {A : Type 0} where
  pub at_end : (l : List A) (a b : A) (j : ℕ) → get_elem? (l ++ a ∷ []) j ≡ some b → (get_elem? l j ≡ some b) ⊎ ((j ≡ length l) × (a ≡ b))
  at_end [] a b zero e = inr (refl, some-injective a b e)
  at_end [] a b (suc j) e = absurd (some-ne-none b (sym e))
  at_end (x ∷ xs) a b zero e = inl e
  at_end (x ∷ xs) a b (suc j) e = ⊎_elim (λ t. inl t) (λ (t : (j ≡ length xs) × (a ≡ b)). let n = t.0 in inr (omega arith, t.1)) (at_end xs a b j e)

  pub append_none : (xs ys : List A) → xs ++ ys ≡ [] → ys ≡ []
  append_none [] ys e = e
  append_none (x ∷ xs) ys e = absurd cc

  abbrev pub tail_of : List A → List A
  tail_of [] = []
  tail_of (x ∷ xs) = xs

  neither : (b c : Bool) (x : A) (xs ys zs : List A) → cond b (x ∷ xs) xs ≡ [] → cond c (x ∷ ys) ys ≡ [] → (xs ≡ [] → ys ≡ [] → zs ≡ []) → cond (b || c) (x ∷ zs) zs ≡ []
  neither true c x xs ys zs e f go = absurd cc
  neither false true x xs ys zs e f go = absurd cc
  neither false false x xs ys zs e f go = go e f

module _ {E : Type 0} where
  pub calls_of_none : (ls : List (Element E)) → calls_of [] ls ≡ []
  calls_of_none [] = refl
  calls_of_none (l ∷ ls) = calls_of_none ls

  none_both : (a b : List ℕ) (ls : List (Element E)) → calls_of a ls ≡ [] → calls_of b ls ≡ [] → calls_of (a ++ b) ls ≡ []
  none_both a b [] e f = refl
  none_both a b (l ∷ ls) e f = ap (λ (c : Bool). cond c (l ∷ calls_of (a ++ b) ls) (calls_of (a ++ b) ls)) (is_among-more l.by a b)
      ∙ neither (is_among l.by a) (is_among l.by b) l (calls_of a ls) (calls_of b ls) (calls_of (a ++ b) ls) e f (none_both a b ls)

  none_behind : (a : List ℕ) (xs ys : List (Element E)) → calls_of a (xs ++ ys) ≡ [] → calls_of a ys ≡ []
  none_behind a xs ys e = append_none (calls_of a xs) (calls_of a ys) (sym (calls_of-append a xs ys) ∙ e)

  pub knows_longer : (history : List (Element E)) (a b : List ℕ) (xs ys : List (Element E)) → Knows history a xs → Knows history b ys → Knows history (a ++ b) (longer xs ys)
  knows_longer history a b [] ys f g = (g.0, g.1, none_both a b g.0 (none_behind a ys g.0 (ap (λ (l : List (Element E)). calls_of a l) (g.1 ∙ sym f.1) ∙ f.2)) g.2)
  knows_longer history a b (x ∷ xs) [] f g = (f.0, f.1, none_both a b f.0 f.2 (none_behind b (x ∷ xs) f.0 (ap (λ (l : List (Element E)). calls_of b l) (f.1 ∙ sym g.1) ∙ g.2)))
  knows_longer history a b (x ∷ xs) (y ∷ ys) f g =
      let r = knows_longer (xs ++ f.0) a b xs ys (f.0, refl, f.2) (g.0, ap tail_of (g.1 ∙ sym f.1), g.2) in
      (r.0, ap (λ (l : List (Element E)). x ∷ l) r.1 ∙ f.1, r.2)
