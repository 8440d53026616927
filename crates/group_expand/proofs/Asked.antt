-- What the gates shut, while more of it is known.
use Rattle.std.specs.Prelude.{◌≡◌, ◌<◌, ℕ, Bool, false, List, ◌⊎◌, length, get_or, replicate, Option, Some, None, option_copied, refl}
use Rattle.std.proofs.Common.{sym, ◌∙◌, ap, subst, inl, inr, arith, set}
use Rattle.std.proofs.lemmas.List.{get_or-replicate, get_or-set_same, get_or-set_other, length-set}
use Rattle.org_directory.proofs.Offered.{place_of-key_at, found-below}
use Rattle.org_directory.specs.Register.{Register, IsSound, key_at, place_of}
use Rattle.group_expand.specs.Expansion.{is_closed}
use Rattle.group_expand.specs.Gates.{decided, answered, shuts, AreReady, ShutsSame}
use Rattle.group_expand.specs.Groups.{KnowsGroups}
use Rattle.group_expand.specs.declared.gates.Gates.{Gates}
use Rattle.group_expand.proofs.Table.{not-closed}

-- what is answered where nothing is known
abbrev pub asked : Register → Gates → List ℕ → Bool
asked reg gates key = is_closed reg (option_copied gates.sender) gates.opened.now key

pub shuts-at : (reg : Register) (gates : Gates) (p : ℕ) → IsSound reg → p < length reg.objects
    → shuts reg gates (key_at reg p) ≡ decided (get_or gates.known.items p None) (asked reg gates (key_at reg p))
shuts-at reg gates p sound h = ap (answered gates.known.items (asked reg gates (key_at reg p))) (place_of-key_at reg p sound h)

-- One more answer that is known changes no answer.
pub learned : (reg : Register) (old after : Gates) (p : ℕ) (b : Bool) → p < length reg.objects → AreReady reg old
    → KnowsGroups reg (option_copied after.sender) after.groups → ((k : List ℕ) → asked reg after k ≡ asked reg old k) → after.known.items ≡ set old.known.items p (Some b)
    → b ≡ shuts reg old (key_at reg p) → ShutsSame reg old after
learned reg old after p b h ready groups alike known is = record {
  ready = record { room = ap length known ∙ (length-set old.known.items p (Some b) ∙ ready.room); groups = groups };
  same = λ i k. by_place k (place_of reg k) refl i;
}
  where
    split : (q : ℕ) → (q ≡ p) ⊎ (q ≡ p → ⊥)
    split q = grind arith

    by_split : (k : List ℕ) (q : ℕ) → place_of reg k ≡ Some q → (q ≡ p) ⊎ (q ≡ p → ⊥)
        → decided (get_or after.known.items q None) (asked reg after k) ≡ decided (get_or old.known.items q None) (asked reg old k)
    by_split k q e (inl q-is) =
        let here : get_or after.known.items q None ≡ Some b
        = ap (λ xs. get_or xs q None) known ∙ (ap (λ x. get_or (set old.known.items p (Some b)) x None) q-is
        ∙ get_or-set_same old.known.items p (Some b) None (subst (λ n. p < n) (sym ready.room) h)) in
        let key-is : key_at reg p ≡ k = ap (key_at reg) (sym q-is) ∙ sym (found-below reg k q e).1 in
        ap (λ o. decided o (asked reg after k)) here ∙ (is ∙ (ap (shuts reg old) key-is ∙ ap (answered old.known.items (asked reg old k)) e))
    by_split k q e (inr other) =
        ap (λ xs. decided (get_or xs q None) (asked reg after k)) known
        ∙ (ap (λ o. decided o (asked reg after k)) (get_or-set_other old.known.items p q (Some b) None other)
        ∙ ap (decided (get_or old.known.items q None)) (alike k))

    by_place : (k : List ℕ) (o : Option ℕ) → place_of reg k ≡ o → answered after.known.items (asked reg after k) o ≡ answered old.known.items (asked reg old k) o
    by_place k None e = refl
    by_place k (Some q) e = by_split k q e (split q)

-- Where nothing is known, what is answered decides.
pub shuts-new : (reg : Register) (gates : Gates) → gates.known.items ≡ replicate (length reg.objects) None → shuts reg gates ≡ asked reg gates
shuts-new reg gates known = λ i k. by_place k (place_of reg k) refl i
  where
    by_place : (k : List ℕ) (o : Option ℕ) → place_of reg k ≡ o → answered gates.known.items (asked reg gates k) o ≡ asked reg gates k
    by_place k None e = sym (not-closed reg (option_copied gates.sender) gates.opened.now k e)
    by_place k (Some p) e =
        ap (λ o. decided o (asked reg gates k))
        (ap (λ xs. get_or xs p None) known ∙ get_or-replicate (length reg.objects) p None None (found-below reg k p e).0)

-- Where each object is known as not shut, none is, whatever would be answered.
pub shuts-open : (reg : Register) (known : List (Option Bool)) (answer : List ℕ → Bool) → known ≡ replicate (length reg.objects) (Some false)
    → ◌≡◌ {A = List ℕ → Bool} (λ k. answered known (answer k) (place_of reg k)) (λ k. false)
shuts-open reg known answer is = λ i k. by_place k (place_of reg k) refl i
  where
    by_place : (k : List ℕ) (o : Option ℕ) → place_of reg k ≡ o → answered known (answer k) o ≡ false
    by_place k None e = refl
    by_place k (Some p) e =
        ap (λ o. decided o (answer k))
        (ap (λ xs. get_or xs p None) is ∙ get_or-replicate (length reg.objects) p (Some false) None (found-below reg k p e).0)
