-- Where the second pass finds no fault, the directory is sound.
use Rattle.std.specs.Prelude.{◌≡◌, ◌<◌, ◌≤◌, ◌+◌, ℕ, zero, suc, Bool, true, false, not, if◌then◌else◌, ◌&&◌, List, [], ◌∷◌, length, map, position, slice_get, slice_index_or, unwrap_or, is_some, Option, Some, None, All, refl}
use Rattle.std.proofs.Common.{sym, ◌∙◌, ap, subst, arith}
use Rattle.std.proofs.lemmas.List.{length-map}
use Rattle.std.proofs.lemmas.List.Quantifiers.{position-Some}
use Rattle.std.specs.List.{list_any}
use Rattle.std.specs.Str.{bytes_eq}
use Rattle.org_directory.specs.Register.{Register, IsSound, InRange, AllBelow, forward_list, is_group, is_mailbox, place_of}
use Rattle.org_directory.specs.Lines.{has_none}
use Rattle.org_directory.specs.Drafts.{Fits, IsKept}
use Rattle.org_directory.specs.Reading.{are_known, entries_in, fault_of, first_place, keys_of, names_group, names_well, or_else, place_in, place_or_0, placed, second_pass}
use Rattle.org_directory.specs.declared.draft.Draft.{Draft}
use Rattle.org_directory.specs.declared.draft.Drafts.{Drafts}
use Rattle.org_directory.specs.declared.fault.DirectoryFault.{DirectoryFault}
use Rattle.org_directory.specs.declared.fault.DirectoryFault.TheVariants as faults
use Rattle.org_directory.specs.declared.object.Object.{Object}
use Rattle.org_directory.proofs.Keeping.{get-map}
use Rattle.org_directory.proofs.Mapped.{position-map}

-- each of the objects has no fault
no-fault : (all ds : List Draft) (p : ℕ) (x : Draft) → second_pass all ds ≡ None → slice_get ds p ≡ Some x → fault_of all x ≡ None
no-fault all [] p x h at = absurd (cc at)
no-fault all (d ∷ ds) p x h at = by (λ q e rest. no-fault all ds q x rest e) (fault_of all d) refl h
  where
    there : ((q : ℕ) → slice_get ds q ≡ Some x → second_pass all ds ≡ None → fault_of all x ≡ None) → (q : ℕ) → slice_get (d ∷ ds) q ≡ Some x
        → fault_of all d ≡ None → second_pass all ds ≡ None → fault_of all x ≡ None
    there again zero e first rest = let same : d ≡ x = cc e in subst (λ y. fault_of all y ≡ None) same first
    there again (suc q) e first rest = again q e rest

    by : ((q : ℕ) → slice_get ds q ≡ Some x → second_pass all ds ≡ None → fault_of all x ≡ None) → (o : Option DirectoryFault) → fault_of all d ≡ o
        → or_else o (second_pass all ds) ≡ None → fault_of all x ≡ None
    by again (Some e) is h = absurd (cc h)
    by again None is h = there again p at is h

well : (all : List Draft) (x : Draft) → fault_of all x ≡ None → names_well all x ≡ true
well all x h = by (names_well all x) refl h
  where
    by : (b : Bool) → names_well all x ≡ b
        → (if b then (if x.moderated && has_none x.moderators then Some (faults.NoModerators x.row) else None) else Some (faults.UnknownMember x.row)) ≡ None → b ≡ true
    by true e h = refl
    by false e h = absurd (cc h)

both : (b c : Bool) → (b && c) ≡ true → (b ≡ true) × (c ≡ true)
both true c h = (refl, h)
both false c h = absurd (cc h)

all-cons : (P : ℕ → Type 0) (x : ℕ) (xs : List ℕ) → P x → All P xs → All P (x ∷ xs)
all-cons P x xs first rest = λ k d h. at k d h
  where
    at : (k d : ℕ) → k < length (x ∷ xs) → P (slice_index_or (x ∷ xs) k d)
    at zero d h = first
    at (suc k) d h = rest k d (omega (arith, h))

none-all : (P : ℕ → Type 0) → All P []
none-all P = λ k d h. absurd (omega (arith, h))

found-below : (named : List (List ℕ)) (key : List ℕ) → is_some (place_in named key) ≡ true → place_or_0 named key < length named
found-below named key h = by (place_in named key) refl h
  where
    some : (xs : List (List ℕ)) (q : ℕ) → position (bytes_eq key) xs ≡ Some q → q < length xs
    some [] q e = absurd (cc e)
    some (x ∷ xs) q e = (position-Some (bytes_eq key) (x ∷ xs) q x e).0

    by : (o : Option ℕ) → place_in named key ≡ o → is_some o ≡ true → unwrap_or o 0 < length named
    by None e h = absurd (cc h)
    by (Some q) e h = some named q e

below-all : (named ks : List (List ℕ)) → are_known named ks ≡ true → AllBelow (length named) (map (place_or_0 named) ks)
below-all named [] h = none-all (λ p. p < length named)
below-all named (k ∷ ks) h =
    let parts = both (is_some (place_in named k)) (are_known named ks) h in
    all-cons (λ p. p < length named) (place_or_0 named k) (map (place_or_0 named) ks) (found-below named k parts.0) (below-all named ks parts.1)

-- of places that are in range the first is
first-below : (n : ℕ) (ps : List ℕ) → AllBelow n ps → AllBelow n (forward_list (first_place ps))
first-below n [] h = none-all (λ p. p < n)
first-below n (p ∷ ps) h = all-cons (λ q. q < n) p [] (h 0 0 (omega arith)) (none-all (λ q. q < n))

range : (all : List Draft) (x : Draft) (n : ℕ) → length (keys_of all) ≡ n → names_well all x ≡ true → Fits x
    → entries_in x ≤ 200000 → InRange n (placed (keys_of all) x)
range all x n size ok fits few =
    let a = both (are_known (keys_of all) x.members) _ ok in
    let b = both (are_known (keys_of all) x.owners) _ a.1 in
    let c = both (are_known (keys_of all) x.moderators) _ b.1 in
    let d = both (are_known (keys_of all) x.bypass) _ c.1 in
    let e = both (not (list_any (names_group all) x.moderators)) _ d.1 in
    subst (λ m. InRange m (placed (keys_of all) x)) size (record {
      members = below-all (keys_of all) x.members a.0;
      owners = below-all (keys_of all) x.owners b.0;
      moderators = below-all (keys_of all) x.moderators c.0;
      bypass = below-all (keys_of all) x.bypass d.0;
      groups_alone = λ off. ap (map (place_or_0 (keys_of all))) (fits.groups_alone off);
      forward = first-below (length (keys_of all)) (map (place_or_0 (keys_of all)) x.forward) (below-all (keys_of all) x.forward e.1);
      mailboxes_alone = λ off. ap (λ ks. first_place (map (place_or_0 (keys_of all)) ks)) (fits.mailboxes_alone off);
      few_members = subst (λ m. m ≤ 200000) (sym (length-map x.members (place_or_0 (keys_of all)))) (omega (arith, few));
    })

pub sound-of : (d : Drafts) → IsKept d → second_pass d.drafts d.drafts ≡ None
    → IsSound (record { domains = d.domains; objects = map (placed (keys_of d.drafts)) d.drafts })
sound-of d kept none = record {
  once = λ p o h. first p o (get-map (placed (keys_of d.drafts)) d.drafts p o h);
  placed = λ p o h. inside p o (get-map (placed (keys_of d.drafts)) d.drafts p o h);
  few = subst (λ n. n ≤ 20000) (sym size) kept.few;
}
  where
    reg : Register
    reg = record { domains = d.domains; objects = map (placed (keys_of d.drafts)) d.drafts }

    size : length (map (placed (keys_of d.drafts)) d.drafts) ≡ length d.drafts
    size = length-map d.drafts (placed (keys_of d.drafts))

    same-place : (key : List ℕ) → place_of reg key ≡ place_in (keys_of d.drafts) key
    same-place key =
        position-map (λ (o : Object). bytes_eq key o.key) (placed (keys_of d.drafts)) d.drafts
        ∙ sym (position-map (bytes_eq key) (λ (x : Draft). x.key) d.drafts)

    first : (p : ℕ) (o : Object) → (x : Draft) × (slice_get d.drafts p ≡ Some x) × (o ≡ placed (keys_of d.drafts) x) → place_of reg o.key ≡ Some p
    first p o t = same-place o.key ∙ (ap (λ (y : Object). place_in (keys_of d.drafts) y.key) t.2 ∙ kept.once p t.0 t.1)

    inside : (p : ℕ) (o : Object) → (x : Draft) × (slice_get d.drafts p ≡ Some x) × (o ≡ placed (keys_of d.drafts) x) → InRange (length reg.objects) o
    inside p o t =
        let named : length (keys_of d.drafts) ≡ length reg.objects = length-map d.drafts (λ (x : Draft). x.key) ∙ sym size in
        subst (InRange (length reg.objects)) (sym t.2)
        (range d.drafts t.0 (length reg.objects) named (well d.drafts t.0 (no-fault d.drafts d.drafts p t.0 none t.1)) (kept.fitting p t.0 t.1) (kept.each_few p t.0 t.1))
