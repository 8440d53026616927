-- Names that differ, and those of the items of a release.
use Rattle.std.proofs.Common.{◌≡◌, ℕ, ◌+◌, ◌≤◌, Bool, true, false, List, [], ◌∷◌, ◌++◌, map, refl, ap, ◌∙◌, subst, arith}
use Rattle.std.specs.Prelude.{◌&&◌, ◌==◌}
use Rattle.std.specs.Bool.{Decides}
use Rattle.std.specs.List.{IsDistinct}
use Rattle.std.proofs.lemmas.Bool.Decides.{nat_tests, Decides-eqb}
use Rattle.std.proofs.lemmas.Map.Keys.{IsDistinct-head, IsDistinct-tail, IsDistinct-cons}
use Rattle.mail_names.specs.declared.name.ItemName.{ItemName}
use Rattle.mail_names.specs.declared.name.Mark.{Mark}
use Rattle.mail_names.specs.declared.name.Mark.TheVariants as marks
use Rattle.mail_names.specs.Names.{mark_number, same_name}
use Rattle.mail_plan.specs.Planning.{is_at, is_plain, are_named}
use Rattle.mail_plan.specs.declared.release.Item.{Item}
use Rattle.hub_core.specs.declared.queue.QueuedItem.{QueuedItem}
use Rattle.hub_core.specs.Standing.{queued}
use Rattle.hub_core.proofs.Sending.{both, name_is}
use Rattle.hub_core.proofs.Settled.{names, All, all-both}

-- none of these items has this name
abbrev pub Misses : ItemName → List QueuedItem → Type 0
Misses name items = All (λ (other : ItemName). same_name name other ≡ false) items

same : (n : ℕ) → (n == n) ≡ true
same n = grind (arith, nat_tests)

pub own_name : (name : ItemName) → same_name name name ≡ true
own_name name =
    ap (λ t. t && ((name.release == name.release) && ((name.place == name.place) && (mark_number name.mark == mark_number name.mark)))) (same name.submission)
    ∙ ap (λ t. t && ((name.place == name.place) && (mark_number name.mark == mark_number name.mark))) (same name.release)
    ∙ ap (λ t. t && (mark_number name.mark == mark_number name.mark)) (same name.place) ∙ same (mark_number name.mark)

pub name_decides : (a b : ItemName) → Decides (same_name a b) (a ≡ b)
name_decides a b = (name_is a b, λ e. subst (λ (c : ItemName). same_name a c ≡ true) e (own_name a))

pub differs : (a b : ItemName) → (a ≡ b → ⊥) → same_name a b ≡ false
differs a b never = by (same_name a b) refl
  where
    by : (t : Bool) → same_name a b ≡ t → t ≡ false
    by true e = absurd (never (name_is a b e))
    by false e = refl

pub none : IsDistinct same_name []
unfolding IsDistinct
none = tt

pub single : (name : ItemName) → IsDistinct same_name (name ∷ [])
single name = IsDistinct-cons same_name name [] tt none

pub all-map : (P Q : ItemName → Type 0) → ((name : ItemName) → P name → Q name) → (xs : List QueuedItem) → All P xs → All Q xs
all-map P Q f [] h = tt
all-map P Q f (x ∷ xs) h = (f x.name h.0, all-map P Q f xs h.1)

pub distinct_both : (xs ys : List QueuedItem) → IsDistinct same_name (names xs) → IsDistinct same_name (names ys) → All (λ (x : ItemName). Misses x ys) xs →
    IsDistinct same_name (names (xs ++ ys))
distinct_both [] ys h g apart = g
distinct_both (x ∷ xs) ys h g apart =
    IsDistinct-cons same_name x.name (names (xs ++ ys))
    (all-both (λ (other : ItemName). same_name x.name other ≡ false) xs ys (IsDistinct-head same_name x.name (names xs) h) apart.0)
    (distinct_both xs ys (IsDistinct-tail same_name x.name (names xs) h) g apart.1)

-- Names of two kinds, none of which is of both, differ.
pub apart : (P Q : ItemName → Type 0) → ((a b : ItemName) → P a → Q b → a ≡ b → ⊥) → (xs ys : List QueuedItem) → All P xs → All Q ys → All (λ (x : ItemName). Misses x ys) xs
apart P Q never xs ys p q = all-map P (λ (x : ItemName). Misses x ys) (λ a pa. all-map Q (λ (b : ItemName). same_name a b ≡ false) (λ b qb. differs a b (never a b pa qb)) ys q) xs p

-- the name of an item of a release, at this place or behind it
pub record InRelease (n r low : ℕ) (name : ItemName) : Type 0 where
  pub submission : name.submission ≡ n
  pub release : name.release ≡ r
  pub place : low ≤ name.place
  pub mark : name.mark ≡ marks.Plain

plain : (mark : Mark) → is_plain mark ≡ true → mark ≡ marks.Plain
plain marks.Plain e = refl
plain marks.Gate e = absurd (cc)
plain marks.Delay e = absurd (cc)
plain marks.Failure e = absurd (cc)

-- what a name at a place of a release is
pub at_place : (n r place : ℕ) (name : ItemName) → is_at n r place name ≡ true →
    (name.submission ≡ n) × (name.release ≡ r) × (name.place ≡ place) × (name.mark ≡ marks.Plain)
at_place n r place name h =
    let one = both _ _ h in
    let two = both _ _ one.1 in
    let three = both _ _ two.1 in
    ((Decides-eqb name.submission n).0 one.0, (Decides-eqb name.release r).0 two.0, (Decides-eqb name.place place).0 three.0, plain name.mark three.1)

pub in_release : (texts : List (List ℕ)) (n r place low : ℕ) (items : List Item) → low ≤ place → are_named n r place items ≡ true → All (InRelease n r low) (map (queued texts) items)
in_release texts n r place low [] below named = tt
in_release texts n r place low (item ∷ items) below named =
    let parts = both _ _ named in
    let at = at_place n r place item.name parts.0 in
    let stands = at.2 in
    (record { submission = at.0; release = at.1; place = omega arith; mark = at.3 }, in_release texts n r (place + 1) low items (omega arith) parts.1)

pub places_distinct : (texts : List (List ℕ)) (n r place : ℕ) (items : List Item) → are_named n r place items ≡ true → IsDistinct same_name (names (map (queued texts) items))
places_distinct texts n r place [] named = none
places_distinct texts n r place (item ∷ items) named =
    let parts = both _ _ named in
    let at = at_place n r place item.name parts.0 in
    IsDistinct-cons same_name item.name (names (map (queued texts) items))
    (all-map (InRelease n r (place + 1)) (λ (b : ItemName). same_name item.name b ≡ false)
    (λ b is. differs item.name b (λ e. (let places = ap (λ (x : ItemName). x.place) e in let stands = at.2 in let behind = is.place in omega arith)))
    (map (queued texts) items) (in_release texts n r (place + 1) (place + 1) items (omega arith) parts.1))
    (places_distinct texts n r (place + 1) items parts.1)
