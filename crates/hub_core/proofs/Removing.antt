-- The first item of a name, taken out by its place.
use Rattle.std.proofs.Common.{◌≡◌, ℕ, ◌+◌, ◌<◌, suc, length, Bool, true, false, cond, List, [], ◌∷◌, Some, None, refl, ap, ◌∙◌, sym, arith}
use Rattle.std.specs.Prelude.{remove, slice_get, slice_set}
use Rattle.std.specs.List.{position_from}
use Rattle.mail_names.specs.declared.name.ItemName.{ItemName}
use Rattle.hub_core.specs.declared.waiting.WaitingItem.{WaitingItem}
use Rattle.hub_core.specs.Waiting.{is_named, with_told, without}

-- a place behind k others, and the list without what stands there
record Place (p : WaitingItem → Bool) (xs rest : List WaitingItem) (k place : ℕ) : Type 0 where
  i : ℕ
  at : place ≡ k + i
  within : i < length xs
  gone : remove xs i ≡ rest

some_is : (a b : ℕ) → Some a ≡ Some b → a ≡ b
some_is a b e = cc

some≢none : (a : ℕ) → Some a ≡ None → ⊥
some≢none a e = cc

first : (name : ItemName) (x : WaitingItem) (xs : List WaitingItem) (k place : ℕ) (t : Bool) →
    cond t (Some k) (position_from (is_named name) (k + 1) xs) ≡ Some place →
    (position_from (is_named name) (k + 1) xs ≡ Some place → Place (is_named name) xs (without name xs) (k + 1) place) →
    Place (is_named name) (x ∷ xs) (cond t xs (x ∷ without name xs)) k place
first name x xs k place true e more = let same = some_is k place e in record { i = 0; at = omega arith; within = omega arith; gone = refl }
first name x xs k place false e more =
    let later = more e in
    let at = later.at in
    let within = later.within in
    record { i = suc (later.i); at = omega arith; within = omega arith; gone = ap (λ (ys : List WaitingItem). x ∷ ys) later.gone }

found : (name : ItemName) (xs : List WaitingItem) (k place : ℕ) → position_from (is_named name) k xs ≡ Some place → Place (is_named name) xs (without name xs) k place
found name [] k place e = absurd (some≢none place (sym e))
found name (x ∷ xs) k place e = first name x xs k place (is_named name x) e (found name xs (k + 1) place)

pub without-at : (name : ItemName) (items : List WaitingItem) (place : ℕ) → position_from (is_named name) 0 items ≡ Some place → remove items place ≡ without name items
without-at name items place e =
    let f = found name items 0 place e in
    let at = f.at in
    ap (λ (i : ℕ). remove items i) (let same : place ≡ f.i = omega arith in same) ∙ f.gone

missed : (name : ItemName) (x : WaitingItem) (xs : List WaitingItem) (k : ℕ) (t : Bool) → cond t (Some k) (position_from (is_named name) (k + 1) xs) ≡ None →
    (position_from (is_named name) (k + 1) xs ≡ None → xs ≡ without name xs) → x ∷ xs ≡ cond t xs (x ∷ without name xs)
missed name x xs k true e more = absurd (some≢none k e)
missed name x xs k false e more = ap (λ (ys : List WaitingItem). x ∷ ys) (more e)

none : (name : ItemName) (xs : List WaitingItem) (k : ℕ) → position_from (is_named name) k xs ≡ None → xs ≡ without name xs
none name [] k e = refl
none name (x ∷ xs) k e = missed name x xs k (is_named name x) e (none name xs (k + 1))

pub place-within : (name : ItemName) (items : List WaitingItem) (place : ℕ) → position_from (is_named name) 0 items ≡ Some place → place < length items
place-within name items place e =
    let f = found name items 0 place e in
    let at = f.at in
    let within = f.within in
    omega arith

pub without-none : (name : ItemName) (items : List WaitingItem) → position_from (is_named name) 0 items ≡ None → items ≡ without name items
without-none name items e = none name items 0 e

-- the first of a name at a place behind k others, and the list where its sender was told
record Told (xs rest : List WaitingItem) (k place : ℕ) : Type 0 where
  i : ℕ
  at : place ≡ k + i
  w : WaitingItem
  there : slice_get xs i ≡ Some w
  told : slice_set xs i (record w { told = true }) ≡ rest

first_told : (name : ItemName) (x : WaitingItem) (xs : List WaitingItem) (k place : ℕ) (t : Bool) →
    cond t (Some k) (position_from (is_named name) (k + 1) xs) ≡ Some place →
    (position_from (is_named name) (k + 1) xs ≡ Some place → Told xs (with_told name xs) (k + 1) place) →
    Told (x ∷ xs) (cond t (record x { told = true } ∷ xs) (x ∷ with_told name xs)) k place
first_told name x xs k place true e more = let same = some_is k place e in record { i = 0; at = omega arith; w = x; there = refl; told = refl }
first_told name x xs k place false e more =
    let later = more e in
    let at = later.at in
    record { i = suc (later.i); at = omega arith; w = later.w; there = later.there; told = ap (λ (ys : List WaitingItem). x ∷ ys) later.told }

told_found : (name : ItemName) (xs : List WaitingItem) (k place : ℕ) → position_from (is_named name) k xs ≡ Some place → Told xs (with_told name xs) k place
told_found name [] k place e = absurd (some≢none place (sym e))
told_found name (x ∷ xs) k place e = first_told name x xs k place (is_named name x) e (told_found name xs (k + 1) place)

pub told-at : (name : ItemName) (items : List WaitingItem) (place : ℕ) → position_from (is_named name) 0 items ≡ Some place →
    (w : WaitingItem) × (slice_get items place ≡ Some w) × (slice_set items place (record w { told = true }) ≡ with_told name items)
told-at name items place e =
    let f = told_found name items 0 place e in
    let at = f.at in
    let same : place ≡ f.i = omega arith in
    (f.w, ap (λ (i : ℕ). slice_get items i) same ∙ f.there, ap (λ (i : ℕ). slice_set items i (record f.w { told = true })) same ∙ f.told)

untold : (name : ItemName) (x : WaitingItem) (xs : List WaitingItem) (k : ℕ) (t : Bool) → cond t (Some k) (position_from (is_named name) (k + 1) xs) ≡ None →
    (position_from (is_named name) (k + 1) xs ≡ None → xs ≡ with_told name xs) → x ∷ xs ≡ cond t (record x { told = true } ∷ xs) (x ∷ with_told name xs)
untold name x xs k true e more = absurd (some≢none k e)
untold name x xs k false e more = ap (λ (ys : List WaitingItem). x ∷ ys) (more e)

none_told : (name : ItemName) (xs : List WaitingItem) (k : ℕ) → position_from (is_named name) k xs ≡ None → xs ≡ with_told name xs
none_told name [] k e = refl
none_told name (x ∷ xs) k e = untold name x xs k (is_named name x) e (none_told name xs (k + 1))

pub told-none : (name : ItemName) (items : List WaitingItem) → position_from (is_named name) 0 items ≡ None → items ≡ with_told name items
told-none name items e = none_told name items 0 e
