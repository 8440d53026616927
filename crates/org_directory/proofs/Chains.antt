-- Chains of members: a chain can be made one without a repeated key, which is short.
use Rattle.std.specs.Prelude.{◌≡◌, ◌<◌, ◌≤◌, ◌+◌, ℕ, zero, suc, Bool, true, false, ◌||◌, List, [], ◌∷◌, ◌++◌, ◌⊎◌, length, map, Option, Some, None, unwrap_or, refl}
use Rattle.std.proofs.Common.{sym, ◌∙◌, ap, subst, inl, inr, arith, rules, eqb}
use Rattle.std.proofs.lemmas.List.{length-map}
use Rattle.std.proofs.lemmas.Map.Steps.{length-le_from_distinct_below}
use Rattle.std.specs.List.{list_any, IsDistinct, AllByRecursion}
use Rattle.std.specs.Str.{bytes_eq}
use Rattle.org_directory.specs.Register.{Register, among, key_at, keys_at, members_in, members_of, place_of, object_at}
use Rattle.org_directory.specs.Membership.{Chain, In, InIsComputed, leads}
use Rattle.org_directory.proofs.Keys.{same_key, key_is_itself}
use Rattle.org_directory.proofs.Places.{below-place, found-below}

abbrev pub number : Register → List ℕ → ℕ
number reg k = unwrap_or (place_of reg k) 0

-- every key passed is an object
abbrev pub Objects : Register → List (List ℕ) → Type 0
Objects reg [] = Unit {0}
Objects reg (k ∷ ks) = ((p : ℕ) × (place_of reg k ≡ Some p)) × Objects reg ks

Objects-push : (reg : Register) (ks : List (List ℕ)) (k : List ℕ) → Objects reg ks → (p : ℕ) × (place_of reg k ≡ Some p) → Objects reg (ks ++ k ∷ [])
Objects-push reg [] k a b = (b, tt)
Objects-push reg (x ∷ xs) k a b = (a.0, Objects-push reg xs k a.1 b)

-- a key that wasn't passed has a place of its own
pub number-new : (reg : Register) (ks : List (List ℕ)) (k : List ℕ) (p : ℕ) → Objects reg ks → place_of reg k ≡ Some p → among k ks ≡ false
    → list_any (eqb p) (map (number reg) ks) ≡ false
number-new reg [] k p a e out = refl
number-new reg (x ∷ xs) k p a e out =
    let off : (bytes_eq k x ≡ false) × (among k xs ≡ false) = or-none (bytes_eq k x) (among k xs) out in
    let rest : list_any (eqb p) (map (number reg) xs) ≡ false = number-new reg xs k p a.1 e off.1 in
    let x-is : number reg x ≡ a.0.0 = ap (λ o. unwrap_or o 0) a.0.1 in
    let one : eqb p (number reg x) ≡ false = differs (eqb p (number reg x)) refl off.0 in
    both one rest
  where
    or-none : (b c : Bool) → (b || c) ≡ false → (b ≡ false) × (c ≡ false)
    or-none true c h = absurd (cc h)
    or-none false c h = (refl, h)

    both : eqb p (number reg x) ≡ false → list_any (eqb p) (map (number reg) xs) ≡ false → (eqb p (number reg x) || list_any (eqb p) (map (number reg) xs)) ≡ false
    both f g = rw f g

    differs : (b : Bool) → eqb p (number reg x) ≡ b → bytes_eq k x ≡ false → b ≡ false
    differs false h off = refl
    differs true h off =
        let x-is : number reg x ≡ a.0.0 = ap (λ o. unwrap_or o 0) a.0.1 in
        let same : p ≡ number reg x = eqb-same p (number reg x) h in
        let k-is : k ≡ key_at reg p = below-place reg k p e in
        let x-at : x ≡ key_at reg a.0.0 = below-place reg x a.0.0 a.0.1 in
        let equal : k ≡ x = k-is ∙ (ap (key_at reg) (same ∙ x-is) ∙ sym x-at) in
        let yes : bytes_eq k x ≡ true = subst (λ y. bytes_eq k y ≡ true) equal (key_is_itself k) in
        absurd (cc (yes, off))
      where
        eqb-same : (a b : ℕ) → eqb a b ≡ true → a ≡ b
        eqb-same a b h = search rules

pub numbers-below : (reg : Register) (ks : List (List ℕ)) (q : ℕ) → Objects reg ks → list_any (eqb q) (map (number reg) ks) ≡ true → q < length reg.objects
numbers-below reg [] q a h = absurd (cc h)
numbers-below reg (x ∷ xs) q a h = by_test (λ h. numbers-below reg xs q a.1 h) (eqb q (number reg x)) refl h
  where
    eqb-same : (a b : ℕ) → eqb a b ≡ true → a ≡ b
    eqb-same a b h = search rules

    by_test : (list_any (eqb q) (map (number reg) xs) ≡ true → q < length reg.objects) → (b : Bool) → eqb q (number reg x) ≡ b → (b || list_any (eqb q) (map (number reg) xs)) ≡ true → q < length reg.objects
    by_test again true e _ =
        let x-is : number reg x ≡ a.0.0 = ap (λ o. unwrap_or o 0) a.0.1 in
        let inside : a.0.0 < length reg.objects = (found-below reg x a.0.0 a.0.1).0 in
        let same : q ≡ number reg x = eqb-same q (number reg x) e in
        omega (arith, x-is, inside, same)
    by_test again false e h = again h

-- a chain by its keys in between
abbrev pub Leads : Register → List ℕ → List (List ℕ) → List ℕ → Type 0
Leads reg g [] k = among k (members_of reg g) ≡ true
Leads reg g (m ∷ ms) k = (among m (members_of reg g) ≡ true) × Leads reg m ms k

abbrev pub Distinct : List (List ℕ) → Type 0
Distinct [] = Unit {0}
Distinct (x ∷ xs) = (among x xs ≡ false) × Distinct xs

or-true : (b c : Bool) → (b || c) ≡ true → (b ≡ true) ⊎ (c ≡ true)
or-true true c h = inl refl
or-true false c h = inr h

or-right : (b c : Bool) → c ≡ true → (b || c) ≡ true
or-right true c h = refl
or-right false c h = h

or-left : (b c : Bool) → b ≡ true → (b || c) ≡ true
or-left true c h = refl
or-left false c h = absurd (cc h)

any-member : (p : List ℕ → Bool) (ks : List (List ℕ)) → list_any p ks ≡ true → (m : List ℕ) × (among m ks ≡ true) × (p m ≡ true)
any-member p [] h = absurd (cc h)
any-member p (k ∷ ks) h = by_part (λ h. any-member p ks h) (or-true (p k) (list_any p ks) h)
  where
    later : (m : List ℕ) × (among m ks ≡ true) × (p m ≡ true) → (m : List ℕ) × (among m (k ∷ ks) ≡ true) × (p m ≡ true)
    later t = (t.0, or-right (bytes_eq t.0 k) (among t.0 ks) t.1, t.2)

    by_part : (list_any p ks ≡ true → (m : List ℕ) × (among m ks ≡ true) × (p m ≡ true)) → (p k ≡ true) ⊎ (list_any p ks ≡ true) → (m : List ℕ) × (among m (k ∷ ks) ≡ true) × (p m ≡ true)
    by_part again (inl a) = (k, or-left (bytes_eq k k) (among k ks) (key_is_itself k), a)
    by_part again (inr b) = later (again b)

member-any : (p : List ℕ → Bool) (m : List ℕ) (ks : List (List ℕ)) → among m ks ≡ true → p m ≡ true → list_any p ks ≡ true
member-any p m [] h e = absurd (cc h)
member-any p m (k ∷ ks) h e = by_test (λ h. member-any p m ks h e) (bytes_eq m k) refl h
  where
    by_test : (among m ks ≡ true → list_any p ks ≡ true) → (b : Bool) → bytes_eq m k ≡ b → (b || among m ks) ≡ true → (p k || list_any p ks) ≡ true
    by_test again true s _ = or-left (p k) (list_any p ks) (subst (λ x. p x ≡ true) (same_key m k s) e)
    by_test again false s i = or-right (p k) (list_any p ks) (again i)

-- what the test finds is a chain
found : (reg : Register) (n : ℕ) (g k : List ℕ) → leads reg n g k ≡ true → In reg g k
unfolding leads
found reg zero g k h = absurd (cc h)
found reg (suc n) g k h =
    with_member (λ m h. found reg n m k h) (any-member (λ m. bytes_eq k m || leads reg n m k) (members_of reg g) h)
  where
    longer : (m : List ℕ) → among m (members_of reg g) ≡ true → In reg m k → In reg g k
    longer m i c = (suc c.0, (m, i, c.1))

    by_part : ((m : List ℕ) → leads reg n m k ≡ true → In reg m k) → (m : List ℕ) → among m (members_of reg g) ≡ true → (bytes_eq k m ≡ true) ⊎ (leads reg n m k ≡ true) → In reg g k
    by_part again m i (inl e) = (0, subst (λ x. among x (members_of reg g) ≡ true) (sym (same_key k m e)) i)
    by_part again m i (inr e) = longer m i (again m e)

    with_member : ((m : List ℕ) → leads reg n m k ≡ true → In reg m k) → (m : List ℕ) × (among m (members_of reg g) ≡ true) × ((bytes_eq k m || leads reg n m k) ≡ true) → In reg g k
    with_member again t = by_part again t.0 t.1 (or-true (bytes_eq k t.0) (leads reg n t.0 k) t.2)

-- a short chain is found
short-found : (reg : Register) (n : ℕ) (g : List ℕ) (ms : List (List ℕ)) (k : List ℕ) → length ms < n → Leads reg g ms k → leads reg n g k ≡ true
unfolding leads
short-found reg zero g ms k short h = absurd (omega arith)
short-found reg (suc n) g [] k short h =
    member-any (λ m. bytes_eq k m || leads reg n m k) k (members_of reg g) h (or-left (bytes_eq k k) (leads reg n k k) (key_is_itself k))
short-found reg (suc n) g (m ∷ ms) k short h =
    member-any (λ m. bytes_eq k m || leads reg n m k) m (members_of reg g) h.0 (or-right (bytes_eq k m) (leads reg n m k) (short-found reg n m ms k (omega arith) h.1))

-- a chain as a list
as-list : (reg : Register) (n : ℕ) (g k : List ℕ) → Chain reg n g k → (ms : List (List ℕ)) × Leads reg g ms k
as-list reg zero g k h = ([], h)
as-list reg (suc n) g k h = let rest : (ms : List (List ℕ)) × Leads reg h.0 ms k = as-list reg n h.0 k h.2 in (h.0 ∷ rest.0, (h.1, rest.1))

-- from a key of a simple chain on, it is a simple chain
suffix : (reg : Register) (g k m : List ℕ) (ms : List (List ℕ)) → among g (m ∷ ms) ≡ true → Leads reg m ms k → Distinct (m ∷ ms)
    → (rest : List (List ℕ)) × Leads reg g rest k × Distinct (g ∷ rest)
suffix reg g k m [] inside h d = at (bytes_eq g m) refl inside
  where
    at : (b : Bool) → bytes_eq g m ≡ b → (b || false) ≡ true → (rest : List (List ℕ)) × Leads reg g rest k × Distinct (g ∷ rest)
    at true e _ = ([], subst (λ x. Leads reg x [] k) (sym (same_key g m e)) h, (refl, tt))
    at false e i = absurd (cc i)
suffix reg g k m (x ∷ xs) inside h d = at (λ i. suffix reg g k x xs i h.1 d.1) (bytes_eq g m) refl inside
  where
    at : (among g (x ∷ xs) ≡ true → (rest : List (List ℕ)) × Leads reg g rest k × Distinct (g ∷ rest)) → (b : Bool) → bytes_eq g m ≡ b → (b || among g (x ∷ xs)) ≡ true
        → (rest : List (List ℕ)) × Leads reg g rest k × Distinct (g ∷ rest)
    at again true e _ = (x ∷ xs, subst (λ y. Leads reg y (x ∷ xs) k) (sym (same_key g m e)) h, subst (λ y. Distinct (y ∷ (x ∷ xs))) (sym (same_key g m e)) d)
    at again false e i = again i

simple : (reg : Register) (g k : List ℕ) (ms : List (List ℕ)) → Leads reg g ms k → (rest : List (List ℕ)) × Leads reg g rest k × Distinct (g ∷ rest)
simple reg g k [] h = ([], h, (refl, tt))
simple reg g k (m ∷ ms) h = from_tail (simple reg m k ms h.1)
  where
    from_tail : (rest : List (List ℕ)) × Leads reg m rest k × Distinct (m ∷ rest) → (rest : List (List ℕ)) × Leads reg g rest k × Distinct (g ∷ rest)
    from_tail t = by_test (among g (m ∷ t.0)) refl
      where
        by_test : (b : Bool) → among g (m ∷ t.0) ≡ b → (rest : List (List ℕ)) × Leads reg g rest k × Distinct (g ∷ rest)
        by_test true e = suffix reg g k m t.0 e t.1 t.2
        by_test false e = (m ∷ t.0, (h.0, t.1), (e, t.2))

member-carrier : (reg : Register) (g m : List ℕ) → among m (members_of reg g) ≡ true → (p : ℕ) × (place_of reg g ≡ Some p)
member-carrier reg g m h = by_place (place_of reg g) refl h
  where
    by_place : (o : Option ℕ) → place_of reg g ≡ o → among m (keys_at reg (members_in (object_at reg o))) ≡ true → (p : ℕ) × (place_of reg g ≡ Some p)
    by_place None e h = absurd (cc h)
    by_place (Some p) e h = (p, e)

chain-objects : (reg : Register) (g : List ℕ) (ms : List (List ℕ)) (k : List ℕ) → Leads reg g ms k → Objects reg (g ∷ ms)
chain-objects reg g [] k h = (member-carrier reg g k h, tt)
chain-objects reg g (m ∷ ms) k h = (member-carrier reg g m h.0, chain-objects reg m ms k h.1)

none-all : (p : ℕ) (xs : List ℕ) → list_any (eqb p) xs ≡ false → AllByRecursion (λ y. eqb p y ≡ false) xs
none-all p [] h = tt
none-all p (x ∷ xs) h = let off : (eqb p x ≡ false) × (list_any (eqb p) xs ≡ false) = or-none (eqb p x) (list_any (eqb p) xs) h in (off.0, none-all p xs off.1)
  where
    or-none : (b c : Bool) → (b || c) ≡ false → (b ≡ false) × (c ≡ false)
    or-none true c h = absurd (cc h)
    or-none false c h = (refl, h)

distinct-numbers : (reg : Register) (ks : List (List ℕ)) → Objects reg ks → Distinct ks → IsDistinct eqb (map (number reg) ks)
unfolding IsDistinct
distinct-numbers reg [] a d = tt
distinct-numbers reg (k ∷ ks) a d =
    let k-is : number reg k ≡ a.0.0 = ap (λ o. unwrap_or o 0) a.0.1 in
    let off : list_any (eqb a.0.0) (map (number reg) ks) ≡ false = number-new reg ks k a.0.0 a.1 a.0.1 d.0 in
    let off' : list_any (eqb (number reg k)) (map (number reg) ks) ≡ false = subst (λ n. list_any (eqb n) (map (number reg) ks) ≡ false) (sym k-is) off in
    (none-all (number reg k) (map (number reg) ks) off', distinct-numbers reg ks a.1 d.1)

simple-short : (reg : Register) (ks : List (List ℕ)) → Objects reg ks → Distinct ks → length ks ≤ length reg.objects
simple-short reg ks a d =
    let few : length (map (number reg) ks) ≤ length reg.objects
    = length-le_from_distinct_below (map (number reg) ks) (length reg.objects) (distinct-numbers reg ks a d) (λ q h. numbers-below reg ks q a h) in
    let size : length (map (number reg) ks) ≡ length ks = length-map ks (number reg) in
    omega (arith, few, size)

pub in-is-computed : InIsComputed
in-is-computed reg g k = (found reg (length reg.objects) g k, λ h. shorten (as-list reg h.0 g k h.1))
  where
    at : (rest : List (List ℕ)) × Leads reg g rest k × Distinct (g ∷ rest) → leads reg (length reg.objects) g k ≡ true
    at t =
        let few : length (g ∷ t.0) ≤ length reg.objects = simple-short reg (g ∷ t.0) (chain-objects reg g t.0 k t.1) t.2 in
        short-found reg (length reg.objects) g t.0 k (omega (arith, few)) t.1

    shorten : (ms : List (List ℕ)) × Leads reg g ms k → leads reg (length reg.objects) g k ≡ true
    shorten t = at (simple reg g k t.0 t.1)
