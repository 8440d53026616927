-- Keys and their places.
use Rattle.std.specs.Prelude.{◌≡◌, ◌<◌, ◌≤◌, ℕ, suc, zero, Bool, true, false, if◌then◌else◌, List, [], ◌∷◌, length, position, Option, Some, None, slice_get, get_or, refl}
use Rattle.std.proofs.Common.{sym, ap, subst, arith}
use Rattle.std.specs.Str.{bytes_eq}
use Rattle.std.proofs.lemmas.List.Quantifiers.{position-Some}
use Rattle.org_directory.specs.Register.{Register, AllBelow, InRange, IsSound, forward_list, is_group, key_at, key_or_none, keys_at, members_in, members_of, object_at, object_of, onward, onward_in, onward_of, place_of}
use Rattle.org_directory.specs.declared.object.Object.{Object}
use Rattle.org_directory.proofs.Keys.{same_key}

-- the object at a place in range
pub object-there : (objects : List Object) (p : ℕ) → p < length objects → (o : Object) × (slice_get objects p ≡ Some o)
object-there [] p h = absurd (omega arith)
object-there (o ∷ os) zero h = (o, refl)
object-there (o ∷ os) (suc p) h = object-there os p (omega arith)

-- the place of the key at a place
pub place_of-key_at : (reg : Register) (p : ℕ) → IsSound reg → p < length reg.objects → place_of reg (key_at reg p) ≡ Some p
place_of-key_at reg p sound h =
    let there : (o : Object) × (slice_get reg.objects p ≡ Some o) = object-there reg.objects p h in
    subst (λ o. place_of reg (key_or_none o) ≡ Some p) (sym there.1) (sound.once p there.0 there.1)

got : (objects : List Object) (q : ℕ) (o d : Object) → slice_get objects q ≡ Some o → get_or objects q d ≡ o
got [] q o d h = absurd (cc h)
got (x ∷ xs) zero o d h = cc h
got (x ∷ xs) (suc q) o d h = got xs q o d h

key-found : (objects : List Object) (key : List ℕ) (q : ℕ) → position (λ o. bytes_eq key o.key) objects ≡ Some q
    → bytes_eq key (key_or_none (slice_get objects q)) ≡ true
key-found objects key q h =
    let below : q < length objects = (position-Some (λ o. bytes_eq key o.key) objects q (blank objects q h) h).0 in
    let there : (o : Object) × (slice_get objects q ≡ Some o) = object-there objects q below in
    let passes : bytes_eq key (get_or objects q there.0).key ≡ true = (position-Some (λ o. bytes_eq key o.key) objects q there.0 h).1 in
    let o-is : get_or objects q there.0 ≡ there.0 = got objects q there.0 there.0 there.1 in
    let same : bytes_eq key (key_or_none (Some there.0)) ≡ true = subst (λ o. bytes_eq key o.key ≡ true) o-is passes in
    subst (λ o. bytes_eq key (key_or_none o) ≡ true) (sym there.1) same
  where
    blank : (objects : List Object) (q : ℕ) → position (λ o. bytes_eq key o.key) objects ≡ Some q → Object
    blank [] q h = absurd (cc h)
    blank (o ∷ os) q h = o

pub below-place : (reg : Register) (key : List ℕ) (q : ℕ) → place_of reg key ≡ Some q → key ≡ key_at reg q
below-place reg key q h = same_key key (key_at reg q) (key-found reg.objects key q h)

pub object_of-at : (reg : Register) (p : ℕ) → IsSound reg → p < length reg.objects → object_of reg (key_at reg p) ≡ slice_get reg.objects p
object_of-at reg p sound h = ap (object_at reg) (place_of-key_at reg p sound h)

pub members-at : (reg : Register) (p : ℕ) → IsSound reg → p < length reg.objects
    → members_of reg (key_at reg p) ≡ keys_at reg (members_in (slice_get reg.objects p))
members-at reg p sound h = ap (λ o. keys_at reg (members_in o)) (object_of-at reg p sound h)

pub onward-at : (reg : Register) (p : ℕ) → IsSound reg → p < length reg.objects
    → onward_of reg (key_at reg p) ≡ keys_at reg (onward_in (slice_get reg.objects p))
onward-at reg p sound h = ap (λ o. keys_at reg (onward_in o)) (object_of-at reg p sound h)

-- The places that mail goes on to are in range, and not many.
pub onward-below : (n : ℕ) (o : Object) → InRange n o → AllBelow n (onward o)
onward-below n o r = by_kind (is_group o.kind)
  where
    by_kind : (b : Bool) → AllBelow n (if b then o.members else forward_list o.forward)
    by_kind true = r.members
    by_kind false = r.forward

pub onward-few : (n : ℕ) (o : Object) → InRange n o → length (onward o) ≤ 200000
onward-few n o r = by_kind (is_group o.kind)
  where
    one : (f : Option ℕ) → length (forward_list f) ≤ 200000
    one None = omega arith
    one (Some p) = omega arith

    by_kind : (b : Bool) → length (if b then o.members else forward_list o.forward) ≤ 200000
    by_kind true = r.few_members
    by_kind false = one o.forward

-- What is found lies in range, and has the key.
pub found-below : (reg : Register) (key : List ℕ) (p : ℕ) → place_of reg key ≡ Some p → (p < length reg.objects) × (key ≡ key_at reg p)
found-below reg key p h = (inside reg.objects h, below-place reg key p h)
  where
    inside : (os : List Object) → position (λ o. bytes_eq key o.key) os ≡ Some p → p < length os
    inside [] e = absurd (cc e)
    inside (o ∷ os) e = (position-Some (λ o. bytes_eq key o.key) (o ∷ os) p o e).0
