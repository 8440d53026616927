-- Who is in a group, at any depth, and which objects need approval.
use Rattle.std.specs.Prelude.{◌≡◌, ◌↔◌, ℕ, suc, zero, Bool, true, false, not, ◌||◌, ◌&&◌, List, length, Option, Some, None}
use Rattle.std.specs.List.{list_any}
use Rattle.std.specs.Str.{bytes_eq}
use Rattle.org_directory.specs.Register.{Register, among, object_of, keys_at, members_of}
use Rattle.org_directory.specs.declared.object.Object.{Object}

-- A chain of n + 2 keys, each a member of the one before, starts at `group` and ends with `key`.
abbrev pub Chain : Register → ℕ → List ℕ → List ℕ → Type 0
Chain reg zero group key = among key (members_of reg group) ≡ true
Chain reg (suc n) group key = (m : List ℕ) × (among m (members_of reg group) ≡ true) × Chain reg n m key

-- The key is in the group: a chain of some length leads there.
abbrev pub In : Register → List ℕ → List ℕ → Type 0
In reg group key = (n : ℕ) × Chain reg n group key

-- whether a chain of at most n + 1 keys leads there
unfoldable pub leads : Register → ℕ → List ℕ → List ℕ → Bool
leads reg zero group key = false
leads reg (suc n) group key = list_any (λ m. bytes_eq key m || leads reg n m key) (members_of reg group)

-- The same as a test: no chain need be longer than the list of objects.
abbrev pub is_in : Register → List ℕ → List ℕ → Bool
is_in reg group key = leads reg (length reg.objects) group key

-- The test of membership is the relation by chains of any length.
abbrev pub InIsComputed : Type 0
InIsComputed = (reg : Register) (group key : List ℕ) → (is_in reg group key ≡ true) ↔ In reg group key

-- a moderator, an owner, a bypass key or in a bypass group
abbrev pub is_cleared : Register → Object → Option (List ℕ) → Bool
is_cleared reg o None = false
is_cleared reg o (Some sender) =
    among sender (keys_at reg o.moderators) || (among sender (keys_at reg o.owners)
    || (among sender (keys_at reg o.bypass) || list_any (λ group. is_in reg group sender) (keys_at reg o.bypass)))

-- whether the object needs approval for a sender; no object needs none
abbrev pub object_needs : Register → Option Object → Option (List ℕ) → Bool
object_needs reg None sender = false
object_needs reg (Some o) sender = o.moderated && not (is_cleared reg o sender)

-- The object is moderated, and the sender is none of its moderators, owners and bypass keys and in
-- none of its bypass groups.
abbrev pub needs_approval : Register → List ℕ → Option (List ℕ) → Bool
needs_approval reg key sender = object_needs reg (object_of reg key) sender
