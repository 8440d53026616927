-- What a directory is: accepted domains, and objects that name each other by their places.
use Rattle.std.specs.Prelude.{◌≡◌, ◌<◌, ◌≤◌, ℕ, Bool, true, false, not, ◌&&◌, ◌||◌, if◌then◌else◌, List, [], ◌∷◌, length, map, position, Option, Some, None, is_some, slice_get, All}
use Rattle.std.specs.List.{list_any}
use Rattle.std.specs.Str.{bytes_eq}
use Rattle.mail_names.specs.Key.{domain_of}
use Rattle.org_directory.specs.declared.object.Object.{Object}
use Rattle.org_directory.specs.declared.object.Kind.{Kind}
use Rattle.org_directory.specs.declared.object.Kind.TheVariants as kinds

-- what contracts see of a directory
pub record Register : Type 0 where
  pub domains : List (List ℕ)
  pub objects : List Object

-- whether the key is one of the list
abbrev pub among : List ℕ → List (List ℕ) → Bool
among key keys = list_any (bytes_eq key) keys

-- A key is inside where its domain is accepted.
abbrev pub is_inside : Register → List ℕ → Bool
is_inside reg key = among (domain_of key) reg.domains

-- the first place of an object of this key
abbrev pub place_of : Register → List ℕ → Option ℕ
place_of reg key = position (λ o. bytes_eq key o.key) reg.objects

-- the object at a place, where there is one
abbrev pub object_at : Register → Option ℕ → Option Object
object_at reg None = None
object_at reg (Some p) = slice_get reg.objects p

-- the object of this key
abbrev pub object_of : Register → List ℕ → Option Object
object_of reg key = object_at reg (place_of reg key)

abbrev pub is_group : Kind → Bool
is_group kinds.Group = true
is_group kinds.Mailbox = false
is_group kinds.Contact = false

abbrev pub is_mailbox : Kind → Bool
is_mailbox kinds.Mailbox = true
is_mailbox kinds.Contact = false
is_mailbox kinds.Group = false

-- a mailbox or a contact, or no object and outside
abbrev pub takes_mail : Option Object → Bool → Bool
takes_mail None inside = not inside
takes_mail (Some o) inside = not (is_group o.kind)

-- A key is deliverable where it is a mailbox or contact, or no object and outside.
abbrev pub is_deliverable : Register → List ℕ → Bool
is_deliverable reg key = takes_mail (object_of reg key) (is_inside reg key)

-- the key of an object, or no bytes where there is none
abbrev pub key_or_none : Option Object → List ℕ
key_or_none None = []
key_or_none (Some o) = o.key

-- the key of the object at a place
abbrev pub key_at : Register → ℕ → List ℕ
key_at reg p = key_or_none (slice_get reg.objects p)

abbrev pub keys_at : Register → List ℕ → List (List ℕ)
keys_at reg places = map (key_at reg) places

-- the places of an object's members
abbrev pub members_in : Option Object → List ℕ
members_in None = []
members_in (Some o) = o.members

-- the place that a forward names, in a list
abbrev pub forward_list : Option ℕ → List ℕ
forward_list None = []
forward_list (Some p) = p ∷ []

-- the places that mail to an object goes on to: a group's members, or the forward of a mailbox
abbrev pub onward : Object → List ℕ
onward o = if is_group o.kind then o.members else forward_list o.forward

abbrev pub onward_in : Option Object → List ℕ
onward_in None = []
onward_in (Some o) = onward o

-- A carrier is a group, or a mailbox with a forward.
abbrev pub is_carrier : Object → Bool
is_carrier o = is_group o.kind || is_some o.forward

-- Mail stays with a mailbox without a forward, with one that keeps, and with a contact.
abbrev pub is_end : Object → Bool
is_end o = not (is_group o.kind) && (not (is_some o.forward) || o.keep)

-- the members of the object of this key
abbrev pub members_of : Register → List ℕ → List (List ℕ)
members_of reg key = keys_at reg (members_in (object_of reg key))

-- the keys that mail to the object of this key goes on to
abbrev pub onward_of : Register → List ℕ → List (List ℕ)
onward_of reg key = keys_at reg (onward_in (object_of reg key))

-- places in a list of n objects
abbrev pub AllBelow : ℕ → List ℕ → Type 0
AllBelow n places = All (λ p. p < n) places

-- An object's places are those of n objects, a group alone has members, and a mailbox alone forwards.
pub record InRange (n : ℕ) (o : Object) : Type 0 where
  pub members : AllBelow n o.members
  pub owners : AllBelow n o.owners
  pub moderators : AllBelow n o.moderators
  pub bypass : AllBelow n o.bypass
  pub groups_alone : is_group o.kind ≡ false → o.members ≡ []
  pub forward : AllBelow n (forward_list o.forward)
  pub mailboxes_alone : is_mailbox o.kind ≡ false → o.forward ≡ None
  pub few_members : length o.members ≤ 200000

-- Each object is the first of its key, its places are in range, and the objects are at most 20,000.
pub record IsSound (reg : Register) : Type 0 where
  pub once : (p : ℕ) (o : Object) → slice_get reg.objects p ≡ Some o → place_of reg o.key ≡ Some p
  pub placed : (p : ℕ) (o : Object) → slice_get reg.objects p ≡ Some o → InRange (length reg.objects) o
  pub few : length reg.objects ≤ 20000
