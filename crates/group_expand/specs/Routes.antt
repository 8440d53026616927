-- Which keys are ends, and the routes to them.
use Rattle.std.specs.Prelude.{◌≡◌, ◌<◌, ◌+◌, ℕ, Bool, true, false, not, nat_lt, if◌then◌else◌, ◌||◌, List, [], ◌∷◌, ◌++◌, length, map, filter, Option, Some, None, get_or}
use Rattle.std.specs.List.{flat_map}
use Rattle.org_directory.specs.Register.{among, Register, key_at, is_end, is_inside, place_of, object_of, onward_of}
use Rattle.group_expand.specs.Ways.{Web, ways, here, first_of_each}
use Rattle.org_directory.specs.declared.object.Object.{Object}
use Rattle.group_expand.specs.declared.outcome.TheConstants.{MOST_LEAVES}
use Rattle.group_expand.specs.declared.way.Way.{Way}

-- a contact is a leaf, a mailbox that doesn't forward or keeps, and a key outside that is no object
abbrev pub is_leaf : Option Object → Bool → Bool
is_leaf (Some o) inside = is_end o
is_leaf None inside = not inside

-- A way goes on through members and forwards of what isn't closed. It ends at a leaf, or is met by a closed object.
abbrev pub web_of : Register → (List ℕ → Bool) → Web
web_of reg closed = record {
  is_end = λ k. closed k || is_leaf (object_of reg k) (is_inside reg k);
  next = λ k. if closed k then [] else onward_of reg k;
}

-- every way from a root, in order
abbrev pub all_ways : Register → (List ℕ → Bool) → List (List ℕ) → List Way
all_ways reg closed roots = flat_map (ways (web_of reg closed) (length reg.objects + 1) []) roots

-- ALL routes: the ways that end at a leaf
abbrev pub routes : Register → (List ℕ → Bool) → List (List ℕ) → List Way
routes reg closed roots = filter (λ w. not (closed w.key)) (all_ways reg closed roots)

-- Route(leaf) is the route of the first way to it.
abbrev pub leaves : Register → (List ℕ → Bool) → List (List ℕ) → List Way
leaves reg closed roots = first_of_each (routes reg closed roots)

-- the closed objects that are met, by the first way to each
abbrev pub closed_met : Register → (List ℕ → Bool) → List (List ℕ) → List Way
closed_met reg closed roots = first_of_each (filter (λ w. closed w.key) (all_ways reg closed roots))

abbrev pub keys_of : List Way → List (List ℕ)
keys_of ws = map (λ w. w.key) ws

-- no object, and inside
abbrev pub is_unknown : Option ℕ → Bool → Bool
is_unknown None inside = inside
is_unknown (Some p) inside = false

-- the roots that are no object, inside, each once
abbrev pub unknown : Register → List (List ℕ) → List (List ℕ)
unknown reg roots = keys_of (first_of_each (flat_map (λ k. here (is_unknown (place_of reg k) (is_inside reg k)) [] k) roots))

-- more leaves than a submission may have, with every gate taken as opened
abbrev pub too_many : Register → List (List ℕ) → Bool
too_many reg roots = nat_lt MOST_LEAVES (length (leaves reg (λ k. false) roots))

-- Fewer objects are closed.
abbrev pub Opens : (List ℕ → Bool) → (List ℕ → Bool) → Type 0
Opens before after = (k : List ℕ) → after k ≡ true → before k ≡ true

-- With more gates opened every leaf stays a leaf.
abbrev pub LeavesStay : Type 0
LeavesStay =
    (reg : Register) (before after : List ℕ → Bool) (roots : List (List ℕ)) (key : List ℕ) → Opens before after
    → among key (keys_of (leaves reg before roots)) ≡ true → among key (keys_of (leaves reg after roots)) ≡ true

-- With more gates opened a closed object that was met is met, unless its own gate was opened.
abbrev pub ClosedStay : Type 0
ClosedStay =
    (reg : Register) (before after : List ℕ → Bool) (roots : List (List ℕ)) (key : List ℕ) → Opens before after
    → among key (keys_of (closed_met reg before roots)) ≡ true → after key ≡ true → among key (keys_of (closed_met reg after roots)) ≡ true

-- what a table over the places says of a key
abbrev pub shut_at : List Bool → Option ℕ → Bool
shut_at table None = false
shut_at table (Some p) = get_or table p false

-- what the table says of the object of this key
abbrev pub shut_by : Register → List Bool → List ℕ → Bool
shut_by reg table key = shut_at table (place_of reg key)

-- The table says of each place whether its object is closed.
pub record IsTable (reg : Register) (closed : List ℕ → Bool) (table : List Bool) : Type 0 where
  pub long : length table ≡ length reg.objects
  pub each : (p : ℕ) → p < length reg.objects → get_or table p false ≡ closed (key_at reg p)

-- the way, if the test holds
abbrev pub kept : Bool → Way → List Way
kept true w = w ∷ []
kept false w = []

-- this key added, if it is unknown and wasn't had
abbrev pub with_unknown : Bool → Bool → List (List ℕ) → List ℕ → List (List ℕ)
with_unknown false had keys key = keys
with_unknown true true keys key = keys
with_unknown true false keys key = keys ++ key ∷ []

-- a way to each root that is unknown, in order, as often as it is named
abbrev pub unknown_ways : Register → List (List ℕ) → List Way
unknown_ways reg roots = flat_map (λ k. here (is_unknown (place_of reg k) (is_inside reg k)) [] k) roots
