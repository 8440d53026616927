-- Expansion where no mailbox forwards: groups alone lead on.
use Rattle.std.specs.Prelude.{◌≡◌, ◌+◌, ℕ, Bool, not, if◌then◌else◌, ◌||◌, List, [], length, map, filter, Option, Some, None, slice_get}
use Rattle.std.specs.List.{flat_map}
use Rattle.org_directory.specs.Register.{Register, IsSound, is_group, is_inside, object_of, members_of}
use Rattle.org_directory.specs.declared.object.Object.{Object}
use Rattle.mail_names.specs.declared.route.How.TheVariants as hows
use Rattle.mail_names.specs.declared.route.Step.{Step}
use Rattle.group_expand.specs.Expansion.{leaf_of}
use Rattle.group_expand.specs.Routes.{leaves}
use Rattle.group_expand.specs.Ways.{Web, ways, first_of_each}
use Rattle.group_expand.specs.declared.outcome.Leaf.{Leaf}
use Rattle.group_expand.specs.declared.way.Way.{Way}

-- no mailbox forwards, as in each directory of a file without forwards
abbrev pub NoForwards : Register → Type 0
NoForwards reg = (p : ℕ) (o : Object) → slice_get reg.objects p ≡ Some o → o.forward ≡ None

-- an object that is no group is a leaf, and so is a key outside that is no object
abbrev pub is_leaf_before : Option Object → Bool → Bool
is_leaf_before (Some o) inside = not (is_group o.kind)
is_leaf_before None inside = not inside

-- A way goes on through members alone.
abbrev pub groups_web : Register → (List ℕ → Bool) → Web
groups_web reg closed = record {
  is_end = λ k. closed k || is_leaf_before (object_of reg k) (is_inside reg k);
  next = λ k. if closed k then [] else members_of reg k;
}

-- the leaves, each by its first way through groups
abbrev pub leaves_before : Register → (List ℕ → Bool) → List (List ℕ) → List Way
leaves_before reg closed roots =
    first_of_each (filter (λ w. not (closed w.key)) (flat_map (ways (groups_web reg closed) (length reg.objects + 1) []) roots))

-- a leaf whose route is the groups of the way
abbrev pub expanded_leaf : Way → Leaf
expanded_leaf w = record { key = w.key; route = map (λ k. record { key = k; how = hows.Expanded }) w.route }

-- Without forwards the leaves are those that groups alone give, with every step expanded.
abbrev pub ExpandsAsBefore : Type 0
ExpandsAsBefore =
    (reg : Register) (closed : List ℕ → Bool) (roots : List (List ℕ)) → IsSound reg → NoForwards reg
    → map (leaf_of reg) (leaves reg closed roots) ≡ map expanded_leaf (leaves_before reg closed roots)
