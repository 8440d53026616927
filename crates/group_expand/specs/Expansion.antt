-- What expanding gives.
use Rattle.std.specs.Prelude.{◌≡◌, ◌&&◌, ℕ, Bool, false, not, if◌then◌else◌, List, ◌++◌, map, Option, Some, None, is_some, Result, Ok, Err}
use Rattle.std.specs.Str.{bytes_eq}
use Rattle.std.specs.List.{list_any}
use Rattle.org_directory.specs.Register.{Register, object_of}
use Rattle.org_directory.specs.Membership.{needs_approval}
use Rattle.group_expand.specs.Routes.{Opens, leaves, closed_met, unknown, too_many}
use Rattle.mail_names.specs.declared.gate.Gate.{Gate}
use Rattle.mail_names.specs.declared.gate.Gate.TheVariants as gates
use Rattle.mail_names.specs.declared.route.How.{How}
use Rattle.mail_names.specs.declared.route.How.TheVariants as hows
use Rattle.mail_names.specs.declared.route.Step.{Step}
use Rattle.org_directory.specs.declared.object.Object.{Object}
use Rattle.group_expand.specs.declared.outcome.Closed.{Closed}
use Rattle.group_expand.specs.declared.outcome.Expansion.{Expansion}
use Rattle.group_expand.specs.declared.outcome.Leaf.{Leaf}
use Rattle.group_expand.specs.declared.way.Way.{Way}
use Rattle.group_expand.specs.declared.outcome.ExpandFault.{ExpandFault}
use Rattle.group_expand.specs.declared.outcome.ExpandFault.TheVariants as faults

-- whether this gate is the object's of this key
abbrev pub opens : List ℕ → Gate → Bool
opens key (gates.Object k) = bytes_eq key k
opens key (gates.Rule place) = false

-- An object is closed where it needs approval and its gate isn't opened.
abbrev pub is_closed : Register → Option (List ℕ) → List Gate → List ℕ → Bool
is_closed reg sender opened key = needs_approval reg key sender && not (list_any (opens key) opened)

-- how mail goes on from an object: by its forward where it has one, and else to its members
abbrev pub how_in : Option Object → How
how_in None = hows.Expanded
how_in (Some o) = if is_some o.forward then hows.Forwarded else hows.Expanded

abbrev pub step_of : Register → List ℕ → Step
step_of reg key = record { key = key; how = how_in (object_of reg key) }

abbrev pub leaf_of : Register → Way → Leaf
leaf_of reg w = record { key = w.key; route = map (step_of reg) w.route }

abbrev pub closed_of : Register → Way → Closed
closed_of reg w = record { key = w.key; route = map (step_of reg) w.route }

-- the leaves, the closed objects and the unknown roots, each once, by their first ways
abbrev pub expansion : Register → List (List ℕ) → Option (List ℕ) → List Gate → Expansion
expansion reg roots sender opened = record {
  leaves = map (leaf_of reg) (leaves reg (is_closed reg sender opened) roots);
  closed = map (closed_of reg) (closed_met reg (is_closed reg sender opened) roots);
  unknown = unknown reg roots;
}

-- what expanding gives: TooManyLeaves, or the expansion
abbrev pub expanded : Register → List (List ℕ) → Option (List ℕ) → List Gate → Result Expansion ExpandFault
expanded reg roots sender opened = if too_many reg roots then Err faults.TooManyLeaves else Ok (expansion reg roots sender opened)

-- TooManyLeaves is what expanding gives, but want of memory may come at any time.
abbrev pub Fails : ExpandFault → Result Expansion ExpandFault → Type 0
Fails faults.NoMemory read = Unit {0}
Fails faults.TooManyLeaves read = read ≡ Err faults.TooManyLeaves

-- What a call answers is what expanding gives, unless memory ran out.
abbrev pub Gives : Result Expansion ExpandFault → Result Expansion ExpandFault → Type 0
Gives (Ok e) given = given ≡ Ok e
Gives (Err e) given = Fails e given

-- More gates open: fewer objects are closed.
abbrev pub MoreGatesOpen : Type 0
MoreGatesOpen = (reg : Register) (sender : Option (List ℕ)) (opened more : List Gate) → Opens (is_closed reg sender opened) (is_closed reg sender (opened ++ more))
