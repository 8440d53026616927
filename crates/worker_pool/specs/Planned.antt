-- What a planner makes of tasks.
use Rattle.std.specs.Prelude.{◌≡◌, List, map, Vec, Result, Ok}
use Rattle.std.specs.Arc.{arc_value}
use Rattle.std.specs.List.{flat_map}
use Rattle.std.specs.declared.alloc.Global.{Global}
use Rattle.mail_names.specs.declared.bytes.NoMemory.{NoMemory}
use Rattle.mail_plan.specs.Means.{Means, Made}
use Rattle.mail_plan.specs.declared.outcome.Task.{Task}

-- the release of a task, with what it is made from
abbrev pub planned : {T Org : Type 0} → Means Org → Task T Org → Made Org
planned means task = record {
  org = arc_value task.org;
  input = task.input;
  release = means.release_of (arc_value task.org) task.input;
}

abbrev pub items_in : {X : Type 0} → Vec X Global → List X
items_in list = list.items

-- Each part was made, and one after another they are the whole.
abbrev pub AreParts : {X : Type 0} → List (Result (Vec X Global) NoMemory) → List X → Type 0
AreParts {X} parts whole = (lists : List (Vec X Global)) × (parts ≡ map Ok lists) × (whole ≡ flat_map items_in lists)
