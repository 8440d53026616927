-- The marked walk by places: marks, a stack, and the ways found.
use Rattle.std.specs.Prelude.{replicate, ◌≡◌, ◌<◌, ◌≤◌, ◌+◌, ◌-◌, ℕ, Bool, true, false, not, ◌||◌, if◌then◌else◌, List, [], ◌∷◌, ◌++◌, length, map, reverse, drop, Option, Some, None, slice_get, get_or, sum_by, All}
use Rattle.org_directory.specs.Register.{Register, IsSound, key_at, keys_at, is_carrier, is_end, onward, onward_in, place_of, among}
use Rattle.group_expand.specs.Marked.{Frame, frame, Holding, Facing}
use Rattle.org_directory.specs.declared.object.Object.{Object}
use Rattle.group_expand.specs.declared.way.Way.{Way}
use Rattle.group_expand.specs.declared.walk.Entered.{Entered}
use Rattle.group_expand.specs.Routes.{web_of}

-- the keys of the carriers on the stack, from the root down
abbrev pub places_of : Register → List Entered → List (List ℕ)
places_of reg stack = map (λ e. key_at reg e.place) stack

-- where mail stays, or no object
abbrev pub is_end_in : Option Object → Bool
is_end_in None = true
is_end_in (Some o) = is_end o

-- whether a way ends at the object of this place
abbrev pub ends_at : Register → (List ℕ → Bool) → ℕ → Bool
ends_at reg shut p = shut (key_at reg p) || is_end_in (slice_get reg.objects p)

-- neither a group nor a mailbox with a forward, or no object
abbrev pub is_no_carrier : Option Object → Bool
is_no_carrier None = true
is_no_carrier (Some o) = not (is_carrier o)

-- whether no way goes on from the object of this place
abbrev pub stops_at : Register → (List ℕ → Bool) → ℕ → Bool
stops_at reg shut p = shut (key_at reg p) || is_no_carrier (slice_get reg.objects p)

abbrev pub entry : ℕ → ℕ → Entered
entry p k = record { place = p; taken = k }

-- the stack with a carrier entered on it, unless no way goes on there
abbrev pub entered : Bool → List Entered → ℕ → List Entered
entered true stack p = stack
entered false stack p = stack ++ entry p 0 ∷ []

-- the members that are still to be taken
abbrev pub frame_of : Register → Entered → Frame
frame_of reg e = frame (key_at reg e.place) (keys_at reg (drop e.taken (onward_in (slice_get reg.objects e.place))))

abbrev pub frames_of : Register → List Entered → List Frame
frames_of reg es = map (frame_of reg) es

-- whether a key was had: an object by its mark, and a key that is no object by the ways found
abbrev pub marked_at : List Bool → List Way → List ℕ → Option ℕ → Bool
marked_at marks found key None = among key (map (λ w. w.key) found)
marked_at marks found key (Some p) = get_or marks p false

-- the keys that were had: by the marks, and for keys that are no object by the ways found
abbrev pub had_by : Register → List Bool → List Way → List ℕ → Bool
had_by reg marks found key = marked_at marks found key (place_of reg key)

-- an object with no mark counts 1
abbrev pub cost : Bool → ℕ
cost true = 0
cost false = 1

-- how many objects have no mark
abbrev pub unmarked : List Bool → ℕ
unmarked marks = sum_by cost marks

-- What is found, and the first ways of what a plain listing has before it, are the whole.
abbrev pub Holds : Register → (List ℕ → Bool) → List Way → List (List ℕ) → List Bool → List Entered → List Way → Type 0
Holds reg shut whole roots marks stack found =
    Holding (web_of reg shut) (length reg.objects + 1) whole roots (had_by reg marks found) (frames_of reg (reverse stack)) found

-- The same, where the next key was taken and isn't met yet.
abbrev pub Faces : Register → (List ℕ → Bool) → List Way → List (List ℕ) → List Bool → List Entered → List ℕ → List Way → Type 0
Faces reg shut whole roots marks stack key found =
    Facing (web_of reg shut) (length reg.objects + 1) whole roots (had_by reg marks found) (frames_of reg (reverse stack)) key found

-- the calls of `member_at` that an object can still cost: for a carrier with no mark one for each member or forward, and one at the end
abbrev pub price : Object → Bool → ℕ
price o true = 0
price o false = if is_carrier o then length (onward o) + 1 else 0

-- the calls of `member_at` that carriers without a mark can still cost
abbrev pub owed : List Object → List Bool → ℕ
owed [] marks = 0
owed (o ∷ os) [] = 0
owed (o ∷ os) (m ∷ ms) = price o m + owed os ms

-- the calls of `member_at` that a carrier on the stack can still cost
abbrev pub left_of : Register → Entered → ℕ
left_of reg e = length (onward_in (slice_get reg.objects e.place)) + 1 - e.taken

-- the calls that the walk can still make
abbrev pub all_owed : Register → List Bool → List Entered → ℕ
all_owed reg marks stack = owed reg.objects marks + sum_by (left_of reg) stack

-- What holds of the marks and the stack between steps.
pub record Ready (reg : Register) (marks : List Bool) (stack : List Entered) : Type 0 where
  pub sound : IsSound reg
  pub long : length marks ≡ length reg.objects
  pub in_range : All (λ e. e.place < length reg.objects) stack
  pub within : All (λ e. e.taken ≤ length (onward_in (slice_get reg.objects e.place))) stack
  pub deep : length stack + unmarked marks ≤ length reg.objects

-- The last carrier entered gave its next member, or had none and was left.
abbrev pub Took : Register → Option ℕ → List Entered → List Entered → Type 0
Took reg None old left =
    (e : Entered) × (old ≡ left ++ e ∷ []) × (slice_get (onward_in (slice_get reg.objects e.place)) e.taken ≡ None)
Took reg (Some m) old left =
    (front : List Entered) × (e : Entered) × (old ≡ front ++ e ∷ []) × (left ≡ front ++ entry e.place (e.taken + 1) ∷ [])
    × (slice_get (onward_in (slice_get reg.objects e.place)) e.taken ≡ Some m)

-- the ways found, and one to a root outside that is no object, unless it was had
abbrev pub with_stranger : Bool → Bool → List Way → List ℕ → List Way
with_stranger true had found key = found
with_stranger false true found key = found
with_stranger false false found key = found ++ record { route = []; key = key } ∷ []

abbrev pub no_marks : List Object → List Bool
no_marks objects = replicate (length objects) false

-- the member entries and forwards, and the carriers: groups, and mailboxes that forward
abbrev pub entries : List Object → ℕ
entries [] = 0
entries (o ∷ os) = (if is_carrier o then length (onward o) else 0) + entries os

abbrev pub carriers : List Object → ℕ
carriers [] = 0
carriers (o ∷ os) = (if is_carrier o then 1 else 0) + carriers os

-- With no marks yet the carriers can cost a call for each of their entries and one for each of them.
abbrev pub CostsEntriesAndCarriers : Type 0
CostsEntriesAndCarriers = (objects : List Object) → owed objects (no_marks objects) ≡ entries objects + carriers objects
