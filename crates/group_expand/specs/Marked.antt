-- The state of a marked walk, on keys.
use Rattle.std.specs.Prelude.{◌≡◌, ◌-◌, ℕ, Bool, true, false, ◌||◌, List, [], ◌∷◌, ◌++◌, ◌⊎◌, length}
use Rattle.std.specs.List.{flat_map}
use Rattle.std.specs.Str.{bytes_eq}
use Rattle.group_expand.specs.declared.way.Way.{Way}
use Rattle.org_directory.specs.Register.{among}
use Rattle.group_expand.specs.Ways.{Web, ways, fresh}

-- What follows a key that was had, and isn't on the trail, was had.
abbrev pub Sealed : Web → (List ℕ → Bool) → List (List ℕ) → Type 0
Sealed web had trail =
    (g : List ℕ) → had g ≡ true → among g trail ≡ false → (m : List ℕ) → among m (web.next g) ≡ true → had m ≡ true

-- A carrier that was entered, and what of its members is still to be walked.
pub record Frame : Type 0 where
  pub carrier : List ℕ
  pub rest : List (List ℕ)

-- the carriers entered, from the root down
abbrev pub trail_of : List Frame → List (List ℕ)
trail_of [] = []
trail_of (f ∷ fs) = trail_of fs ++ f.carrier ∷ []

-- the ways that a plain listing has still before it
abbrev pub pending : Web → ℕ → List (List ℕ) → List Frame → List Way
pending web room roots [] = flat_map (ways web room []) roots
pending web room roots (f ∷ fs) =
    flat_map (ways web (room - length (trail_of (f ∷ fs))) (trail_of (f ∷ fs))) f.rest ++ pending web room roots fs

-- of each carrier entered, a member was had or is still to be walked
abbrev pub Begun : Web → (List ℕ → Bool) → List Frame → Type 0
Begun web had [] = Unit {0}
Begun web had (f ∷ fs) =
    ((m : List ℕ) → among m (web.next f.carrier) ≡ true → (had m ≡ true) ⊎ (among m f.rest ≡ true)) × Begun web had fs

-- What holds between steps of the keys that were had and the carriers entered.
pub record Walks (web : Web) (had : List ℕ → Bool) (frames : List Frame) : Type 0 where
  pub passed : (g : List ℕ) → among g (trail_of frames) ≡ true → had g ≡ true
  pub sealed : Sealed web had (trail_of frames)
  pub begun : Begun web had frames

-- this key besides those that were had
abbrev pub with_key : List ℕ → (List ℕ → Bool) → List ℕ → Bool
with_key m had k = bytes_eq k m || had k

abbrev pub frame : List ℕ → List (List ℕ) → Frame
frame carrier rest = record { carrier = carrier; rest = rest }

-- What is found, and the first ways of what a plain listing has before it, are the whole.
pub record Holding (web : Web) (room : ℕ) (whole : List Way) (roots : List (List ℕ))
    (had : List ℕ → Bool) (frames : List Frame) (found : List Way) : Type 0 where
  pub walks : Walks web had frames
  pub sum : whole ≡ found ++ fresh had (pending web room roots frames)

-- The same, where the next key was taken and isn't met yet.
pub record Facing (web : Web) (room : ℕ) (whole : List Way) (roots : List (List ℕ))
    (had : List ℕ → Bool) (frames : List Frame) (key : List ℕ) (found : List Way) : Type 0 where
  pub passed : (g : List ℕ) → among g (trail_of frames) ≡ true → had g ≡ true
  pub sealed : Sealed web had (trail_of frames)
  pub begun : Begun web (with_key key had) frames
  pub sum : whole ≡ found ++ fresh had (ways web (room - length (trail_of frames)) (trail_of frames) key ++ pending web room roots frames)
