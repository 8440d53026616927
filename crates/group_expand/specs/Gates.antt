-- Which objects the gates of an expansion shut.
use Rattle.std.specs.Prelude.{◌≡◌, ℕ, Bool, false, List, length, get_or, Option, Some, None, option_copied}
use Rattle.org_directory.specs.Register.{Register, place_of}
use Rattle.group_expand.specs.Expansion.{is_closed}
use Rattle.group_expand.specs.Groups.{KnowsGroups}
use Rattle.group_expand.specs.declared.gates.Gates.{Gates}

-- what is known, or else what would be answered
abbrev pub decided : Option Bool → Bool → Bool
decided None answer = answer
decided (Some b) answer = b

-- the answer at the place of an object, by what is known and by what would be answered; no object is not shut
abbrev pub answered : List (Option Bool) → Bool → Option ℕ → Bool
answered known answer None = false
answered known answer (Some p) = decided (get_or known p None) answer

-- whether the gates shut the object of this key
abbrev pub shuts : Register → Gates → List ℕ → Bool
shuts reg gates key = answered gates.known.items (is_closed reg (option_copied gates.sender) gates.opened.now key) (place_of reg key)

-- There is room for an answer at each place, and what is known of the sender's groups is true.
pub record AreReady (reg : Register) (gates : Gates) : Type 0 where
  pub room : length gates.known.items ≡ length reg.objects
  pub groups : KnowsGroups reg (option_copied gates.sender) gates.groups

-- The gates shut the same objects, whatever more is known.
pub record ShutsSame (reg : Register) (old after : Gates) : Type 0 where
  pub ready : AreReady reg after
  pub same : shuts reg after ≡ shuts reg old
