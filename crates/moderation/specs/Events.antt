-- What happens to an approval, and what of it counts.
use Rattle.std.specs.Prelude.{⊤, ℕ, ◌≤◌, ◌&&◌, nat_le, nat_lt, Bool, false, List, [], ◌∷◌, bytes_eq, Option, Some, None}
use Rattle.std.specs.List.{list_any, position_or_len}
use Rattle.moderation.specs.declared.approval.Verdict.{Verdict}
use Rattle.moderation.specs.declared.approval.ApprovalState.{ApprovalState}
use Rattle.moderation.specs.declared.approval.ApprovalState.TheVariants as states
use Rattle.moderation.specs.Approval.{Asked, decided, expired}

-- a key decides at a moment, or a turn begins at one
pub data Event : Type 0 where
  Decides : (by : List ℕ) (verdict : Verdict) (moment : ℕ) → Event
  Turn : (moment : ℕ) → Event

-- what `decide` and `expire` make of the approval
abbrev pub after : Event → Asked → Asked
after (Decides by verdict moment) a = decided a by verdict moment
after (Turn moment) a = expired a moment

-- the approval after all of these in order
abbrev pub after_all : List Event → Asked → Asked
after_all [] a = a
after_all (event ∷ events) a = after_all events (after event a)

abbrev pub is_moderator : Asked → List ℕ → Bool
is_moderator a key = list_any (bytes_eq key) a.moderators

-- a moderator decides before the deadline
abbrev pub is_decision : Asked → Event → Bool
is_decision a (Decides by verdict moment) = is_moderator a by && nat_lt moment a.deadline
is_decision a (Turn moment) = false

-- a moderator decides before the deadline, or a turn begins at or past it
abbrev pub counts : Asked → Event → Bool
counts a (Decides by verdict moment) = is_decision a (Decides by verdict moment)
counts a (Turn moment) = nat_le a.deadline moment

-- what an approval comes to by the one event that counts
abbrev pub state_by : Asked → Option Event → ApprovalState
state_by a None = states.Pending
state_by a (Some (Decides by verdict moment)) = states.Decided (position_or_len (bytes_eq by) a.moderators) verdict
state_by a (Some (Turn moment)) = states.Ended

abbrev pub moment_of : Event → ℕ
moment_of (Decides by verdict moment) = moment
moment_of (Turn moment) = moment

-- no moment is before that of the event in front of it
abbrev pub IsInOrder : ℕ → List Event → Type 0
IsInOrder moment [] = ⊤
IsInOrder moment (event ∷ events) = (moment ≤ moment_of event) × IsInOrder (moment_of event) events
