-- Approvals. Moments are seconds since 1970-01-01T00:00:00Z.
use Rattle.std.specs.Prelude.{⊤, ℕ, ◌+◌, ◌<◌, ◌≤◌, ◌&&◌, nat_le, nat_lt, Bool, true, false, if◌then◌else◌, List, length, position, bytes_eq, Option, Some, None}
use Rattle.mail_names.specs.Dates.{last_moment}
use Rattle.mail_names.specs.declared.gate.Gate.{Gate}
use Rattle.moderation.specs.declared.approval.TheConstants.{APPROVAL_TIME}
use Rattle.moderation.specs.declared.approval.Verdict.{Verdict}
use Rattle.moderation.specs.declared.approval.ApprovalState.{ApprovalState}
use Rattle.moderation.specs.declared.approval.ApprovalState.TheVariants as states
use Rattle.moderation.specs.declared.approval.Decision.{Decision}
use Rattle.moderation.specs.declared.approval.Decision.TheVariants as decisions

-- an approval: what it is asked for, of whom, when it was made, until when, and how far it has come
pub record Asked : Type 0 where
  pub gate : Gate
  pub moderators : List (List ℕ)
  pub made : ℕ
  pub deadline : ℕ
  pub state : ApprovalState

-- who decided is a moderator
abbrev pub IsStateOf : List (List ℕ) → ApprovalState → Type 0
IsStateOf moderators (states.Decided by verdict) = by < length moderators
IsStateOf moderators states.Pending = ⊤
IsStateOf moderators states.Ended = ⊤

-- 1 to 10 moderators, made by the last moment
pub record IsApproval (moderators : List (List ℕ)) (made : ℕ) (state : ApprovalState) : Type 0 where
  pub some : 0 < length moderators
  pub few : length moderators ≤ 10
  pub moment : made ≤ last_moment
  pub by : IsStateOf moderators state

-- a new one: it may be decided for two days
abbrev pub asked : Gate → List (List ℕ) → ℕ → Asked
asked gate moderators made =
    record { gate = gate; moderators = moderators; made = made; deadline = made + APPROVAL_TIME; state = states.Pending }

-- the first place of a key among the moderators
abbrev pub place_of : Asked → List ℕ → Option ℕ
place_of a key = position (bytes_eq key) a.moderators

abbrev pub is_pending : ApprovalState → Bool
is_pending states.Pending = true
is_pending (states.Decided by verdict) = false
is_pending states.Ended = false

-- the first that holds: no moderator's, decided before, ended or too late, and else taken
abbrev pub answer : Option ℕ → ApprovalState → ℕ → ℕ → Decision
answer None state deadline moment = decisions.NotModerator
answer (Some place) (states.Decided by verdict) deadline moment = decisions.Already by verdict
answer (Some place) states.Ended deadline moment = decisions.Expired deadline
answer (Some place) states.Pending deadline moment = if nat_lt moment deadline then decisions.Taken else decisions.Expired deadline

abbrev pub decide_answer : Asked → List ℕ → ℕ → Decision
decide_answer a by moment = answer (place_of a by) a.state a.deadline moment

abbrev pub state_with : Option ℕ → Verdict → Decision → ApprovalState → ApprovalState
state_with (Some place) verdict decisions.Taken state = states.Decided place verdict
state_with place verdict reply state = state

-- with a decision that is taken; every other answer leaves it as it is
abbrev pub decided : Asked → List ℕ → Verdict → ℕ → Asked
decided a by verdict moment = record a { state = state_with (place_of a by) verdict (decide_answer a by moment) a.state }

-- it is pending, and the moment is at or past its deadline
abbrev pub runs_out : Asked → ℕ → Bool
runs_out a moment = is_pending a.state && nat_le a.deadline moment

-- ended where it runs out
abbrev pub expired : Asked → ℕ → Asked
expired a moment = record a { state = if runs_out a moment then states.Ended else a.state }
