-- The approvals that releases ask for.
use Rattle.std.specs.Prelude.{ℕ, Bool, true, false, List, [], map, slice_get, slice_set, Option, Some, None}
use Rattle.std.specs.List.{list_any}
use Rattle.moderation.specs.Approval.{asked, decided, is_pending, expired}
use Rattle.moderation.specs.declared.approval.Verdict.{Verdict}
use Rattle.mail_plan.specs.declared.release.Hold.{Hold}
use Rattle.hub_core.specs.declared.asking.Asking.{Asking}

-- a list with what stands at a place changed
abbrev pub changed_at : {X : Type 0} → (X → X) → List X → ℕ → Option X → List X
changed_at f xs place None = xs
changed_at f xs place (Some x) = slice_set xs place (f x)

abbrev pub changed : {X : Type 0} → (X → X) → ℕ → List X → List X
changed f place xs = changed_at f xs place (slice_get xs place)

-- a release of a submission: the approvals that it asks for, or none known as long as it waits to be categorised
abbrev pub Stage : Type 0
Stage = Option (List Asking)

-- the approval that is asked for a hold, by a release of this moment
abbrev pub asking_of : ℕ → Hold → Asking
asking_of made hold = record { approval = asked hold.gate hold.moderators made; label = hold.label; tell = hold.tell }

abbrev pub pends : Asking → Bool
pends asking = is_pending asking.approval.state

-- The release waits to be categorised.
abbrev pub stage_waits : Stage → Bool
stage_waits None = true
stage_waits (Some asks) = false

abbrev pub stage_pends : Stage → Bool
stage_pends None = false
stage_pends (Some asks) = list_any pends asks

-- The release waits to be categorised, or an approval that it asks for pends.
abbrev pub stage_open : Stage → Bool
stage_open None = true
stage_open (Some asks) = list_any pends asks

abbrev pub decided_asking : List ℕ → Verdict → ℕ → Asking → Asking
decided_asking by verdict moment asking = record asking { approval = decided asking.approval by verdict moment }

-- with a decision on the approval at a place
abbrev pub decided_stage : ℕ → List ℕ → Verdict → ℕ → Stage → Stage
decided_stage gate by verdict moment None = None
decided_stage gate by verdict moment (Some asks) = Some (changed (decided_asking by verdict moment) gate asks)

abbrev pub expired_asking : ℕ → Asking → Asking
expired_asking moment asking = record asking { approval = expired asking.approval moment }

-- with the approvals ended that run out at a moment
abbrev pub expired_stage : ℕ → Stage → Stage
expired_stage moment None = None
expired_stage moment (Some asks) = Some (map (expired_asking moment) asks)

-- the approvals that a release is known to ask for
abbrev pub asks_in : Stage → List Asking
asks_in None = []
asks_in (Some asks) = asks

abbrev pub asking_in : Option Stage → ℕ → Option Asking
asking_in None gate = None
asking_in (Some None) gate = None
asking_in (Some (Some asks)) gate = slice_get asks gate
