-- The submissions that are remembered, and what happens to them.
use Rattle.std.specs.Prelude.{◌≡◌, ◌≤◌, ℕ, suc, nat_lt, is_some, Bool, true, false, if◌then◌else◌, List, [], ◌∷◌, ◌++◌, length, map, position, slice_get, slice_set, option_map, Option, Some, None}
use Rattle.std.specs.List.{list_any}
use Rattle.mail_names.specs.Dates.{last_moment}
use Rattle.mail_names.specs.declared.name.ApprovalName.{ApprovalName}
use Rattle.moderation.specs.Approval.{decide_answer}
use Rattle.moderation.specs.declared.approval.Decision.{Decision}
use Rattle.moderation.specs.declared.approval.Decision.TheVariants as decisions
use Rattle.moderation.specs.declared.approval.Verdict.{Verdict}
use Rattle.moderation.specs.declared.approval.Verdict.TheVariants as verdicts
use Rattle.mail_plan.specs.Planning.{Input, Opening, first_input, input_at, made_at}
use Rattle.mail_submission.specs.Submission.{Submitted}
use Rattle.mail_plan.specs.declared.release.Release.{Release}
use Rattle.hub_core.specs.declared.asking.Asking.{Asking}
use Rattle.hub_core.specs.Setup.{Texts}
use Rattle.hub_core.specs.Approvals.{Stage, changed, asking_of, stage_waits, stage_pends, stage_open, decided_stage, expired_stage, asking_in}

-- a submission that is remembered: when it was accepted, the epoch that stood then, the organisation that plans it, as long
-- as one of its releases waits to be categorised or an approval pends, the gates that were opened, in order, and its
-- releases: the first, and one for each gate
pub record LiveMail : Type 0 where
  pub submission : Submitted
  pub accepted_at : ℕ
  pub epoch : ℕ
  pub org : Option Texts
  pub opened : List Opening
  pub stages : List Stage

-- The organisation is kept as long as something needs it.
abbrev pub freed : LiveMail → LiveMail
freed mail = if list_any stage_open mail.stages then mail else record mail { org = None }

-- a submission as it is accepted
abbrev pub new_mail : Submitted → ℕ → ℕ → Texts → LiveMail
new_mail submission moment epoch org =
    record { submission = submission; accepted_at = moment; epoch = epoch; org = Some org; opened = []; stages = None ∷ [] }

-- the input of a release of a submission of this number
abbrev pub input_of : ℕ → LiveMail → ℕ → Input
input_of number mail release = input_at (first_input number mail.epoch mail.accepted_at mail.submission) mail.opened release

-- The submission has this release, and it waits to be categorised.
abbrev pub waits_in : Option Stage → Bool
waits_in None = false
waits_in (Some stage) = stage_waits stage

abbrev pub waits : LiveMail → ℕ → Bool
waits mail release = waits_in (slice_get mail.stages release)

-- the first release of a submission that waits to be categorised
abbrev pub first_waiting : LiveMail → Option ℕ
first_waiting mail = position stage_waits mail.stages

-- what makes a release of a submission: its input, and the organisation that is to plan it
pub record IsTask (number : ℕ) (mail : LiveMail) (made_from : Input) (texts : Texts) : Type 0 where
  pub waits : waits mail made_from.release ≡ true
  pub input : made_from ≡ input_of number mail made_from.release
  pub org : mail.org ≡ Some texts

abbrev pub is_uncategorised : Option LiveMail → ℕ → Bool
is_uncategorised None release = false
is_uncategorised (Some mail) release = waits mail release

-- with the approvals that a release asks for
abbrev pub with_asks : ℕ → List Asking → LiveMail → LiveMail
with_asks release asks mail = freed (record mail { stages = slice_set mail.stages release (Some asks) })

-- A release that waits is categorised by a plan, and asks for the approvals of its holds.
abbrev pub categorised : ℕ → Release → LiveMail → LiveMail
categorised release plan mail =
    if waits mail release
    then with_asks release (map (asking_of (made_at mail.accepted_at mail.opened release)) plan.holds) mail else mail

-- the approval at a place of a release
abbrev pub asking_at : LiveMail → ApprovalName → Option Asking
asking_at mail name = asking_in (slice_get mail.stages name.release) name.gate

-- An approval opens its gate, and makes a release.
abbrev pub opened_by : Verdict → Asking → ℕ → LiveMail → LiveMail
opened_by verdicts.Approve asking moment mail =
    record mail { opened = mail.opened ++ (record { gate = asking.approval.gate; moment = moment }) ∷ []; stages = mail.stages ++ None ∷ [] }
opened_by verdicts.Reject asking moment mail = mail

abbrev pub decided_with : Option Asking → ApprovalName → List ℕ → Verdict → ℕ → LiveMail → LiveMail
decided_with None name by verdict moment mail = mail
decided_with (Some asking) name by verdict moment mail =
    freed (opened_by verdict asking moment (record mail { stages = changed (decided_stage name.gate by verdict moment) name.release mail.stages }))

-- with a decision on the approval of this name
abbrev pub decided_mail : ApprovalName → List ℕ → Verdict → ℕ → LiveMail → LiveMail
decided_mail name by verdict moment mail = decided_with (asking_at mail name) name by verdict moment mail

-- with the approvals ended that run out at a moment
abbrev pub expired_mail : ℕ → LiveMail → LiveMail
expired_mail moment mail = freed (record mail { stages = map (expired_stage moment) mail.stages })

-- An approval that one of its releases asks for pends.
abbrev pub mail_pends : LiveMail → Bool
mail_pends mail = list_any stage_pends mail.stages

-- Another release can follow, or none has to: releases are numbered by u32.
abbrev pub can_decide : Verdict → LiveMail → Bool
can_decide verdicts.Approve mail = nat_lt (length mail.stages) 4294967295
can_decide verdicts.Reject mail = true

-- the approval of this name, if such a decision can be made on it
abbrev pub asking_for : Option LiveMail → ApprovalName → Verdict → Option Asking
asking_for None name verdict = None
asking_for (Some mail) name verdict = if can_decide verdict mail then asking_at mail name else None

abbrev pub decision_in : Option LiveMail → ApprovalName → List ℕ → Verdict → ℕ → Option Decision
decision_in mail name by verdict moment =
    option_map (λ (asking : Asking). decide_answer asking.approval by moment) (asking_for mail name verdict)

abbrev pub is_taken : Option Decision → Bool
is_taken (Some decisions.Taken) = true
is_taken decision = false

-- what is kept of a submission, beside its value: its moment is one, its organisation is there as long as it is needed, it
-- has a release more than gates that were opened, and no more than u32 numbers
pub record IsLive (mail : LiveMail) : Type 0 where
  pub moment : mail.accepted_at ≤ last_moment
  pub needed : is_some mail.org ≡ list_any stage_open mail.stages
  pub releases : length mail.stages ≡ suc (length mail.opened)
  pub few : length mail.stages ≤ 4294967295
