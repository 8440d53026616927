-- One exchange.
use Rattle.std.specs.Prelude.{◌≡◌, ℕ, ◌⊎◌, Bool, true, false, List, [], ◌∷◌, Option, Some, None, Result, Ok, IfErr}
use Rattle.std.specs.Io.KnownBytes.{Appends, Consumes, IsAtEnd}
use Rattle.port_io.specs.Told.{AppendsPrefix, Gave}
use Rattle.mail_names.specs.declared.name.ItemName.{ItemName}
use Rattle.mail_names.specs.declared.name.ApprovalName.{ApprovalName}
use Rattle.moderation.specs.declared.approval.Verdict.{Verdict}
use Rattle.moderation.specs.declared.approval.Decision.{Decision}
use Rattle.moderation.specs.declared.approval.Decision.TheVariants as decisions
use Rattle.hub_calls.specs.declared.fault.HubFault.{HubFault}
use Rattle.hub_calls.specs.declared.office.OfficeCall.{OfficeCall}
use Rattle.hub_calls.specs.declared.office.OfficeCall.TheVariants as calls
use Rattle.hub_calls.specs.Refusals.{can_refuse, HasCauses}
use Rattle.hub_calls.specs.declared.office.OfficeStep.{OfficeStep}
use Rattle.hub_calls.specs.declared.office.OfficeStep.TheVariants as steps
use Rattle.hub_calls.specs.declared.views.QueueView.{QueueView}
use Rattle.hub_calls.specs.declared.views.ApprovalRow.{ApprovalRow}
use Rattle.hub_calls.specs.declared.views.EndRow.{EndRow}
use Rattle.hub_calls.specs.declared.views.TurnEnd.{TurnEnd}
use Rattle.http_head.specs.declared.deed.Deed.{Deed}
use Rattle.http_head.specs.declared.deed.Deed.TheVariants as deeds
use Rattle.http_answers.specs.declared.response.Response.{Response}
use Rattle.http_answers.specs.declared.refusal.Refusal.{Refusal}
use Rattle.http_answers.specs.declared.refusal.Refusal.TheVariants as refusals
use Rattle.http_answers.specs.Responses.{response_text, refusal_response, answered, queue_response, approvals_response, ended_response, items_response, item_response, epoch_response, turn_response, decide_response, already_response, stop_response}
use Rattle.admin_http.specs.declared.exchange_end.ExchangeEnd.{ExchangeEnd}
use Rattle.admin_http.specs.declared.exchange_end.ExchangeEnd.TheVariants as ends
use Rattle.admin_http.specs.Requests.{Refuses, Asks, IsUnfinished, IsNotWhole, HasCome}

-- The steps lead from one office to the other.
abbrev pub Steps : {O : Type 0} → (O → OfficeStep → O → Type 0) → O → List OfficeStep → O → Type 0
Steps gives a [] b = a ≡ b
Steps {O} gives a (s ∷ ss) b = (m : O) × gives a s m × Steps gives m ss b

-- The calls of a decision with their answers, and the response. Where the approval was decided before, the key that
-- decided it is asked for, and a refusal of that call is answered instead.
abbrev pub Decides : ApprovalName → Verdict → List ℕ → ℕ → Result Decision HubFault → List OfficeStep → Response → Type 0
Decides approval verdict by moment (Ok (decisions.Already place kept)) made response =
    (moderator : Result (Option (List ℕ)) HubFault)
    × (made ≡ steps.Decide approval by verdict moment (Ok (decisions.Already place kept)) ∷ steps.Moderator approval place moderator ∷ [])
    × (response ≡ answered (already_response kept) moderator)
Decides approval verdict by moment answer made response =
    (made ≡ steps.Decide approval by verdict moment answer ∷ []) × (response ≡ answered decide_response answer)

-- The calls of a deed with their answers, the moments that they have, and the response.
abbrev pub Answers : Deed → List ℕ → List OfficeStep → List ℕ → Response → Type 0
Answers deeds.Queue body made moments response =
    (answer : Result QueueView HubFault) × (made ≡ steps.Queue answer ∷ []) × (moments ≡ []) × (response ≡ answered queue_response answer)
Answers deeds.Approvals body made moments response =
    (answer : Result (List ApprovalRow) HubFault) × (made ≡ steps.Approvals answer ∷ []) × (moments ≡ []) × (response ≡ answered approvals_response answer)
Answers deeds.Ended body made moments response =
    (answer : Result (List EndRow) HubFault) × (made ≡ steps.Ended answer ∷ []) × (moments ≡ []) × (response ≡ answered ended_response answer)
Answers (deeds.Folder folder) body made moments response =
    (answer : Result (List ItemName) HubFault) × (made ≡ steps.List folder answer ∷ []) × (moments ≡ []) × (response ≡ answered items_response answer)
Answers (deeds.Item folder name) body made moments response =
    (answer : Result (List ℕ) HubFault) × (made ≡ steps.Fetch folder name answer ∷ []) × (moments ≡ []) × (response ≡ answered item_response answer)
Answers deeds.Directory body made moments response =
    (answer : Result ℕ HubFault) × (made ≡ steps.Organise (Some body) None answer ∷ []) × (moments ≡ []) × (response ≡ answered epoch_response answer)
Answers deeds.Rules body made moments response =
    (answer : Result ℕ HubFault) × (made ≡ steps.Organise None (Some body) answer ∷ []) × (moments ≡ []) × (response ≡ answered epoch_response answer)
Answers (deeds.Decide approval verdict by) body made moments response =
    (moment : ℕ) × (answer : Result Decision HubFault) × (moments ≡ moment ∷ []) × Decides approval verdict by moment answer made response
Answers deeds.Turn body made moments response =
    (moment : ℕ) × (answer : Result TurnEnd HubFault) × (made ≡ steps.Turn moment answer ∷ []) × (moments ≡ moment ∷ []) × (response ≡ answered turn_response answer)
Answers deeds.Stop body made moments response = (made ≡ []) × (moments ≡ []) × (response ≡ stop_response)

abbrev pub is_stop : Deed → Bool
is_stop deeds.Queue = false
is_stop deeds.Approvals = false
is_stop deeds.Ended = false
is_stop (deeds.Folder folder) = false
is_stop (deeds.Item folder name) = false
is_stop deeds.Directory = false
is_stop deeds.Rules = false
is_stop (deeds.Decide approval verdict by) = false
is_stop deeds.Turn = false
is_stop deeds.Stop = true

-- A call refuses for the disk or the shelf only where that count rose in it, no count falls, and it gives no refusal that a
-- call of its kind doesn't.
pub record HasGrounds {A : Type 0} (call : OfficeCall) (disks disks_now shelves shelves_now : ℕ) (answer : Result A HubFault) : Type 0 where
  pub causes : HasCauses disks disks_now shelves shelves_now answer
  pub refuses : IfErr answer (λ fault. can_refuse call fault ≡ true)

-- the grounds of a step's answer, by the counts of the two offices
abbrev pub StepGrounds : {O : Type 0} → (O → ℕ) → (O → ℕ) → O → OfficeStep → O → Type 0
StepGrounds disks shelves a (steps.Organise directory rules answer) b = HasGrounds calls.Organise (disks a) (disks b) (shelves a) (shelves b) answer
StepGrounds disks shelves a (steps.Decide approval by verdict clock answer) b = HasGrounds calls.Decide (disks a) (disks b) (shelves a) (shelves b) answer
StepGrounds disks shelves a (steps.Moderator approval place answer) b = HasGrounds calls.Moderator (disks a) (disks b) (shelves a) (shelves b) answer
StepGrounds disks shelves a (steps.Turn clock answer) b = HasGrounds calls.Turn (disks a) (disks b) (shelves a) (shelves b) answer
StepGrounds disks shelves a (steps.Queue answer) b = HasGrounds calls.Queue (disks a) (disks b) (shelves a) (shelves b) answer
StepGrounds disks shelves a (steps.Approvals answer) b = HasGrounds calls.Approvals (disks a) (disks b) (shelves a) (shelves b) answer
StepGrounds disks shelves a (steps.Ended answer) b = HasGrounds calls.Ended (disks a) (disks b) (shelves a) (shelves b) answer
StepGrounds disks shelves a (steps.List folder answer) b = HasGrounds calls.List (disks a) (disks b) (shelves a) (shelves b) answer
StepGrounds disks shelves a (steps.Fetch folder name answer) b = HasGrounds calls.Fetch (disks a) (disks b) (shelves a) (shelves b) answer

-- a step that an office may make, with the grounds of its answer
abbrev pub Tells : {O : Type 0} → (O → OfficeStep → O → Type 0) → (O → ℕ) → (O → ℕ) → O → OfficeStep → O → Type 0
Tells gives disks shelves a step b = gives a step b × StepGrounds disks shelves a step b

-- The text asks for a deed, these are its calls with their answers and their moments, and this is its response.
pub record DidDeed (text : List ℕ) (made : List OfficeStep) (moments : List ℕ) (response : Response) (stop : Bool) : Type 0 where
  pub deed : Deed
  pub body : List ℕ
  pub asks : Asks text deed body
  pub answers : Answers deed body made moments response
  pub stops : stop ≡ is_stop deed

-- nothing is asked of the office or the clock
abbrev pub Nothing : List OfficeStep → List ℕ → Type 0
Nothing made moments = (made ≡ []) × (moments ≡ [])

-- A check refuses the text, and this is its response.
pub record DidRefuse (text : List ℕ) (made : List OfficeStep) (moments : List ℕ) (response : Response) (stop : Bool) : Type 0 where
  pub refusal : Refusal
  pub refuses : Refuses text refusal
  pub none : Nothing made moments
  pub is : response ≡ refusal_response refusal
  pub stops : stop ≡ false

-- Memory was wanted where the head had passed and its body had come, before anything was asked.
pub record DidStarve (text : List ℕ) (made : List OfficeStep) (moments : List ℕ) (response : Response) (stop : Bool) : Type 0 where
  pub come : HasCome text
  pub none : Nothing made moments
  pub is : response ≡ refusal_response refusals.Memory
  pub stops : stop ≡ false

-- One exchange: from the whole text, the office's calls with their answers, the moments that they have, the response, and
-- whether the server is to stop.
abbrev pub Exchange : List ℕ → List OfficeStep → List ℕ → Response → Bool → Type 0
Exchange text made moments response stop =
    DidDeed text made moments response stop ⊎ (DidRefuse text made moments response stop ⊎ DidStarve text made moments response stop)

-- The response of an exchange is due, or in its place, free, the one that says that memory is wanted.
abbrev pub Due : List ℕ → List OfficeStep → List ℕ → Response → Bool → Type 0
Due text made moments response stop =
    Exchange text made moments response stop
    ⊎ ((other : Response) × (halts : Bool) × Exchange text made moments other halts × (response ≡ refusal_response refusals.Memory) × (stop ≡ false))

-- How an exchange of this text went, by its end. The sink had taken, and has now; left is what the source has left.
abbrev pub WentOn : List ℕ → List OfficeStep → List ℕ → Option (List ℕ) → Option (List ℕ) → Option (List ℕ) → ExchangeEnd → Type 0
WentOn text made moments taken now left (ends.Answered status stop) =
    (response : Response) × Due text made moments response stop × (status ≡ response.status) × Appends taken now (response_text response)
WentOn text made moments taken now left ends.SinkFault =
    (response : Response) × (stop : Bool) × Due text made moments response stop × AppendsPrefix taken now (response_text response)
WentOn text made moments taken now left ends.Cut = IsUnfinished text × IsAtEnd left × Nothing made moments × Appends taken now []
WentOn text made moments taken now left ends.SourceFault = IsUnfinished text × Nothing made moments × Appends taken now []
WentOn text made moments taken now left ends.NoMemory = IsNotWhole text × Nothing made moments × Appends taken now []

-- A whole exchange, by its end: what it took of the source, which steps lead from office a to b, and at which moments.
pub record Exchanged {O : Type 0} (gives : O → OfficeStep → O → Type 0) (a b : O) (old new : ℕ → Option ℕ) (taken now before left : Option (List ℕ)) (end : ExchangeEnd) : Type 0 where
  pub text : List ℕ
  pub made : List OfficeStep
  pub moments : List ℕ
  pub took : Consumes before left text
  pub steps : Steps gives a made b
  pub clock : Gave old new moments
  pub went_on : WentOn text made moments taken now left end
