-- What answering does.
use Rattle.std.specs.Prelude.{◌≡◌, ℕ, ◌⊎◌, Bool, false, List, Option, Result, Ok, IfOk}
use Rattle.std.specs.Io.KnownBytes.{Appends}
use Rattle.port_io.specs.Told.{AppendsPrefix, Gave}
use Rattle.mail_names.specs.declared.bytes.NoMemory.{NoMemory}
use Rattle.mail_names.specs.declared.name.ApprovalName.{ApprovalName}
use Rattle.moderation.specs.declared.approval.Verdict.{Verdict}
use Rattle.moderation.specs.declared.approval.Decision.{Decision}
use Rattle.hub_calls.specs.declared.fault.HubFault.{HubFault}
use Rattle.hub_calls.specs.declared.office.OfficeStep.{OfficeStep}
use Rattle.http_head.specs.declared.deed.Deed.{Deed}
use Rattle.http_answers.specs.declared.response.Response.{Response}
use Rattle.http_answers.specs.declared.refusal.Refusal.TheVariants as refusals
use Rattle.http_answers.specs.Responses.{response_text, refusal_response}
use Rattle.admin_http.specs.declared.exchange_end.ExchangeEnd.{ExchangeEnd}
use Rattle.admin_http.specs.declared.exchange_end.ExchangeEnd.TheVariants as ends
use Rattle.admin_http.specs.Exchange.{Answers, Steps, Decides, is_stop}

-- a response with a flag
pub record Reply : Type 0 where
  pub response : Response
  pub stop : Bool

-- the response that says that memory is wanted
abbrev pub memory : Reply
memory = record { response = refusal_response refusals.Memory; stop = false }

-- This reply is due: the one that was made, or the one that says that memory is wanted.
abbrev pub IsDue : Result Response NoMemory → Bool → Reply → Type 0
IsDue made stop reply = ((made ≡ Ok reply.response) × (reply.stop ≡ stop)) ⊎ (reply ≡ memory)

-- A reply was written, or a front of it.
abbrev pub Wrote : Option (List ℕ) → Option (List ℕ) → Reply → ExchangeEnd → Type 0
Wrote taken now reply (ends.Answered status stop) =
    (status ≡ reply.response.status) × (stop ≡ reply.stop) × Appends taken now (response_text reply.response)
Wrote taken now reply ends.SinkFault = AppendsPrefix taken now (response_text reply.response)
Wrote taken now reply ends.Cut = ⊥
Wrote taken now reply ends.SourceFault = ⊥
Wrote taken now reply ends.NoMemory = ⊥

-- A deed was done, and its response is the one that was made, if memory was found for it.
pub record Done {O : Type 0} (gives : O → OfficeStep → O → Type 0) (a b : O) (old new : ℕ → Option ℕ) (deed : Deed) (body : List ℕ) (response : Result Response NoMemory) (stop : Bool) : Type 0 where
  pub made : List OfficeStep
  pub moments : List ℕ
  pub due : Response
  pub answers : Answers deed body made moments due
  pub steps : Steps gives a made b
  pub clock : Gave old new moments
  pub is : IfOk response (λ r. r ≡ due)
  pub stops : stop ≡ is_stop deed

-- A decision was made, and its response is the one that was made, if memory was found for it.
pub record Decided {O : Type 0} (gives : O → OfficeStep → O → Type 0) (a b : O) (approval : ApprovalName) (verdict : Verdict) (by : List ℕ) (moment : ℕ) (response : Result Response NoMemory) : Type 0 where
  pub answer : Result Decision HubFault
  pub made : List OfficeStep
  pub due : Response
  pub decides : Decides approval verdict by moment answer made due
  pub steps : Steps gives a made b
  pub is : IfOk response (λ r. r ≡ due)
