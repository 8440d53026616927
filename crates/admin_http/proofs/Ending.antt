-- How an exchange ends.
use Rattle.std.proofs.Common.{◌≡◌, ℕ, Bool, false, List, [], Option, Result, Ok, IfOk, refl, sym, ap, subst, inl, inr}
use Rattle.mail_names.specs.declared.bytes.NoMemory.{NoMemory}
use Rattle.hub_calls.specs.declared.office.OfficeStep.{OfficeStep}
use Rattle.http_answers.specs.declared.response.Response.{Response}
use Rattle.http_answers.specs.declared.refusal.Refusal.{Refusal}
use Rattle.http_answers.specs.Responses.{refusal_response}
use Rattle.admin_http.specs.declared.exchange_end.ExchangeEnd.{ExchangeEnd}
use Rattle.admin_http.specs.declared.exchange_end.ExchangeEnd.TheVariants as ends
use Rattle.admin_http.specs.Requests.{Refuses, HasCome}
use Rattle.admin_http.specs.Exchange.{Exchange, Due, WentOn}
use Rattle.admin_http.specs.Replies.{Reply, IsDue, Wrote, memory}

ok-of : (made : Result Response NoMemory) (base response : Response) → IfOk made (λ r. r ≡ base) → made ≡ Ok response → response ≡ base
ok-of made base response is e = subst (λ (m : Result Response NoMemory). IfOk m (λ r. r ≡ base)) e is

-- The reply that is due is what the exchange owes.
pub due-of : (text : List ℕ) (made : List OfficeStep) (moments : List ℕ) (base : Response) (stop : Bool) (built : Result Response NoMemory) (reply : Reply)
    → Exchange text made moments base stop → IfOk built (λ r. r ≡ base) → IsDue built stop reply → Due text made moments reply.response reply.stop
due-of text made moments base stop built reply did is due = elim due [
  | inl own ↦ inl (subst (λ (s : Bool). Exchange text made moments reply.response s) (sym own.1)
      (subst (λ (r : Response). Exchange text made moments r stop) (sym (ok-of built base reply.response is own.0)) did))
  | inr other ↦ inr (base, stop, did, ap (λ (r : Reply). r.response) other, ap (λ (r : Reply). r.stop) other)
]

-- what was written of it says how the exchange went
pub went-on : (text : List ℕ) (made : List OfficeStep) (moments : List ℕ) (taken now left : Option (List ℕ)) (reply : Reply) (end : ExchangeEnd)
    → Due text made moments reply.response reply.stop → Wrote taken now reply end → WentOn text made moments taken now left end
went-on text made moments taken now left reply (ends.Answered status stop) due wrote =
    (reply.response, subst (λ (s : Bool). Due text made moments reply.response s) (sym wrote.1) due, wrote.0, wrote.2)
went-on text made moments taken now left reply ends.SinkFault due wrote = (reply.response, reply.stop, due, wrote)
went-on text made moments taken now left reply ends.Cut due wrote = absurd wrote
went-on text made moments taken now left reply ends.SourceFault due wrote = absurd wrote
went-on text made moments taken now left reply ends.NoMemory due wrote = absurd wrote

pub did-refuse : (text : List ℕ) (refusal : Refusal) → Refuses text refusal → Exchange text [] [] (refusal_response refusal) false
did-refuse text refusal refuses = inr (inl (record { refusal = refusal; refuses = refuses; none = (refl, refl); is = refl; stops = refl }))

pub did-starve : (text : List ℕ) → HasCome text → Due text [] [] memory.response memory.stop
did-starve text come = inl (inr (inr (record { come = come; none = (refl, refl); is = refl; stops = refl })))
