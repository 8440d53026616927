-- A deed that is known, and a decision that is.
use Rattle.std.proofs.Common.{◌≡◌, ℕ, Bool, true, List, Option, Result, Ok, IfErr, sym, subst}
use Rattle.mail_names.specs.declared.bytes.NoMemory.{NoMemory}
use Rattle.mail_names.specs.declared.name.ApprovalName.{ApprovalName}
use Rattle.moderation.specs.declared.approval.Verdict.{Verdict}
use Rattle.moderation.specs.declared.approval.Decision.{Decision}
use Rattle.hub_calls.specs.declared.fault.HubFault.{HubFault}
use Rattle.hub_calls.specs.declared.office.OfficeCall.TheVariants as calls
use Rattle.hub_calls.specs.declared.office.OfficeStep.{OfficeStep}
use Rattle.hub_calls.specs.declared.office.OfficeStep.TheVariants as steps
use Rattle.hub_calls.specs.Refusals.{can_refuse, HasCauses}
use Rattle.http_head.specs.declared.deed.Deed.{Deed}
use Rattle.http_answers.specs.declared.response.Response.{Response}
use Rattle.admin_http.specs.Exchange.{Tells}
use Rattle.admin_http.specs.Replies.{Done}

pub done-at : {O : Type 0} (gives : O → OfficeStep → O → Type 0) (a b : O) (old new : ℕ → Option ℕ) (deed known : Deed) (body : List ℕ) (response : Result Response NoMemory) (stop : Bool)
    → deed ≡ known → Done gives a b old new known body response stop → Done gives a b old new deed body response stop
done-at gives a b old new deed known body response stop e h = subst (λ (d : Deed). Done gives a b old new d body response stop) (sym e) h

pub decided-step : {O : Type 0} (gives : O → OfficeStep → O → Type 0) (disks shelves : O → ℕ) (a b : O) (approval : ApprovalName) (by : List ℕ) (verdict : Verdict) (moment : ℕ) (d e : Decision)
    → d ≡ e → gives a (steps.Decide approval by verdict moment (Ok d)) b
    → HasCauses {A = Decision} (disks a) (disks b) (shelves a) (shelves b) (Ok d) → IfErr {T = Decision} (Ok d) (λ (fault : HubFault). can_refuse calls.Decide fault ≡ true)
    → Tells gives disks shelves a (steps.Decide approval by verdict moment (Ok e)) b
decided-step gives disks shelves a b approval by verdict moment d e same given causes refuses =
    subst (λ (x : Decision). Tells gives disks shelves a (steps.Decide approval by verdict moment (Ok x)) b) same (given, record { causes = causes; refuses = refuses })
