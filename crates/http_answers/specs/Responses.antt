-- The responses of HTTP (RFC 9112).
use Rattle.std.specs.Prelude.{ℕ, List, [], ◌∷◌, ◌++◌, length, codes, decimal, unwrap_or, Option, None, Result, Ok, Err}
use Rattle.http.specs.StatusCode.{reason_phrase}
use Rattle.serde_json.specs.Data.{Data}
use Rattle.serde_json.specs.Written.{compact_text}
use Rattle.mail_names.specs.declared.name.ItemName.{ItemName}
use Rattle.moderation.specs.declared.approval.Verdict.{Verdict}
use Rattle.moderation.specs.declared.approval.Decision.{Decision}
use Rattle.moderation.specs.declared.approval.Decision.TheVariants as decisions
use Rattle.mail_plan.specs.declared.planner.OrgFault.{OrgFault}
use Rattle.mail_plan.specs.declared.planner.OrgFault.TheVariants as orgs
use Rattle.hub_calls.specs.declared.fault.HubFault.{HubFault}
use Rattle.hub_calls.specs.declared.fault.HubFault.TheVariants as faults
use Rattle.hub_calls.specs.declared.views.QueueView.{QueueView}
use Rattle.hub_calls.specs.declared.views.ApprovalRow.{ApprovalRow}
use Rattle.hub_calls.specs.declared.views.EndRow.{EndRow}
use Rattle.hub_calls.specs.declared.views.TurnEnd.{TurnEnd}
use Rattle.http_answers.specs.declared.response.Media.{Media}
use Rattle.http_answers.specs.declared.response.Media.TheVariants as medias
use Rattle.http_answers.specs.declared.response.Response.{Response}
use Rattle.http_answers.specs.declared.refusal.Refusal.{Refusal}
use Rattle.http_answers.specs.declared.refusal.Refusal.TheVariants as refusals
use Rattle.http_answers.specs.Data.{queue_data, approvals_data, ended_data, items_data, epoch_data, turn_data, already_data, expired_data, fault_data, taken_data, stop_data}

abbrev pub media_text : Media → List ℕ
media_text medias.Json = codes "application/json"
media_text medias.Message = codes "message/rfc822"

abbrev pub crlf : List ℕ
crlf = 13 ∷ 10 ∷ []

-- status-line = HTTP-version SP status-code SP reason-phrase (RFC 9112 section 4)
unfoldable pub status_line : ℕ → List ℕ
status_line status = codes "HTTP/1.1 " ++ (decimal status ++ (codes " " ++ (unwrap_or (reason_phrase status) [] ++ crlf)))

-- three fields (RFC 9110 sections 8.3, 8.6 and 7.6.1) and an empty line
unfoldable pub fields_text : Media → ℕ → List ℕ
fields_text media size =
    codes "Content-Type: " ++ (media_text media ++ (crlf
    ++ (codes "Content-Length: " ++ (decimal size ++ (crlf
    ++ (codes "Connection: close" ++ (crlf ++ crlf)))))))

-- Status line, fields, an empty line, and the body (RFC 9112 section 2.1).
abbrev pub response_text : Response → List ℕ
response_text response = (status_line response.status ++ fields_text response.media (length response.body)) ++ response.body

abbrev pub json : ℕ → Data → Response
json status value = record { status = status; media = medias.Json; body = compact_text value }

abbrev pub fault : ℕ → List ℕ → Response
fault status words = json status (fault_data words)

-- the status and the words of a refusal
abbrev pub refusal_status : Refusal → ℕ
refusal_status refusals.BadRequest = 400
refusal_status refusals.NotModerator = 403
refusal_status refusals.NotFound = 404
refusal_status refusals.WrongMethod = 405
refusal_status refusals.NoLength = 411
refusal_status refusals.TooLarge = 413
refusal_status refusals.EpochsFull = 422
refusal_status refusals.LogFull = 500
refusal_status refusals.LogDamaged = 500
refusal_status refusals.DeskFull = 500
refusal_status refusals.Disk = 503
refusal_status refusals.Shelf = 503
refusal_status refusals.Memory = 507

abbrev pub refusal_words : Refusal → List ℕ
refusal_words refusals.BadRequest = codes "bad request"
refusal_words refusals.NotModerator = codes "not a moderator"
refusal_words refusals.NotFound = codes "not found"
refusal_words refusals.WrongMethod = codes "method"
refusal_words refusals.NoLength = codes "length"
refusal_words refusals.TooLarge = codes "too large"
refusal_words refusals.EpochsFull = codes "too many live organisations"
refusal_words refusals.LogFull = codes "log full"
refusal_words refusals.LogDamaged = codes "log damaged"
refusal_words refusals.DeskFull = codes "desk full"
refusal_words refusals.Disk = codes "disk"
refusal_words refusals.Shelf = codes "shelf"
refusal_words refusals.Memory = codes "memory"

abbrev pub refusal_response : Refusal → Response
refusal_response refusal = fault (refusal_status refusal) (refusal_words refusal)

-- Why texts are no organisation's.
abbrev pub org_response : OrgFault → Response
org_response (orgs.Directory number row) = fault 422 (codes "directory fault " ++ (decimal number ++ (codes " at " ++ decimal row)))
org_response (orgs.Rules number rule) = fault 422 (codes "rules fault " ++ (decimal number ++ (codes " at " ++ decimal rule)))
org_response orgs.NoMemory = refusal_response refusals.Memory

-- The response to a call that was refused. No call of an office gives QueueFull.
abbrev pub fault_response : HubFault → Response
fault_response faults.DiskFault = refusal_response refusals.Disk
fault_response faults.NoMemory = refusal_response refusals.Memory
fault_response (faults.QueueFull live bytes) = refusal_response refusals.Memory
fault_response (faults.Org e) = org_response e
fault_response faults.NoSuchApproval = refusal_response refusals.NotFound
fault_response faults.NoSuchItem = refusal_response refusals.NotFound
fault_response (faults.LogFull length) = refusal_response refusals.LogFull
fault_response (faults.NotALog at) = refusal_response refusals.LogDamaged
fault_response (faults.EpochsFull live) = refusal_response refusals.EpochsFull
fault_response faults.ShelfFault = refusal_response refusals.Shelf
fault_response (faults.DeskFull calls) = refusal_response refusals.DeskFull

-- The response to what a call answers, or else that to its refusal.
abbrev pub answered : {A : Type 0} → (A → Response) → Result A HubFault → Response
answered respond (Ok answer) = respond answer
answered respond (Err fault) = fault_response fault

abbrev pub queue_response : QueueView → Response
queue_response view = json 200 (queue_data view)

abbrev pub approvals_response : List ApprovalRow → Response
approvals_response rows = json 200 (approvals_data rows)

abbrev pub ended_response : List EndRow → Response
ended_response rows = json 200 (ended_data rows)

abbrev pub items_response : List ItemName → Response
items_response names = json 200 (items_data names)

abbrev pub item_response : List ℕ → Response
item_response bytes = record { status = 200; media = medias.Message; body = bytes }

abbrev pub epoch_response : ℕ → Response
epoch_response epoch = json 200 (epoch_data epoch)

abbrev pub turn_response : TurnEnd → Response
turn_response end = json 200 (turn_data end)

abbrev pub taken_response : Response
taken_response = json 200 taken_data

abbrev pub expired_response : ℕ → Response
expired_response deadline = json 410 (expired_data deadline)

abbrev pub already_response : Verdict → Option (List ℕ) → Response
already_response verdict by = json 409 (already_data by verdict)

abbrev pub stop_response : Response
stop_response = json 200 stop_data

-- The response to a decision. Where an approval was decided before, the key that decided it is asked for first, and else
-- it has none.
abbrev pub decide_response : Decision → Response
decide_response decisions.Taken = taken_response
decide_response decisions.NotModerator = refusal_response refusals.NotModerator
decide_response (decisions.Expired deadline) = expired_response deadline
decide_response (decisions.Already by verdict) = already_response verdict None
