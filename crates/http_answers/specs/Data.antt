-- What an office shows, as JSON. Members stand in byte order of their keys.
use Rattle.std.specs.Prelude.{ℕ, true, List, [], map, drop, codes, Option, Some, None}
use Rattle.mail_names.specs.Names.{name_text, approval_text}
use Rattle.mail_names.specs.declared.name.ItemName.{ItemName}
use Rattle.serde_json.specs.Data.{Data, array, boolean, member, no_members, number, object, string, unsigned}
use Rattle.serde_json.specs.View.{items_of}
use Rattle.moderation.specs.declared.approval.Verdict.{Verdict}
use Rattle.moderation.specs.declared.approval.Verdict.TheVariants as verdicts
use Rattle.journal_report.specs.Why.{why_text}
use Rattle.mail_plan.specs.declared.release.ItemKind.{ItemKind}
use Rattle.mail_plan.specs.declared.release.ItemKind.TheVariants as kinds
use Rattle.hub_calls.specs.declared.views.TaskName.{TaskName}
use Rattle.hub_calls.specs.declared.views.WaitingRow.{WaitingRow}
use Rattle.hub_calls.specs.declared.views.QueueView.{QueueView}
use Rattle.hub_calls.specs.declared.views.ApprovalRow.{ApprovalRow}
use Rattle.hub_calls.specs.declared.views.EndRow.{EndRow}
use Rattle.hub_calls.specs.declared.views.TurnEnd.{TurnEnd}

-- a list of values
abbrev pub list_data : List Data → Data
list_data values = array (items_of values)

abbrev pub task_data : TaskName → Data
task_data task =
    object (member (codes "release") (number (unsigned task.release))
    (member (codes "submission") (number (unsigned task.submission)) no_members))

abbrev pub kind_word : ItemKind → List ℕ
kind_word kinds.Version = codes "version"
kind_word kinds.Report = codes "report"
kind_word kinds.Request = codes "request"
kind_word kinds.Notice = codes "notice"

abbrev pub waiting_data : WaitingRow → Data
waiting_data row =
    object (member (codes "folder") (string row.folder)
    (member (codes "kind") (string (kind_word row.kind))
    (member (codes "name") (string (name_text row.name))
    (member (codes "why") (string (drop 1 (why_text row.why))) no_members))))

abbrev pub queue_data : QueueView → Data
queue_data view =
    object (member (codes "bytes") (number (unsigned view.bytes))
    (member (codes "live") (number (unsigned view.live))
    (member (codes "moment") (number (unsigned view.moment))
    (member (codes "tasks") (list_data (map task_data view.tasks))
    (member (codes "waiting") (list_data (map waiting_data view.waiting)) no_members)))))

-- a key, or <> for the null sender
abbrev pub sender_text : Option (List ℕ) → List ℕ
sender_text None = codes "<>"
sender_text (Some key) = key

abbrev pub approval_data : ApprovalRow → Data
approval_data row =
    object (member (codes "deadline") (number (unsigned row.deadline))
    (member (codes "gate") (string row.label)
    (member (codes "moderators") (list_data (map string row.moderators))
    (member (codes "name") (string (approval_text row.name))
    (member (codes "sender") (string (sender_text row.sender)) no_members)))))

abbrev pub approvals_data : List ApprovalRow → Data
approvals_data rows = object (member (codes "approvals") (list_data (map approval_data rows)) no_members)

abbrev pub end_data : EndRow → Data
end_data row =
    object (member (codes "cause") (string row.cause) (member (codes "name") (string row.name) no_members))

abbrev pub ended_data : List EndRow → Data
ended_data rows = object (member (codes "ended") (list_data (map end_data rows)) no_members)

abbrev pub item_data : ItemName → Data
item_data name = string (name_text name)

abbrev pub items_data : List ItemName → Data
items_data names = object (member (codes "items") (list_data (map item_data names)) no_members)

abbrev pub epoch_data : ℕ → Data
epoch_data epoch = object (member (codes "epoch") (number (unsigned epoch)) no_members)

abbrev pub turn_data : TurnEnd → Data
turn_data end =
    object (member (codes "delivered") (number (unsigned end.delivered))
    (member (codes "ended") (number (unsigned end.ended))
    (member (codes "moment") (number (unsigned end.moment))
    (member (codes "waiting") (number (unsigned end.waiting)) no_members))))

abbrev pub verdict_word : Verdict → List ℕ
verdict_word verdicts.Approve = codes "approve"
verdict_word verdicts.Reject = codes "reject"

-- no key is the empty text
abbrev pub key_text : Option (List ℕ) → List ℕ
key_text None = []
key_text (Some key) = key

abbrev pub already_data : Option (List ℕ) → Verdict → Data
already_data by verdict =
    object (member (codes "by") (string (key_text by))
    (member (codes "fault") (string (codes "already decided"))
    (member (codes "verdict") (string (verdict_word verdict)) no_members)))

abbrev pub expired_data : ℕ → Data
expired_data deadline =
    object (member (codes "deadline") (number (unsigned deadline))
    (member (codes "fault") (string (codes "expired")) no_members))

abbrev pub fault_data : List ℕ → Data
fault_data words = object (member (codes "fault") (string words) no_members)

abbrev pub taken_data : Data
taken_data = object (member (codes "decision") (string (codes "taken")) no_members)

abbrev pub stop_data : Data
stop_data = object (member (codes "stop") (boolean true) no_members)
