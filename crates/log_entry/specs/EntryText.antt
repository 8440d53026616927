-- The bytes of an entry in the log. Numbers are little-endian.
use Rattle.std.specs.Prelude.{ℕ, List, [], ◌∷◌, ◌++◌, length, flat_map, Option, Some, None}
use Rattle.std.specs.Int.{to_le_bytes, w32, w64}
use Rattle.mail_names.specs.declared.gate.Gate.{Gate}
use Rattle.mail_names.specs.declared.route.How.{How}
use Rattle.mail_names.specs.declared.route.How.TheVariants as hows
use Rattle.mail_names.specs.declared.route.Step.{Step}
use Rattle.mail_names.specs.declared.gate.Gate.TheVariants as gates
use Rattle.mail_names.specs.declared.name.ApprovalName.{ApprovalName}
use Rattle.mail_names.specs.declared.name.ItemName.{ItemName}
use Rattle.mail_names.specs.declared.name.Mark.{Mark}
use Rattle.mail_names.specs.declared.name.Mark.TheVariants as marks
use Rattle.moderation.specs.declared.approval.Verdict.{Verdict}
use Rattle.moderation.specs.declared.approval.Verdict.TheVariants as verdicts
use Rattle.journal_report.specs.declared.why.Why.{Why}
use Rattle.journal_report.specs.declared.why.Why.TheVariants as whys
use Rattle.moderation.specs.declared.tell.Tell.{Tell}
use Rattle.moderation.specs.declared.tell.Tell.TheVariants as tells
use Rattle.mail_submission.specs.Submission.{Submitted}
use Rattle.mail_submission.specs.declared.submission.Origin.{Origin}
use Rattle.mail_submission.specs.declared.submission.Origin.TheVariants as origins
use Rattle.mail_plan.specs.declared.release.Item.{Item}
use Rattle.mail_plan.specs.declared.release.ItemKind.{ItemKind}
use Rattle.mail_plan.specs.declared.release.ItemKind.TheVariants as kinds
use Rattle.mail_plan.specs.declared.release.Hold.{Hold}
use Rattle.mail_plan.specs.declared.release.End.{End}
use Rattle.mail_plan.specs.declared.release.End.TheVariants as ends
use Rattle.mail_plan.specs.declared.release.Release.{Release}
use Rattle.log_entry.specs.declared.entry.Entry.{Entry}
use Rattle.log_entry.specs.declared.entry.Entry.TheVariants as entries

unfoldable pub le64 : ℕ → List ℕ
le64 n = to_le_bytes w64 n

unfoldable pub le32 : ℕ → List ℕ
le32 n = to_le_bytes w32 n

-- bytes: their count as u64, and they
abbrev pub form_bytes : List ℕ → List ℕ
form_bytes bytes = le64 (length bytes) ++ bytes

-- an option: 0, or 1 and the value
abbrev pub form_key_option : Option (List ℕ) → List ℕ
form_key_option None = 0 ∷ []
form_key_option (Some key) = 1 ∷ form_bytes key

-- a list: its count as u32, and its elements
abbrev pub form_all : {T : Type 0} → (T → List ℕ) → List T → List ℕ
form_all form values = le32 (length values) ++ flat_map form values

abbrev pub form_mark : Mark → List ℕ
form_mark marks.Plain = 0 ∷ []
form_mark marks.Gate = 1 ∷ []
form_mark marks.Delay = 2 ∷ []
form_mark marks.Failure = 3 ∷ []

-- an item's name: u64 submission, u32 release, u32 place, mark
abbrev pub form_name : ItemName → List ℕ
form_name name = le64 name.submission ++ (le32 name.release ++ (le32 name.place ++ form_mark name.mark))

-- an approval's name: u64 submission, u32 release, u32 gate
abbrev pub form_approval : ApprovalName → List ℕ
form_approval name = le64 name.submission ++ (le32 name.release ++ le32 name.gate)

-- a gate: 0 and its key, or 1 and u32 place
abbrev pub form_gate : Gate → List ℕ
form_gate (gates.Object key) = 0 ∷ form_bytes key
form_gate (gates.Rule place) = 1 ∷ le32 place

abbrev pub form_kind : ItemKind → List ℕ
form_kind kinds.Version = 0 ∷ []
form_kind kinds.Report = 1 ∷ []
form_kind kinds.Request = 2 ∷ []
form_kind kinds.Notice = 3 ∷ []

abbrev pub form_how : How → List ℕ
form_how hows.Expanded = 0 ∷ []
form_how hows.Forwarded = 1 ∷ []

-- a step: its key, and 0 for a group or 1 for a mailbox that forwards
abbrev pub form_step : Step → List ℕ
form_step step = form_bytes step.key ++ form_how step.how

-- why: 0, 1 and the groups, 2 or 3 and u32 rule, or 4 and the steps
abbrev pub form_why : Why → List ℕ
form_why whys.Direct = 0 ∷ []
form_why (whys.Via groups) = 1 ∷ form_all form_bytes groups
form_why (whys.Copied rule) = 2 ∷ le32 rule
form_why (whys.Redirected rule) = 3 ∷ le32 rule
form_why (whys.Through steps) = 4 ∷ form_all form_step steps

-- an item: its name, its folder, its kind, its why, u32 text
abbrev pub form_item : Item → List ℕ
form_item item =
    form_name item.name ++ (form_bytes item.folder ++ (form_kind item.kind ++ (form_why item.why ++ le32 item.text)))

abbrev pub form_tell : Tell → List ℕ
form_tell tells.Always = 0 ∷ []
form_tell tells.Internal = 1 ∷ []
form_tell tells.Never = 2 ∷ []

-- a hold: its gate, its label, its moderators, whom it tells
abbrev pub form_hold : Hold → List ℕ
form_hold hold = form_gate hold.gate ++ (form_bytes hold.label ++ (form_all form_bytes hold.moderators ++ form_tell hold.tell))

-- a rule, and the keys that it rejected
abbrev pub form_rejected : ℕ × List (List ℕ) → List ℕ
form_rejected rejected = le32 rejected.0 ++ form_all form_bytes rejected.1

-- an end: 0, u32 rule and the keys, 1 and the keys, or 2
abbrev pub form_end : End → List ℕ
form_end (ends.Rejected rule keys) = 0 ∷ form_rejected (rule, keys)
form_end (ends.Unknown keys) = 1 ∷ form_all form_bytes keys
form_end ends.TooMany = 2 ∷ []

-- a release: its texts, its items, its holds, its ends
abbrev pub form_release : Release → List ℕ
form_release release =
    form_all form_bytes release.texts
    ++ (form_all form_item release.items ++ (form_all form_hold release.holds ++ form_all form_end release.ends))

-- an origin: 0 for SMTP, or 1 and the mark
abbrev pub form_origin : Origin → List ℕ
form_origin origins.Smtp = 0 ∷ []
form_origin (origins.Pickup mark) = 1 ∷ form_bytes mark

-- a submission: its origin, its reverse path, its recipients, its bytes
abbrev pub form_submission : Submitted → List ℕ
form_submission s =
    form_origin s.origin ++ (form_key_option s.reverse ++ (form_all form_bytes s.recipients ++ form_bytes s.bytes))

-- an organisation: the text of its directory, and that of its rules
abbrev pub form_organised : List ℕ × List ℕ → List ℕ
form_organised texts = form_bytes texts.0 ++ form_bytes texts.1

-- what was accepted: its moment, and the submission
abbrev pub form_accepted : ℕ × Submitted → List ℕ
form_accepted accepted = le64 accepted.0 ++ form_submission accepted.1

-- what was categorised: a submission's number, the number of its release, and the release
abbrev pub form_categorised : ℕ × ℕ × Release → List ℕ
form_categorised made = le64 made.0 ++ (le32 made.1 ++ form_release made.2)

abbrev pub form_verdict : Verdict → List ℕ
form_verdict verdicts.Approve = 0 ∷ []
form_verdict verdicts.Reject = 1 ∷ []

-- a decision: its approval's name, the key of who made it, its verdict, u64 moment
abbrev pub form_decided : ApprovalName × List ℕ × Verdict × ℕ → List ℕ
form_decided decided = form_approval decided.0 ++ (form_bytes decided.1 ++ (form_verdict decided.2 ++ le64 decided.3))

-- an entry: its kind, and its fields in order
abbrev pub entry_text : Entry → List ℕ
entry_text (entries.Organised directory rules) = 1 ∷ form_organised (directory, rules)
entry_text (entries.Accepted moment submission) = 2 ∷ form_accepted (moment, submission)
entry_text (entries.Categorised number release plan) = 3 ∷ form_categorised (number, release, plan)
entry_text (entries.Decided approval by verdict moment) = 4 ∷ form_decided (approval, by, verdict, moment)
entry_text (entries.Moment moment) = 5 ∷ le64 moment
entry_text (entries.Delivered name) = 6 ∷ form_name name
entry_text (entries.Delayed name) = 7 ∷ form_name name
entry_text (entries.Ended name) = 8 ∷ form_name name
entry_text (entries.Forgot number) = 9 ∷ le64 number
