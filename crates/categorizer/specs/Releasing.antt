-- What is new in a plan, as items, texts, holds and ends.
use Rattle.std.specs.Prelude.{ℕ, ◌+◌, ◌==◌, Bool, if◌then◌else◌, List, [], ◌∷◌, ◌++◌, map, filter, length, slice_get, codes, decimal, Option, Some, None}
use Rattle.mail_names.specs.declared.gate.Gate.{Gate}
use Rattle.mail_names.specs.declared.gate.Gate.TheVariants as gates
use Rattle.mail_names.specs.declared.name.ItemName.{ItemName}
use Rattle.mail_names.specs.declared.name.Mark.TheVariants as marks
use Rattle.mail_message.specs.Message.{Mail}
use Rattle.journal_report.specs.Report.{report_text}
use Rattle.journal_report.specs.declared.parts.Line.{Line}
use Rattle.journal_report.specs.declared.parts.ReportHead.{ReportHead}
use Rattle.journal_report.specs.declared.why.Why.TheVariants as whys
use Rattle.journal_rules.specs.Taking.{is_taken, takings}
use Rattle.journal_rules.specs.declared.taking.Taken.{Taken}
use Rattle.org_directory.specs.Register.{Register, object_of, keys_at}
use Rattle.org_directory.specs.declared.object.Object.{Object}
use Rattle.moderation.specs.declared.tell.Tell.{Tell}
use Rattle.moderation.specs.declared.tell.Tell.TheVariants as tells
use Rattle.group_expand.specs.Expansion.{expansion}
use Rattle.group_expand.specs.Routes.{too_many}
use Rattle.rule_terms.specs.declared.action.Action.{Action}
use Rattle.rule_terms.specs.declared.action.Action.TheVariants as actions
use Rattle.rule_terms.specs.declared.rule.Rule.{Rule}
use Rattle.rule_engine.specs.Run.{distinct, place_of}
use Rattle.moderation.specs.declared.approval.TheConstants.{APPROVAL_TIME}
use Rattle.mail_notices.specs.About.{about_of}
use Rattle.mail_notices.specs.Text.{notice_text}
use Rattle.mail_notices.specs.declared.kinds.Notice.{Notice}
use Rattle.mail_notices.specs.declared.kinds.Notice.TheVariants as notices
use Rattle.mail_submission.specs.Base.{base_text, base_message}
use Rattle.mail_plan.specs.Planning.{Input}
use Rattle.mail_plan.specs.declared.release.End.{End}
use Rattle.mail_plan.specs.declared.release.End.TheVariants as stops
use Rattle.mail_plan.specs.declared.release.Hold.{Hold}
use Rattle.mail_plan.specs.declared.release.Item.{Item}
use Rattle.mail_plan.specs.declared.release.ItemKind.TheVariants as kinds
use Rattle.mail_plan.specs.declared.release.Release.{Release}
use Rattle.categorizer.specs.Organisation.{Organisation}
use Rattle.categorizer.specs.Plan.{Case, news}
use Rattle.categorizer.specs.declared.parts.Content.{Content}
use Rattle.categorizer.specs.declared.parts.Draft.{Draft}
use Rattle.categorizer.specs.declared.parts.Letter.{Letter}
use Rattle.categorizer.specs.declared.parts.Loss.{Loss}
use Rattle.categorizer.specs.declared.parts.Loss.TheVariants as losses
use Rattle.categorizer.specs.declared.parts.Plan.{Plan}
use Rattle.categorizer.specs.declared.parts.Rejection.{Rejection}
use Rattle.categorizer.specs.declared.parts.Send.{Send}

-- those whom the approval of these actions asks
abbrev pub approvers : List Action → List (List ℕ)
approvers [] = []
approvers (actions.Prepend text ∷ others) = approvers others
approvers (actions.SetField field text ∷ others) = approvers others
approvers (actions.RemoveField field ∷ others) = approvers others
approvers (actions.CopyTo target ∷ others) = approvers others
approvers (actions.RedirectTo target ∷ others) = approvers others
approvers (actions.Disclaimer before text fallback ∷ others) = approvers others
approvers (actions.Reject code words ∷ others) = approvers others
approvers (actions.Approve by ∷ others) = by

abbrev pub rule_approvers : Option Rule → List (List ℕ)
rule_approvers None = []
rule_approvers (Some rule) = approvers rule.actions

abbrev pub object_approvers : Register → Option Object → List (List ℕ)
object_approvers register None = []
object_approvers register (Some object) = keys_at register object.moderators

abbrev pub object_tell : Option Object → Tell
object_tell None = tells.Always
object_tell (Some object) = object.tell

abbrev pub rule_name : Option Rule → List ℕ
rule_name None = []
rule_name (Some rule) = rule.name

-- object K
unfoldable pub object_label : List ℕ → List ℕ
object_label key = codes "object " ++ key

-- rule I (NAME), for all recipients that this rule holds
unfoldable pub rule_label : ℕ → List ℕ → List ℕ
rule_label place name = codes "rule " ++ (decimal place ++ (codes " (" ++ (name ++ codes "), for all recipients that this rule holds")))

-- the hold of a gate
abbrev pub hold_of : Register → List Rule → Gate → Hold
hold_of register rules (gates.Object key) = record {
  gate = gates.Object key;
  label = object_label key;
  moderators = object_approvers register (object_of register key);
  tell = object_tell (object_of register key);
}
hold_of register rules (gates.Rule place) = record {
  gate = gates.Rule place;
  label = rule_label place (rule_name (slice_get rules place));
  moderators = rule_approvers (slice_get rules place);
  tell = tells.Always;
}

-- the newly rejected leaves of a rule, with the code and words of the first
abbrev pub rejected_by : ℕ → List ℕ → List Rejection → List Loss
rejected_by place name [] = []
rejected_by place name (first ∷ others) =
    losses.Rejected place name first.code first.words (map (λ (rejection : Rejection). rejection.key) (first ∷ others)) ∷ []

-- for each rule in order, the first of which has this place
abbrev pub rule_losses : ℕ → List Rule → List Rejection → List Loss
rule_losses place [] rejections = []
rule_losses place (rule ∷ rules) rejections =
    rejected_by place rule.name (filter (λ (rejection : Rejection). rejection.rule == place) rejections) ++ rule_losses (place + 1) rules rejections

abbrev pub unknown_loss : List (List ℕ) → List Loss
unknown_loss [] = []
unknown_loss (key ∷ keys) = losses.Unknown (key ∷ keys) ∷ []

-- Unknown roots are told with the first release.
abbrev pub unknown_now : Case → Option (List Gate) → List Gate → List (List ℕ)
unknown_now case None opened = (case.expand opened).unknown
unknown_now case (Some before) opened = []

abbrev pub content_of : Register → List Rule → Plan → List (List ℕ) → Content
content_of register rules new unknown = record {
  sent = new.sent;
  holds = map (hold_of register rules) new.met;
  losses = rule_losses 0 rules new.refused ++ unknown_loss unknown;
}

-- With too many leaves nobody gets anything, and the first release says so.
abbrev pub too_many_content : Option (List Gate) → Content
too_many_content None = record { sent = []; holds = []; losses = losses.TooMany ∷ [] }
too_many_content (Some before) = record { sent = []; holds = []; losses = [] }

abbrev pub content : Case → Option (List Gate) → List Gate → Content
content case before opened =
    if case.too_many then too_many_content before
    else content_of case.setting.directory case.rules (news case before opened) (unknown_now case before opened)

abbrev pub end_of : Loss → End
end_of (losses.Rejected rule name code words keys) = stops.Rejected rule keys
end_of (losses.Unknown keys) = stops.Unknown keys
end_of losses.TooMany = stops.TooMany

abbrev pub notice_of : Loss → Notice
notice_of (losses.Rejected rule name code words keys) = notices.Rejected rule name code words keys
notice_of (losses.Unknown keys) = notices.Unknown keys
notice_of losses.TooMany = notices.TooMany

abbrev pub name_at : ℕ → ℕ → ℕ → ItemName
name_at number release place = record { submission = number; release = release; place = place; mark = marks.Plain }

-- the text of a request or notice, which has the name of this place
abbrev pub text_at : Letter → ℕ → List (List ℕ) → Notice → List ℕ
text_at letter place to what = notice_text (name_at letter.about.number letter.release place) to letter.made letter.about what

abbrev pub version_of : Send → Draft
version_of send = record { folder = send.target; kind = kinds.Version; why = send.why; text = send.text }

abbrev pub request_to : List ℕ → List ℕ → Draft
request_to text moderator = record { folder = moderator; kind = kinds.Request; why = whys.Direct; text = text }

-- a version, as a report lists it
abbrev pub line_of : Send → Line
line_of send = record { target = send.target; why = send.why }

abbrev pub line_at : Option Send → List Line
line_at None = []
line_at (Some send) = line_of send ∷ []

-- the versions at these places
abbrev pub lines_at : List Send → List ℕ → List Line
lines_at sends [] = []
lines_at sends (place ∷ places) = line_at (slice_get sends place) ++ lines_at sends places

-- the head of the report to a mailbox, which has the name of this place
abbrev pub head_at : Letter → Option (List ℕ) → ℕ → List ℕ → ReportHead
head_at letter sender place mailbox = record {
  name = name_at letter.about.number letter.release place;
  moment = letter.made;
  mailbox = mailbox;
  sender = sender;
  message_id = letter.about.message_id;
  subject = letter.about.subject;
}

-- the report of what a mailbox takes of the versions, with the message before rules
abbrev pub report_at : Letter → Option (List ℕ) → List Send → ℕ → Taken → Draft
report_at letter sender sends place taken = record {
  folder = taken.mailbox;
  kind = kinds.Report;
  why = whys.Direct;
  text = report_text (head_at letter sender place taken.mailbox) (lines_at sends taken.targets) letter.about.original;
}

-- behind the drafts a report to each of these mailboxes
abbrev pub with_reports : Letter → Option (List ℕ) → List Send → List Draft → List Taken → List Draft
with_reports letter sender sends drafts [] = drafts
with_reports letter sender sends drafts (taken ∷ others) =
    with_reports letter sender sends (drafts ++ report_at letter sender sends (length drafts) taken ∷ []) others

-- An approval is asked for within two days.
abbrev pub asked : Letter → ℕ → Hold → Notice
asked letter gate hold =
    notices.Asked (record { submission = letter.about.number; release = letter.release; gate = gate }) hold.label (letter.made + APPROVAL_TIME)

-- behind the drafts one text for all moderators of a hold, which has the name of the first of these items
abbrev pub with_request : Letter → List Draft → ℕ → Hold → List Draft
with_request letter drafts gate hold =
    drafts ++ map (request_to (text_at letter (length drafts) hold.moderators (asked letter gate hold))) hold.moderators

-- behind the drafts the requests of these holds, the first of which has this place
abbrev pub with_requests : Letter → List Draft → ℕ → List Hold → List Draft
with_requests letter drafts gate [] = drafts
with_requests letter drafts gate (hold ∷ holds) = with_requests letter (with_request letter drafts gate hold) (gate + 1) holds

abbrev pub with_notice : Letter → List ℕ → List Draft → Loss → List Draft
with_notice letter to drafts loss =
    drafts ++ record { folder = to; kind = kinds.Notice; why = whys.Direct; text = text_at letter (length drafts) (to ∷ []) (notice_of loss) } ∷ []

abbrev pub with_notices : Letter → List ℕ → List Draft → List Loss → List Draft
with_notices letter to drafts [] = drafts
with_notices letter to drafts (loss ∷ others) = with_notices letter to (with_notice letter to drafts loss) others

-- behind the drafts a notice of each loss; the null sender gets none
abbrev pub with_told : Letter → Option (List ℕ) → List Draft → List Loss → List Draft
with_told letter None drafts those = drafts
with_told letter (Some to) drafts those = with_notices letter to drafts those

-- The parts of a release in order: versions, reports, requests, notices.
abbrev pub drafts_of : Letter → Option (List ℕ) → List Taken → Content → List Draft
drafts_of letter sender taken content =
    with_told letter sender
    (with_requests letter (with_reports letter sender content.sent (map version_of content.sent) taken) 0 content.holds) content.losses

abbrev pub draft_texts : List Draft → List (List ℕ)
draft_texts drafts = map (λ (draft : Draft). draft.text) drafts

-- an item of this name, where these are all texts
abbrev pub item_of : ItemName → List (List ℕ) → Draft → Item
item_of name texts draft =
    record { name = name; folder = draft.folder; kind = draft.kind; why = draft.why; text = place_of texts draft.text }

-- the items, the first of which has this place
abbrev pub items_from : ℕ → ℕ → ℕ → List (List ℕ) → List Draft → List Item
items_from number release place texts [] = []
items_from number release place texts (draft ∷ drafts) =
    item_of (name_at number release place) texts draft ∷ items_from number release (place + 1) texts drafts

-- the drafts with their names and distinct texts, and the rest of a release
abbrev pub release_from : ℕ → ℕ → List Draft → Content → Release
release_from number release drafts content = record {
  texts = distinct (draft_texts drafts);
  items = items_from number release 0 (distinct (draft_texts drafts)) drafts;
  holds = content.holds;
  ends = map end_of content.losses;
}

abbrev pub case_of : Organisation → Input → Mail → Case
case_of org input message = record {
  rules = org.book.rules;
  setting = record { directory = org.register; sender = input.submission.reverse; moment = input.accepted_at };
  message = message;
  expand = expansion org.register input.submission.recipients input.submission.reverse;
  too_many = too_many org.register input.submission.recipients;
}

abbrev pub letter_of : Input → Mail → Letter
letter_of input message = record {
  about = about_of input.number message (base_text input.number input.submission.bytes);
  release = input.release;
  made = input.made;
}

-- A journaling mailbox takes a target of mail of a sender.
abbrev pub takes : Organisation → Option (List ℕ) → List ℕ → List ℕ → Bool
takes org sender mailbox target = is_taken org.register sender org.book.journals mailbox target

-- the mailboxes that take some of these versions, each with all that it takes
abbrev pub journaled : Organisation → Option (List ℕ) → List Send → List Taken
journaled org sender sends = takings org.register sender org.book.journals (map (λ (send : Send). send.target) sends)

-- the release of what is new
abbrev pub release_with : Organisation → Input → Letter → Content → Release
release_with org input letter here =
    release_from input.number input.release
    (drafts_of letter input.submission.reverse (journaled org input.submission.reverse here.sent) here) here

-- the release of a message before rules
abbrev pub release_of : Organisation → Input → Mail → Release
release_of org input message =
    release_with org input (letter_of input message) (content (case_of org input message) input.before input.opened)

-- what an organisation prescribes for a release
abbrev pub hub_release : Organisation → Input → Release
hub_release org input = release_of org input (base_message input.number input.submission.bytes)
