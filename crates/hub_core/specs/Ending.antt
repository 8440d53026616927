-- What the sender is told of approvals that are refused or run out.
use Rattle.std.specs.Prelude.{ℕ, ◌+◌, Bool, true, false, if◌then◌else◌, List, [], ◌∷◌, ◌++◌, Option, Some, None}
use Rattle.mail_names.specs.declared.name.ApprovalName.{ApprovalName}
use Rattle.mail_names.specs.declared.name.ItemName.{ItemName}
use Rattle.mail_names.specs.declared.name.Mark.TheVariants as marks
use Rattle.moderation.specs.Approval.{runs_out}
use Rattle.moderation.specs.declared.tell.Tell.{Tell}
use Rattle.moderation.specs.declared.tell.Tell.TheVariants as tellings
use Rattle.mail_notices.specs.About.{about_of}
use Rattle.mail_notices.specs.Text.{notice_text}
use Rattle.mail_notices.specs.declared.kinds.Notice.{Notice}
use Rattle.mail_notices.specs.declared.kinds.Notice.TheVariants as notices
use Rattle.mail_submission.specs.Base.{base_message, base_text}
use Rattle.mail_submission.specs.Submission.{Submitted}
use Rattle.hub_core.specs.declared.asking.Asking.{Asking}
use Rattle.hub_core.specs.declared.queue.QueuedItem.{QueuedItem}
use Rattle.hub_core.specs.Setup.{Texts, Setup}
use Rattle.hub_core.specs.Approvals.{Stage, asks_in}
use Rattle.hub_core.specs.Mail.{LiveMail}

abbrev pub is_inside : Setup → Option Texts → List ℕ → Bool
is_inside setup None sender = false
is_inside setup (Some org) sender = setup.inside org sender

-- whether this sender is told
abbrev pub is_told : Setup → Option Texts → List ℕ → Tell → Bool
is_told setup org sender tellings.Always = true
is_told setup org sender tellings.Internal = is_inside setup org sender
is_told setup org sender tellings.Never = false

abbrev pub approval_name : ℕ → ℕ → ℕ → ApprovalName
approval_name number release gate = record { submission = number; release = release; gate = gate }

-- the name of the notice that an approval's end gives
abbrev pub end_name : ApprovalName → ItemName
end_name name = record { submission = name.submission; release = name.release; place = name.gate; mark = marks.Gate }

-- a notice on a submission to its sender, by its name
abbrev pub sender_notice : ItemName → Submitted → List ℕ → ℕ → Notice → QueuedItem
sender_notice own submission sender moment what = record {
  name = own;
  folder = sender;
  text =
      notice_text own (sender ∷ []) moment
      (about_of own.submission (base_message own.submission submission.bytes) (base_text own.submission submission.bytes)) what;
}

-- the notice of an approval's end, to the sender
abbrev pub end_notice : ApprovalName → Submitted → List ℕ → ℕ → Notice → QueuedItem
end_notice name submission sender moment what = sender_notice (end_name name) submission sender moment what

abbrev pub told : Setup → ApprovalName → LiveMail → Asking → ℕ → Notice → Option (List ℕ) → List QueuedItem
told setup name mail asking moment what None = []
told setup name mail asking moment what (Some sender) =
    if is_told setup mail.org sender asking.tell then end_notice name mail.submission sender moment what ∷ [] else []

-- what the end of an approval of a submission tells; the null sender is told nothing
abbrev pub end_told : Setup → ApprovalName → LiveMail → Asking → ℕ → Notice → List QueuedItem
end_told setup name mail asking moment what = told setup name mail asking moment what mail.submission.reverse

-- of one that this key refused
abbrev pub refusal_told : Setup → ApprovalName → LiveMail → Asking → List ℕ → ℕ → List QueuedItem
refusal_told setup name mail asking by moment = end_told setup name mail asking moment (notices.Refused name asking.label by)

-- of one that runs out at a moment; nothing where it doesn't
abbrev pub run_out_told : Setup → ApprovalName → LiveMail → Asking → ℕ → List QueuedItem
run_out_told setup name mail asking moment =
    if runs_out asking.approval moment
    then end_told setup name mail asking moment (notices.RanOut name asking.label asking.approval.deadline) else []

-- of all that a release asks for and that run out, the first of which is at this place
abbrev pub asks_told : Setup → LiveMail → ℕ → ℕ → ℕ → ℕ → List Asking → List QueuedItem
asks_told setup mail moment number release gate [] = []
asks_told setup mail moment number release gate (asking ∷ asks) =
    run_out_told setup (approval_name number release gate) mail asking moment ++ asks_told setup mail moment number release (gate + 1) asks

-- and of all releases of a submission, the first of which has this number
abbrev pub stages_told : Setup → LiveMail → ℕ → ℕ → ℕ → List Stage → List QueuedItem
stages_told setup mail moment number release [] = []
stages_told setup mail moment number release (stage ∷ stages) =
    asks_told setup mail moment number release 0 (asks_in stage) ++ stages_told setup mail moment number (release + 1) stages

-- and of all submissions, the first of which has this number: in the order of the approvals' names
abbrev pub all_told : Setup → ℕ → ℕ → List LiveMail → List QueuedItem
all_told setup moment number [] = []
all_told setup moment number (mail ∷ live) =
    stages_told setup mail moment number 0 mail.stages ++ all_told setup moment (number + 1) live
