-- What the sender is told of a version that isn't in its folder.
use Rattle.std.specs.Prelude.{ℕ, ◌-◌, ◌&&◌, not, is_some, Bool, true, false, if◌then◌else◌, List, [], ◌∷◌, Option, Some, None}
use Rattle.delivery_times.specs.Times.{age_of, tried_until}
use Rattle.delivery_times.specs.declared.times.Age.{Age}
use Rattle.delivery_times.specs.declared.times.Age.TheVariants as ages
use Rattle.journal_report.specs.declared.why.Why.{Why}
use Rattle.mail_names.specs.declared.name.ItemName.{ItemName}
use Rattle.mail_names.specs.declared.name.Mark.TheVariants as marks
use Rattle.mail_notices.specs.declared.kinds.Notice.{Notice}
use Rattle.mail_notices.specs.declared.kinds.Notice.TheVariants as notices
use Rattle.mail_submission.specs.Submission.{Submitted}
use Rattle.hub_core.specs.declared.queue.QueuedItem.{QueuedItem}
use Rattle.hub_core.specs.declared.waiting.WaitingItem.{WaitingItem}
use Rattle.hub_core.specs.Ending.{sender_notice}
use Rattle.hub_core.specs.Mail.{LiveMail}

-- the name of the notice that an item is late
abbrev pub delay_name : ItemName → ItemName
delay_name name = record name { mark = marks.Delay }

-- and of the notice that it was given up
abbrev pub failure_name : ItemName → ItemName
failure_name name = record name { mark = marks.Failure }

-- a notice to a sender; the null sender gets none
abbrev pub to_sender : ItemName → ℕ → Notice → Submitted → Option (List ℕ) → List QueuedItem
to_sender own moment what submission None = []
to_sender own moment what submission (Some sender) = sender_notice own submission sender moment what ∷ []

-- a notice on a version, by why it goes where it goes; of another item there is none
abbrev pub of_version : ItemName → ℕ → (Why → Notice) → Option LiveMail → Option Why → List QueuedItem
of_version own moment what None version = []
of_version own moment what (Some mail) None = []
of_version own moment what (Some mail) (Some why) = to_sender own moment (what why) mail.submission mail.submission.reverse

abbrev pub delay_notice : WaitingItem → Why → Notice
delay_notice w why = notices.Delayed w.item.folder why (tried_until w.made)

abbrev pub failure_notice : WaitingItem → ℕ → Why → Notice
failure_notice w moment why = notices.Undeliverable w.item.folder why moment

-- The sender is told once that a version is late.
abbrev pub delay_told : ℕ → Option LiveMail → WaitingItem → List QueuedItem
delay_told moment mail w =
    if w.told then [] else of_version (delay_name w.item.name) moment (delay_notice w) mail w.version

-- and that it was given up
abbrev pub failure_told : ℕ → Option LiveMail → WaitingItem → List QueuedItem
failure_told moment mail w = of_version (failure_name w.item.name) moment (failure_notice w moment) mail w.version

abbrev pub has_sender : Option LiveMail → Bool
has_sender None = false
has_sender (Some mail) = is_some mail.submission.reverse

abbrev pub is_late : Age → Bool
is_late ages.Late = true
is_late ages.Fresh = false
is_late ages.Expired = false

abbrev pub is_expired : Age → Bool
is_expired ages.Expired = true
is_expired ages.Fresh = false
is_expired ages.Late = false

-- The sender of a version that is late at a moment can be told so, and wasn't.
abbrev pub may_delay : ℕ → Option LiveMail → WaitingItem → Bool
may_delay moment mail w =
    is_some w.version && (has_sender mail && (not w.told && is_late (age_of (moment - w.made))))

-- An item may be given up at a moment.
abbrev pub may_end : ℕ → WaitingItem → Bool
may_end moment w = is_expired (age_of (moment - w.made))
