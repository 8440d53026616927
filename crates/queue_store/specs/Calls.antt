-- The entries that the hub's calls add, from the state in which each begins.
use Rattle.std.specs.Prelude.{◌≡◌, ◌||◌, nat_lt, ℕ, not, map, count_by, Bool, true, false, if◌then◌else◌, List, [], ◌∷◌, ◌++◌, length, fold, find, Option, Some, None}
use Rattle.mail_names.specs.declared.name.ApprovalName.{ApprovalName}
use Rattle.mail_names.specs.declared.name.ItemName.{ItemName}
use Rattle.port_io.specs.Causes.{RoseBy}
use Rattle.moderation.specs.declared.approval.Verdict.{Verdict}
use Rattle.mail_submission.specs.Submission.{Submitted}
use Rattle.log_entry.specs.declared.entry.Entry.{Entry}
use Rattle.log_entry.specs.declared.entry.Entry.TheVariants as entries
use Rattle.hub_core.specs.declared.waiting.WaitingItem.{WaitingItem}
use Rattle.mail_submission.specs.declared.intake.Accepted.{Accepted}
use Rattle.hub_core.specs.declared.command.Reply.TheVariants as replies
use Rattle.mail_plan.specs.Planning.{Input}
use Rattle.hub_core.specs.declared.live.TaskName.{TaskName}
use Rattle.hub_core.specs.Setup.{Texts, Setup}
use Rattle.hub_core.specs.Mail.{LiveMail, waits, input_of, is_taken}
use Rattle.hub_core.specs.Standing.{Standing, state_after, now_of, has_room, place_of_same, mail_of, any_pends, decision_of, tasks_of}
use Rattle.hub_core.specs.Waiting.{is_named, name_in}
use Rattle.hub_core.specs.Replies.{reply_submit}

abbrev pub after_entries : Setup → Standing → List Entry → Standing
after_entries setup s entries = fold (state_after setup) s entries

abbrev pub entries_new : Option ℕ → Standing → ℕ → Submitted → List Entry
entries_new (Some place) s clock submission = []
entries_new None s clock submission =
    if has_room s submission then entries.Accepted (now_of s clock) submission ∷ [] else []

-- what a submission adds: nothing where it repeats one, or where the limits leave no room for it
abbrev pub entries_submit : Standing → ℕ → Submitted → List Entry
entries_submit s clock submission = entries_new (place_of_same submission s.live) s clock submission

-- the release that the setup prescribes for an input by an organisation
abbrev pub entries_made : Setup → Input → Texts → List Entry
entries_made setup input org = entries.Categorised input.number input.release (setup.release_of org input) ∷ []

abbrev pub entries_by : Setup → Input → Option Texts → List Entry
entries_by setup input None = []
entries_by setup input (Some org) = entries_made setup input org

abbrev pub entries_mail : Setup → TaskName → Option LiveMail → List Entry
entries_mail setup name None = []
entries_mail setup name (Some mail) =
    if waits mail name.release then entries_by setup (input_of name.submission mail name.release) mail.org else []

-- what categorising this release adds: nothing where it doesn't wait
abbrev pub entries_at : Setup → Standing → TaskName → List Entry
entries_at setup s name = entries_mail setup name (mail_of s name.submission)

-- what categorising these releases adds
abbrev pub entries_all : Setup → Standing → List TaskName → List Entry
entries_all setup s [] = []
entries_all setup s (name ∷ names) =
    entries_at setup s name ++ entries_all setup (after_entries setup s (entries_at setup s name)) names

-- what categorising all that waits adds, by submission and release
abbrev pub entries_categorise : Setup → Standing → List Entry
entries_categorise setup s = entries_all setup s (tasks_of s)

-- what a decision adds: nothing where it isn't taken
abbrev pub entries_decide : Standing → ApprovalName → List ℕ → Verdict → ℕ → List Entry
entries_decide s name by verdict clock =
    if is_taken (decision_of s name by verdict (now_of s clock)) then entries.Decided name by verdict (now_of s clock) ∷ [] else []

abbrev pub entries_put : ItemName → Option WaitingItem → Bool → List Entry
entries_put name None put = []
entries_put name (Some item) true = entries.Delivered name ∷ []
entries_put name (Some item) false = []

-- what a try of the item of this name adds, where its put went so
abbrev pub entries_try : Standing → ItemName → Bool → List Entry
entries_try s name put = entries_put name (find (is_named name) s.waiting) put

-- what a try of each of these items adds, where their puts went so
abbrev pub entries_tries : Setup → Standing → List ItemName → List Bool → List Entry
entries_tries setup s [] puts = []
entries_tries setup s (name ∷ names) [] = []
entries_tries setup s (name ∷ names) (put ∷ puts) =
    entries_try s name put ++ entries_tries setup (after_entries setup s (entries_try s name put)) names puts

abbrev pub names_waiting : Standing → List ItemName
names_waiting s = map name_in s.waiting

-- a turn's moment
abbrev pub moment_entry : Standing → ℕ → Entry
moment_entry s clock = entries.Moment (now_of s clock)

-- what a turn's tries add, in the state that its moment leaves
abbrev pub entries_trying : Setup → Standing → List Bool → List Entry
entries_trying setup s puts = entries_tries setup s (names_waiting s) puts

-- A turn at this clock, where the puts went so: its moment, at which approvals run out, and then a try of each item that waits
-- behind it. Where no item waits and no approval pends it adds nothing.
abbrev pub entries_turn : Setup → Standing → ℕ → List Bool → List Entry
entries_turn setup s clock puts =
    if nat_lt 0 (length s.waiting) || any_pends s
    then moment_entry s clock ∷ entries_trying setup (state_after setup s (moment_entry s clock)) puts
    else []

-- how many items a turn at this clock tries: all that wait behind its moment
abbrev pub count_tried : Setup → Standing → ℕ → ℕ
count_tried setup s clock =
    if nat_lt 0 (length s.waiting) || any_pends s then length (names_waiting (state_after setup s (moment_entry s clock))) else 0

-- The entry tells a delivery.
abbrev pub IsDelivery : Entry → Type 0
IsDelivery (entries.Delivered name) = Unit {0}
IsDelivery (entries.Organised directory rules) = ⊥
IsDelivery (entries.Accepted moment submission) = ⊥
IsDelivery (entries.Categorised number release plan) = ⊥
IsDelivery (entries.Decided name by verdict moment) = ⊥
IsDelivery (entries.Moment moment) = ⊥
IsDelivery (entries.Delayed name) = ⊥
IsDelivery (entries.Ended name) = ⊥
IsDelivery (entries.Forgot number) = ⊥

-- how many puts failed
abbrev pub misses : List Bool → ℕ
misses puts = count_by not puts

-- There was a put for each of so many items, and the count of the shelf's faults rose for each that failed.
pub record EachTried (count : ℕ) (puts : List Bool) (before now : ℕ) : Type 0 where
  pub each : length puts ≡ count
  pub missed : RoseBy (misses puts) before now

-- The number that a submission is answered with is that of the one that it repeats, or else the next.
abbrev pub IsAccepted : Standing → Submitted → Accepted → Type 0
IsAccepted s submission accepted =
    replies.Accepted accepted.number accepted.repeat ≡ reply_submit s submission

-- The limits leave no room for a submission, beside so many and their octets.
abbrev pub IsQueueFull : Standing → Submitted → ℕ → ℕ → Type 0
IsQueueFull s submission live bytes = replies.QueueFull live bytes ≡ reply_submit s submission
