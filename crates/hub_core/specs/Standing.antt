-- The state that a history leaves, and what it answers.
use Rattle.std.specs.Prelude.{◌≡◌, ◌&&◌, ◌==◌, not, nat_le, nat_lt, ℕ, ◌+◌, ◌-◌, ◌%◌, min, max, Bool, true, false, if◌then◌else◌, List, [], ◌∷◌, ◌++◌, length, map, fold, find, position, slice_get, bytes_eq, unwrap_or, Option, Some, None, is_some, Result, Ok, Err}
use Rattle.std.specs.List.{list_any}
use Rattle.mail_names.specs.Dates.{last_moment}
use Rattle.mail_names.specs.declared.name.ApprovalName.{ApprovalName}
use Rattle.moderation.specs.declared.approval.Decision.{Decision}
use Rattle.moderation.specs.declared.approval.Verdict.{Verdict}
use Rattle.moderation.specs.declared.approval.Verdict.TheVariants as verdicts
use Rattle.mail_plan.specs.Planning.{Input, is_release, is_version, made_at}
use Rattle.mail_submission.specs.Submission.{Submitted, same_submission}
use Rattle.mail_plan.specs.declared.release.Item.{Item}
use Rattle.mail_plan.specs.declared.release.Release.{Release}
use Rattle.log_entry.specs.declared.entry.Entry.{Entry}
use Rattle.log_entry.specs.declared.entry.Entry.TheVariants as entries
use Rattle.journal_report.specs.declared.why.Why.{Why}
use Rattle.hub_core.specs.declared.queue.QueuedItem.{QueuedItem}
use Rattle.hub_core.specs.declared.waiting.Due.TheVariants as dues
use Rattle.hub_core.specs.declared.waiting.WaitingItem.{WaitingItem}
use Rattle.hub_core.specs.declared.limits.Limits.{Limits}
use Rattle.hub_core.specs.declared.command.StepFault.{StepFault}
use Rattle.hub_core.specs.declared.command.StepFault.TheVariants as faults
use Rattle.hub_core.specs.declared.asking.Asking.{Asking}
use Rattle.hub_core.specs.declared.live.TaskName.{TaskName}
use Rattle.hub_core.specs.Setup.{Texts, Setup, first_org}
use Rattle.hub_core.specs.Approvals.{Stage, changed, stage_waits}
use Rattle.hub_core.specs.Mail.{LiveMail, new_mail, first_waiting, waits, is_uncategorised, categorised, asking_at, decision_in, is_taken, decided_mail, expired_mail, mail_pends}
use Rattle.hub_core.specs.Ending.{refusal_told, all_told}
use Rattle.hub_core.specs.Waiting.{is_named, without, with_told, noticed, met}
use Rattle.hub_core.specs.Delivery.{delay_told, failure_told, may_delay, may_end}

-- what is kept of a history: the limits that it is held to, its greatest moment, the newest organisation with its epoch, the
-- submissions, and the items that wait
pub record Standing : Type 0 where
  pub limits : Limits
  pub moment : ℕ
  pub epoch : ℕ
  pub newest : Texts
  pub live : List LiveMail
  pub waiting : List WaitingItem

abbrev pub start : Setup → Standing
start setup = record { limits = setup.limits; moment = 0; epoch = 0; newest = first_org; live = []; waiting = [] }

-- the limits of the program
abbrev pub usual : Limits
usual = record { log = 1099511627776; live = 100000; bytes = 2147483648; epochs = 64 }

-- the moment of a command at this clock
abbrev pub now_of : Standing → ℕ → ℕ
now_of s clock = min (max clock s.moment) last_moment

-- the first submission that this one repeats
abbrev pub place_of_same : Submitted → List LiveMail → Option ℕ
place_of_same s live = position (λ (mail : LiveMail). same_submission mail.submission s) live

-- an item of a release, with its text
abbrev pub queued : List (List ℕ) → Item → QueuedItem
queued texts item = record { name = item.name; folder = item.folder; text = unwrap_or (slice_get texts item.text) [] }

-- the items of a release, with their texts
abbrev pub queued_all : Release → List QueuedItem
queued_all release = map (queued release.texts) release.items

-- how a version comes to go where it goes
abbrev pub version_in : Item → Option Why
version_in item = if is_version item.kind then Some item.why else None

-- an item of a release of this moment, as it comes to wait
abbrev pub waiting_of : ℕ → List (List ℕ) → Item → WaitingItem
waiting_of made texts item = record { item = queued texts item; made = made; version = version_in item; told = false; due = dues.First }

-- the items of a release, as they come to wait where it is made
abbrev pub released : ℕ → ℕ → Release → Option LiveMail → List WaitingItem
released number release plan None = []
released number release plan (Some mail) =
    if waits mail release && is_release number release plan
    then map (waiting_of (made_at mail.accepted_at mail.opened release) plan.texts) plan.items else []

-- the submission of this number
abbrev pub mail_of : Standing → ℕ → Option LiveMail
mail_of s number = if nat_le 1 number then slice_get s.live (number - 1) else None

-- what becomes of a decision; none where there is no such approval
abbrev pub decision_of : Standing → ApprovalName → List ℕ → Verdict → ℕ → Option Decision
decision_of s name by verdict moment = decision_in (mail_of s name.submission) name by verdict moment

abbrev pub refused_told : Setup → ApprovalName → List ℕ → ℕ → LiveMail → Option Asking → List QueuedItem
refused_told setup name by moment mail None = []
refused_told setup name by moment mail (Some asking) = refusal_told setup name mail asking by moment

abbrev pub decided_told : Setup → ApprovalName → List ℕ → ℕ → Option LiveMail → List QueuedItem
decided_told setup name by moment None = []
decided_told setup name by moment (Some mail) =
    if is_taken (decision_in (Some mail) name by verdicts.Reject moment) then refused_told setup name by moment mail (asking_at mail name) else []

-- the notice that a decision makes: that of a refusal which is taken
abbrev pub decision_told : Setup → Standing → ApprovalName → List ℕ → Verdict → ℕ → List QueuedItem
decision_told setup s name by verdicts.Approve moment = []
decision_told setup s name by verdicts.Reject moment = decided_told setup name by moment (mail_of s name.submission)

-- the submission of an item
abbrev pub mail_in : Standing → WaitingItem → Option LiveMail
mail_in s w = mail_of s w.item.name.submission

-- the notice that an item is late
abbrev pub delayed_told : Standing → Option WaitingItem → List QueuedItem
delayed_told s None = []
delayed_told s (Some w) = delay_told s.moment (mail_in s w) w

-- and that it was given up
abbrev pub ended_told : Standing → Option WaitingItem → List QueuedItem
ended_told s None = []
ended_told s (Some w) = failure_told s.moment (mail_in s w) w

-- the notices that an entry makes
abbrev pub told_by : Setup → Standing → Entry → List QueuedItem
told_by setup s (entries.Organised directory rules) = []
told_by setup s (entries.Accepted moment submission) = []
told_by setup s (entries.Categorised number release plan) = []
told_by setup s (entries.Decided name by verdict moment) = decision_told setup s name by verdict moment
told_by setup s (entries.Moment moment) = all_told setup moment 1 s.live
told_by setup s (entries.Delivered name) = []
told_by setup s (entries.Delayed name) = delayed_told s (find (is_named name) s.waiting)
told_by setup s (entries.Ended name) = ended_told s (find (is_named name) s.waiting)
told_by setup s (entries.Forgot number) = []

-- the state after an entry
abbrev pub state_after : Setup → Standing → Entry → Standing
state_after setup s (entries.Organised directory rules) =
    record s { epoch = s.epoch + 1; newest = record { directory = directory; rules = rules } }
state_after setup s (entries.Accepted moment submission) =
    record s { moment = moment; live = s.live ++ new_mail submission moment s.epoch s.newest ∷ [] }
state_after setup s (entries.Categorised number release plan) =
    record s { live = changed (categorised release plan) (number - 1) s.live; waiting = s.waiting ++ released number release plan (mail_of s number) }
state_after setup s (entries.Decided name by verdict moment) =
    record s {
      moment = moment;
      live = changed (decided_mail name by verdict moment) (name.submission - 1) s.live;
      waiting = s.waiting ++ map (noticed moment dues.First) (decision_told setup s name by verdict moment);
    }
state_after setup s (entries.Moment moment) =
    record s {
      moment = moment;
      live = map (expired_mail moment) s.live;
      waiting = map (met moment) (s.waiting ++ map (noticed moment dues.Fresh) (all_told setup moment 1 s.live));
    }
state_after setup s (entries.Delivered name) = record s { waiting = without name s.waiting }
state_after setup s (entries.Delayed name) =
    record s {
      waiting = with_told name (s.waiting ++ map (noticed s.moment dues.Made) (delayed_told s (find (is_named name) s.waiting)));
    }
state_after setup s (entries.Ended name) =
    record s { waiting = without name (s.waiting ++ map (noticed s.moment dues.Made) (ended_told s (find (is_named name) s.waiting))) }
state_after setup s (entries.Forgot number) = s

-- the state of a history of a hub that is set up so
abbrev pub standing : Setup → List Entry → Standing
standing setup history = fold (state_after setup) (start setup) history

-- the octets of the messages that are remembered
abbrev pub live_bytes : List LiveMail → ℕ
live_bytes [] = 0
live_bytes (mail ∷ live) = length mail.submission.bytes + live_bytes live

-- The limits leave room for one submission more, and its number isn't the greatest u64.
abbrev pub has_room : Standing → Submitted → Bool
has_room s submission =
    nat_lt (length s.live) s.limits.live
    && (nat_le (live_bytes s.live + length submission.bytes) s.limits.bytes && nat_lt (length s.live + 1) 18446744073709551615)

-- the epochs with one more, unless it is among them
abbrev pub with_epoch : List ℕ → ℕ → List ℕ
with_epoch epochs epoch = if list_any (λ e. e == epoch) epochs then epochs else epochs ++ epoch ∷ []

-- with that of a submission whose organisation is kept
abbrev pub with_mail : List ℕ → LiveMail → List ℕ
with_mail epochs mail = if is_some mail.org then with_epoch epochs mail.epoch else epochs

abbrev pub with_own : List ℕ → Option LiveMail → List ℕ
with_own epochs None = epochs
with_own epochs (Some mail) = with_epoch epochs mail.epoch

-- with that of the submission of an item
abbrev pub with_item : List LiveMail → List ℕ → WaitingItem → List ℕ
with_item live epochs w = with_own epochs (slice_get live (w.item.name.submission - 1))

-- the epochs that are live: the newest, and those of the submissions with a release that waits to be categorised, with an
-- approval that pends or with an item that waits
abbrev pub live_epochs : Standing → List ℕ
live_epochs s = fold (with_item s.live) (fold with_mail (s.epoch ∷ []) s.live) s.waiting

abbrev pub same_texts : Texts → Texts → Bool
same_texts a b = bytes_eq a.directory b.directory && bytes_eq a.rules b.rules

-- The limits leave room for one organisation more, and the newest epoch isn't the greatest u32.
abbrev pub has_epoch : Standing → Bool
has_epoch s = nat_lt s.epoch 4294967295 && nat_lt (length (live_epochs s)) s.limits.epochs

-- a moment that isn't before the last, nor past the year 9999
abbrev pub is_moment : Standing → ℕ → Bool
is_moment s moment = nat_le s.moment moment && nat_le moment last_moment

-- The texts are another organisation's than the newest, and there is room for it.
abbrev pub is_lawful_org : Setup → Standing → Texts → Bool
is_lawful_org setup s org = not (is_some (setup.fault_of org)) && (not (same_texts org s.newest) && has_epoch s)

abbrev pub delays : Standing → Option WaitingItem → Bool
delays s None = false
delays s (Some w) = may_delay s.moment (mail_in s w) w

abbrev pub ends : Standing → Option WaitingItem → Bool
ends s None = false
ends s (Some w) = may_end s.moment w

-- whether an entry can stand behind a history of this state
abbrev pub is_lawful : Setup → Standing → Entry → Bool
is_lawful setup s (entries.Organised directory rules) = is_lawful_org setup s (record { directory = directory; rules = rules })
is_lawful setup s (entries.Accepted moment submission) =
    is_moment s moment && (not (is_some (place_of_same submission s.live)) && has_room s submission)
is_lawful setup s (entries.Categorised number release plan) =
    is_uncategorised (mail_of s number) release && is_release number release plan
is_lawful setup s (entries.Decided name by verdict moment) =
    is_moment s moment && is_taken (decision_of s name by verdict moment)
is_lawful setup s (entries.Moment moment) = is_moment s moment
is_lawful setup s (entries.Delivered name) = list_any (is_named name) s.waiting
is_lawful setup s (entries.Delayed name) = delays s (find (is_named name) s.waiting)
is_lawful setup s (entries.Ended name) = ends s (find (is_named name) s.waiting)
is_lawful setup s (entries.Forgot number) = false

-- An approval pends.
abbrev pub any_pends : Standing → Bool
any_pends s = list_any mail_pends s.live

-- the number of the submission at a place
abbrev pub number_at : Option ℕ → Option ℕ
number_at None = None
number_at (Some place) = Some (place + 1)

abbrev pub task_name : Input → TaskName
task_name input = record { submission = input.number; release = input.release }

abbrev pub task_or : ℕ → Option ℕ → Option TaskName → Option TaskName
task_or number None later = later
task_or number (Some release) later = Some (record { submission = number; release = release })

abbrev pub own_task : ℕ → ℕ → ℕ → LiveMail → Option ℕ
own_task residue workers number mail = if (number % workers) == residue then first_waiting mail else None

-- The first release that waits to be categorised, by submission and release, of the submissions whose number leaves this
-- residue. The first of these submissions has this number.
abbrev pub first_task : ℕ → ℕ → ℕ → List LiveMail → Option TaskName
first_task residue workers number [] = None
first_task residue workers number (mail ∷ live) =
    task_or number (own_task residue workers number mail) (first_task residue workers (number + 1) live)

-- the releases of a submission that wait to be categorised, from this one on
abbrev pub waiting_from : ℕ → ℕ → List Stage → List TaskName
waiting_from number release [] = []
waiting_from number release (stage ∷ stages) =
    if stage_waits stage then (record { submission = number; release = release }) ∷ waiting_from number (release + 1) stages
    else waiting_from number (release + 1) stages

abbrev pub tasks_from : ℕ → List LiveMail → List TaskName
tasks_from number [] = []
tasks_from number (mail ∷ live) = waiting_from number 0 mail.stages ++ tasks_from (number + 1) live

-- the releases that wait to be categorised, by submission and release
abbrev pub tasks_of : Standing → List TaskName
tasks_of s = tasks_from 1 s.live

-- An entry is applied where it can stand behind the history. Otherwise, and where memory runs out, the state stays.
abbrev pub Applies : Setup → Standing → Entry → Result (Unit {0}) StepFault → Standing → Type 0
Applies setup s entry (Ok applied) s' = (is_lawful setup s entry ≡ true) × (s' ≡ state_after setup s entry)
Applies setup s entry (Err faults.NotLawful) s' = (is_lawful setup s entry ≡ false) × (s' ≡ s)
Applies setup s entry (Err faults.NoMemory) s' = s' ≡ s
