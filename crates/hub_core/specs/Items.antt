-- The items that a history prescribes, from what it accepted and decided, and those of them that it delivered.
use Rattle.std.specs.Prelude.{◌≡◌, ◌⊎◌, ℕ, zero, suc, ◌+◌, ◌-◌, ◌≤◌, true, List, [], ◌∷◌, ◌++◌, length, fold, slice_get, Option, Some, None}
use Rattle.mail_names.specs.declared.gate.Gate.{Gate}
use Rattle.mail_names.specs.declared.name.ApprovalName.{ApprovalName}
use Rattle.mail_names.specs.declared.name.ItemName.{ItemName}
use Rattle.moderation.specs.declared.approval.Verdict.{Verdict}
use Rattle.moderation.specs.declared.approval.Verdict.TheVariants as verdicts
use Rattle.mail_plan.specs.Planning.{Opening, first_input, input_at, gates_of}
use Rattle.mail_submission.specs.Submission.{Submitted}
use Rattle.log_entry.specs.declared.entry.Entry.{Entry}
use Rattle.log_entry.specs.declared.entry.Entry.TheVariants as entries
use Rattle.mail_plan.specs.declared.release.Release.{Release}
use Rattle.hub_core.specs.declared.queue.QueuedItem.{QueuedItem}
use Rattle.hub_core.specs.Setup.{Texts, Setup, first_org}
use Rattle.hub_core.specs.Approvals.{changed}
use Rattle.hub_core.specs.Standing.{Standing, start, standing, state_after, told_by, is_lawful, queued_all}

-- a submission as it was accepted: its moment, the organisation that stood then, by its epoch and its texts, and the gates
-- that were opened for it since, in order
pub record Accepted : Type 0 where
  pub submission : Submitted
  pub moment : ℕ
  pub epoch : ℕ
  pub org : Texts
  pub opened : List Opening

-- what entries say of submissions: the organisation that stands behind them, by its epoch and its texts, and the submissions
-- that they accept, in order
pub record Past : Type 0 where
  pub epoch : ℕ
  pub org : Texts
  pub accepted : List Accepted

abbrev pub no_past : Past
no_past = record { epoch = 0; org = first_org; accepted = [] }

-- a release of a submission of this number, by the organisation that stood when it was accepted
abbrev pub release_for : Setup → ℕ → Accepted → ℕ → Release
release_for setup number a release =
    setup.release_of a.org (input_at (first_input number a.epoch a.moment a.submission) a.opened release)

abbrev pub opening_of : Option Gate → ℕ → List Opening
opening_of None moment = []
opening_of (Some gate) moment = (record { gate = gate; moment = moment }) ∷ []

-- An approval opens the gate that its release holds at its place.
abbrev pub with_opening : Setup → ApprovalName → ℕ → Accepted → Accepted
with_opening setup name moment a =
    record a { opened = a.opened ++ opening_of (slice_get (gates_of (release_for setup name.submission a name.release).holds) name.gate) moment }

abbrev pub decided_past : Setup → ApprovalName → Verdict → ℕ → List Accepted → List Accepted
decided_past setup name verdicts.Approve moment all = changed (with_opening setup name moment) (name.submission - 1) all
decided_past setup name verdicts.Reject moment all = all

-- with an entry
abbrev pub past_after : Setup → Past → Entry → Past
past_after setup p (entries.Organised directory rules) =
    record p { epoch = p.epoch + 1; org = record { directory = directory; rules = rules } }
past_after setup p (entries.Accepted moment submission) =
    record p {
      accepted = p.accepted ++ (record { submission = submission; moment = moment; epoch = p.epoch; org = p.org; opened = [] }) ∷ [];
    }
past_after setup p (entries.Categorised number release plan) = p
past_after setup p (entries.Decided name by verdict moment) =
    record p { accepted = decided_past setup name verdict moment p.accepted }
past_after setup p (entries.Moment moment) = p
past_after setup p (entries.Delivered name) = p
past_after setup p (entries.Delayed name) = p
past_after setup p (entries.Ended name) = p
past_after setup p (entries.Forgot number) = p

abbrev pub past : Setup → List Entry → Past
past setup history = fold (past_after setup) no_past history

-- the submissions that were accepted, in order
abbrev pub accepted : Setup → List Entry → List Accepted
accepted setup history = (past setup history).accepted

-- the items of the first releases of a submission, so many
abbrev pub items_to : Setup → ℕ → Accepted → ℕ → List QueuedItem
items_to setup number a zero = []
items_to setup number a (suc release) = items_to setup number a release ++ queued_all (release_for setup number a release)

-- the items of these submissions, the first of which has this number: each has a release, and one for each gate that was opened
abbrev pub items_of : Setup → ℕ → List Accepted → List QueuedItem
items_of setup number [] = []
items_of setup number (a ∷ more) = items_to setup number a (suc (length a.opened)) ++ items_of setup (number + 1) more

-- the notices that entries make behind those that left this state
abbrev pub notices_from : Setup → Standing → List Entry → List QueuedItem
notices_from setup s [] = []
notices_from setup s (entry ∷ history) = told_by setup s entry ++ notices_from setup (state_after setup s entry) history

-- the items that a history prescribes: those of releases, and the notices of approvals that were refused or ran out and of
-- versions that are late or were given up
abbrev pub items : Setup → List Entry → List QueuedItem
items setup history = items_of setup 1 (accepted setup history) ++ notices_from setup (start setup) history

-- the item is one of these
abbrev pub Among : QueuedItem → List QueuedItem → Type 0
Among item [] = ⊥
Among item (other ∷ others) = (item ≡ other) ⊎ Among item others

-- the history says that the item of this name is in its folder
abbrev pub IsDelivered : ItemName → List Entry → Type 0
IsDelivered name [] = ⊥
IsDelivered name (entries.Delivered other ∷ history) = (name ≡ other) ⊎ IsDelivered name history
IsDelivered name (entries.Organised directory rules ∷ history) = IsDelivered name history
IsDelivered name (entries.Accepted moment submission ∷ history) = IsDelivered name history
IsDelivered name (entries.Categorised number release plan ∷ history) = IsDelivered name history
IsDelivered name (entries.Decided approval by verdict moment ∷ history) = IsDelivered name history
IsDelivered name (entries.Moment moment ∷ history) = IsDelivered name history
IsDelivered name (entries.Delayed other ∷ history) = IsDelivered name history
IsDelivered name (entries.Ended other ∷ history) = IsDelivered name history
IsDelivered name (entries.Forgot number ∷ history) = IsDelivered name history

-- the history says that the item of this name was given up
abbrev pub IsEnded : ItemName → List Entry → Type 0
IsEnded name [] = ⊥
IsEnded name (entries.Ended other ∷ history) = (name ≡ other) ⊎ IsEnded name history
IsEnded name (entries.Organised directory rules ∷ history) = IsEnded name history
IsEnded name (entries.Accepted moment submission ∷ history) = IsEnded name history
IsEnded name (entries.Categorised number release plan ∷ history) = IsEnded name history
IsEnded name (entries.Decided approval by verdict moment ∷ history) = IsEnded name history
IsEnded name (entries.Moment moment ∷ history) = IsEnded name history
IsEnded name (entries.Delivered other ∷ history) = IsEnded name history
IsEnded name (entries.Delayed other ∷ history) = IsEnded name history
IsEnded name (entries.Forgot number ∷ history) = IsEnded name history

-- A Categorised entry carries the release of an accepted submission.
abbrev pub CarriesRelease : Setup → List Entry → Entry → Type 0
CarriesRelease setup before (entries.Categorised number release plan) =
    (a : Accepted) × (1 ≤ number) × (slice_get (accepted setup before) (number - 1) ≡ Some a) × (release ≤ length a.opened)
    × (plan ≡ release_for setup number a release)
CarriesRelease setup before (entries.Organised directory rules) = Unit {0}
CarriesRelease setup before (entries.Accepted moment submission) = Unit {0}
CarriesRelease setup before (entries.Decided name by verdict moment) = Unit {0}
CarriesRelease setup before (entries.Moment moment) = Unit {0}
CarriesRelease setup before (entries.Delivered name) = Unit {0}
CarriesRelease setup before (entries.Delayed name) = Unit {0}
CarriesRelease setup before (entries.Ended name) = Unit {0}
CarriesRelease setup before (entries.Forgot number) = Unit {0}

-- An entry can stand behind this history.
abbrev pub IsStep : Setup → List Entry → Entry → Type 0
IsStep setup before entry = (is_lawful setup (standing setup before) entry ≡ true) × CarriesRelease setup before entry

-- Each of these entries can stand behind those before it.
abbrev pub AreSteps : Setup → List Entry → List Entry → Type 0
AreSteps setup before [] = Unit {0}
AreSteps setup before (entry ∷ entries) = IsStep setup before entry × AreSteps setup (before ++ entry ∷ []) entries

-- a list of entries, each lawful after those before it on a hub that is set up so, in which each release is the one that is
-- prescribed
abbrev pub IsHistory : Setup → List Entry → Type 0
IsHistory setup history = AreSteps setup [] history
