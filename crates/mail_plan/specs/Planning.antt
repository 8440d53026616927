-- What a planner is asked for, and the form of what it gives.
use Rattle.std.specs.Prelude.{◌≡◌, ℕ, zero, suc, ◌+◌, ◌==◌, ◌&&◌, not, nat_lt, nat_le, Bool, true, false, if◌then◌else◌, List, [], ◌∷◌, ◌++◌, length, map, filter, take, bytes_eq, codes, Option, Some, None, unwrap_or, slice_get, ◌≤◌, Result, Ok, Err}
use Rattle.std.specs.List.{list_any}
use Rattle.mail_names.specs.Dates.{last_moment}
use Rattle.mail_names.specs.Gates.{same_gate}
use Rattle.mail_names.specs.declared.gate.Gate.{Gate}
use Rattle.mail_names.specs.declared.gate.Gate.TheVariants as gates
use Rattle.mail_names.specs.declared.name.ItemName.{ItemName}
use Rattle.mail_names.specs.declared.name.Mark.{Mark}
use Rattle.mail_names.specs.declared.name.Mark.TheVariants as marks
use Rattle.journal_report.specs.declared.parts.Line.{Line}
use Rattle.journal_report.specs.Listed.{OneLists}
use Rattle.mail_submission.specs.Fits.{IsSubmission}
use Rattle.mail_submission.specs.Submission.{Submitted}
use Rattle.mail_plan.specs.declared.planner.OrgFault.{OrgFault}
use Rattle.mail_plan.specs.declared.planner.OrgFault.TheVariants as faults
use Rattle.mail_plan.specs.declared.release.Hold.{Hold}
use Rattle.mail_plan.specs.declared.release.Item.{Item}
use Rattle.mail_plan.specs.declared.release.ItemKind.{ItemKind}
use Rattle.mail_plan.specs.declared.release.ItemKind.TheVariants as kinds
use Rattle.mail_plan.specs.declared.release.Release.{Release}

-- what a release is made from: the submission, the organisation's epoch, the moments of acceptance and of this release, and
-- the gates that were opened before it, if it isn't the first, and that are opened with it
pub record Input : Type 0 where
  pub number : ℕ
  pub release : ℕ
  pub epoch : ℕ
  pub accepted_at : ℕ
  pub made : ℕ
  pub before : Option (List Gate)
  pub opened : List Gate
  pub submission : Submitted

-- what holds of an input by its types: what is submitted can be, and the release is made by the last moment
pub record IsInput (input : Input) : Type 0 where
  pub submission : IsSubmission input.submission
  pub made : input.made ≤ last_moment

-- What a reading answers is what the texts read to, unless memory ran out.
abbrev pub Gives : {Org : Type 0} → Result Org OrgFault → Result Org OrgFault → Type 0
Gives (Ok org) read = read ≡ Ok org
Gives (Err (faults.Directory number row)) read = read ≡ Err (faults.Directory number row)
Gives (Err (faults.Rules number rule)) read = read ≡ Err (faults.Rules number rule)
Gives (Err faults.NoMemory) read = Unit {0}

-- the directory text of the organisation that stands before any other: the header record alone
abbrev pub first_directory : List ℕ
first_directory = codes "key,kind,members,owners,moderated,moderators,bypass,tell" ++ 13 ∷ 10 ∷ []

-- a gate stands among these
abbrev pub is_gate_among : Gate → List Gate → Bool
is_gate_among gate gates = list_any (same_gate gate) gates

abbrev pub are_distinct_gates : List Gate → Bool
are_distinct_gates [] = true
are_distinct_gates (gate ∷ gates) = not (is_gate_among gate gates) && are_distinct_gates gates

abbrev pub gates_of : List Hold → List Gate
gates_of holds = map (λ (hold : Hold). hold.gate) holds

abbrev pub is_among : List ℕ → List (List ℕ) → Bool
is_among key keys = list_any (bytes_eq key) keys

-- none stands twice
abbrev pub are_distinct : List (List ℕ) → Bool
are_distinct [] = true
are_distinct (key ∷ keys) = not (is_among key keys) && are_distinct keys

abbrev pub is_plain : Mark → Bool
is_plain marks.Plain = true
is_plain marks.Gate = false
is_plain marks.Delay = false
is_plain marks.Failure = false

-- the name of the item at a place of a release
abbrev pub is_at : ℕ → ℕ → ℕ → ItemName → Bool
is_at number release place name =
    (name.submission == number) && ((name.release == release) && ((name.place == place) && is_plain name.mark))

-- the items are named in order, from this place on
abbrev pub are_named : ℕ → ℕ → ℕ → List Item → Bool
are_named number release place [] = true
are_named number release place (item ∷ items) = is_at number release place item.name && are_named number release (place + 1) items

-- Texts are numbered in the order of their first use, behind so many, and each of `count` texts is used.
abbrev pub use_texts : ℕ → ℕ → List Item → Bool
use_texts used count [] = used == count
use_texts used count (item ∷ items) =
    if nat_lt item.text used then use_texts used count items
    else ((item.text == used) && use_texts (used + 1) count items)

-- each hold has 1 to 10 moderators
abbrev pub have_moderators : List Hold → Bool
have_moderators [] = true
have_moderators (hold ∷ holds) =
    nat_le 1 (length hold.moderators) && (nat_le (length hold.moderators) 10 && have_moderators holds)

-- the form of a release: items named in order, distinct texts in the order of first use, none without a use, and holds
-- with moderators
abbrev pub is_release : ℕ → ℕ → Release → Bool
is_release number release plan =
    are_named number release 0 plan.items
    && (use_texts 0 (length plan.texts) plan.items && (are_distinct plan.texts && have_moderators plan.holds))

abbrev pub is_version : ItemKind → Bool
is_version kinds.Version = true
is_version kinds.Report = false
is_version kinds.Request = false
is_version kinds.Notice = false

-- the targets of versions, in order
abbrev pub targets : List Item → List (List ℕ)
targets [] = []
targets (item ∷ items) = if is_version item.kind then item.folder ∷ targets items else targets items

-- the versions as a report lists them, in order: each target, and why it is one
abbrev pub lines_of : List Item → List Line
lines_of [] = []
lines_of (item ∷ items) =
    if is_version item.kind then record { target = item.folder; why = item.why } ∷ lines_of items else lines_of items

abbrev pub is_report : ItemKind → Bool
is_report kinds.Version = false
is_report kinds.Report = true
is_report kinds.Request = false
is_report kinds.Notice = false

abbrev pub is_report_to : List ℕ → Item → Bool
is_report_to mailbox item = is_report item.kind && bytes_eq mailbox item.folder

abbrev pub text_in : List (List ℕ) → Item → List ℕ
text_in texts item = unwrap_or (slice_get texts item.text) []

-- the texts of the reports to a mailbox, in order
abbrev pub reports_to : List ℕ → Release → List (List ℕ)
reports_to mailbox release = map (text_in release.texts) (filter (is_report_to mailbox) release.items)

-- the versions that a mailbox takes, where it takes such targets
abbrev pub lines_taken : (List ℕ → Bool) → Release → List Line
lines_taken takes release = filter (λ (line : Line). takes line.target) (lines_of release.items)

-- Each mailbox that takes a version gets one report, which lists exactly the versions that it takes, in their order. Any
-- other gets none.
abbrev pub Reports : (List ℕ → List ℕ → Bool) → Release → Type 0
Reports takes release = (mailbox : List ℕ) → OneLists (reports_to mailbox release) (lines_taken (takes mailbox) release)

-- One submission; all that was opened with the earlier release was opened before the later one.
pub record Continues (earlier later : Input) : Type 0 where
  pub number : later.number ≡ earlier.number
  pub epoch : later.epoch ≡ earlier.epoch
  pub accepted_at : later.accepted_at ≡ earlier.accepted_at
  pub submission : later.submission ≡ earlier.submission
  pub more : List Gate
  pub opened : later.before ≡ Some (earlier.opened ++ more)
  pub rest : List Gate
  pub goes_on : later.opened ≡ (earlier.opened ++ more) ++ rest

-- a gate that an approval opened, and when
pub record Opening : Type 0 where
  pub gate : Gate
  pub moment : ℕ

abbrev pub gates_opened : List Opening → List Gate
gates_opened openings = map (λ (opening : Opening). opening.gate) openings

-- the gates that were opened before this release, where these were opened in order
abbrev pub before_at : List Opening → ℕ → Option (List Gate)
before_at openings zero = None
before_at openings (suc release) = Some (take release (gates_opened openings))

abbrev pub moment_or : ℕ → Option Opening → ℕ
moment_or moment None = moment
moment_or moment (Some opening) = opening.moment

-- the moment of this release, where that of the first is given: that of the opening that made it
abbrev pub made_at : ℕ → List Opening → ℕ → ℕ
made_at first openings zero = first
made_at first openings (suc release) = moment_or first (slice_get openings release)

-- the input of this release of a submission
abbrev pub input_at : Input → List Opening → ℕ → Input
input_at base openings release = record base {
  release = release;
  made = made_at base.made openings release;
  before = before_at openings release;
  opened = take release (gates_opened openings);
}

-- the input of the first release of a submission of this number, which was accepted at this moment in this epoch
abbrev pub first_input : ℕ → ℕ → ℕ → Submitted → Input
first_input number epoch moment submission = record {
  number = number;
  release = 0;
  epoch = epoch;
  accepted_at = moment;
  made = moment;
  before = None;
  opened = [];
  submission = submission;
}

-- the targets of the first releases, so many
abbrev pub all_targets : (Input → Release) → Input → List Opening → ℕ → List (List ℕ)
all_targets release_of base approved zero = []
all_targets release_of base approved (suc release) =
    all_targets release_of base approved release ++ targets (release_of (input_at base approved release)).items
