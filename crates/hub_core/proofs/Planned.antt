-- What the planner's laws say of the releases of a hub that is set up over it.
use Rattle.std.proofs.Common.{◌≡◌, ℕ, ◌<◌, Bool, true, false, List, Option, Result, Ok, Err, refl}
use Rattle.mail_plan.specs.Fits.{IsRelease}
use Rattle.mail_plan.specs.Means.{Means}
use Rattle.mail_plan.specs.Planning.{Input, IsInput, Opening, Reports, is_among, are_distinct, targets, input_at}
use Rattle.mail_plan.specs.declared.planner.OrgFault.{OrgFault}
use Rattle.mail_plan.specs.declared.release.Release.{Release}
use Rattle.hub_core.specs.declared.limits.Limits.{Limits}
use Rattle.hub_core.specs.Setup.{Texts, Setup, release_in, takes_in, setup_of}

-- A release that an entry can hold is reported.
abbrev pub AreReportedBy : (Input → Release) → (Option (List ℕ) → List ℕ → List ℕ → Bool) → Type 0
AreReportedBy release_of takes = (input : Input) → IsInput input → IsRelease (release_of input) → Reports (takes input.submission.reverse) (release_of input)

-- A release sends to no target twice.
abbrev pub SendOnce : (Input → Release) → Type 0
SendOnce release_of = (input : Input) → are_distinct (targets (release_of input).items) ≡ true

-- What a release of a submission sends to, no later one sends to.
abbrev pub SendApart : (Input → Release) → Type 0
SendApart release_of = (base : Input) (opened : List Opening) (earlier later : ℕ) (key : List ℕ) → earlier < later →
    is_among key (targets (release_of (input_at base opened earlier)).items) ≡ true → is_among key (targets (release_of (input_at base opened later)).items) ≡ false

-- all this, of the organisation of any texts
pub record IsPlanned (setup : Setup) : Type 0 where
  pub reported : (texts : Texts) → AreReportedBy (setup.release_of texts) (setup.takes texts)
  pub once : (texts : Texts) → SendOnce (setup.release_of texts)
  pub apart : (texts : Texts) → SendApart (setup.release_of texts)

module _ {Org : Type 0} (release_of : Org → Input → Release) where
  reported-read : (takes : Org → Option (List ℕ) → List ℕ → List ℕ → Bool) → ((org : Org) → AreReportedBy (release_of org) (takes org)) → (read : Result Org OrgFault) →
      AreReportedBy (release_in release_of read) (takes_in takes read)
  reported-read takes law (Ok org) input fits lawful = law org input fits lawful
  reported-read takes law (Err fault) input fits lawful = λ mailbox. refl

  once-read : ((org : Org) → SendOnce (release_of org)) → (read : Result Org OrgFault) → SendOnce (release_in release_of read)
  once-read law (Ok org) input = law org input
  once-read law (Err fault) input = refl

  apart-read : ((org : Org) → SendApart (release_of org)) → (read : Result Org OrgFault) → SendApart (release_in release_of read)
  apart-read law (Ok org) base opened earlier later key below h = law org base opened earlier later key below h
  apart-read law (Err fault) base opened earlier later key below h = refl

-- It holds of the setup of a hub over the planner.
pub is-planned : {Org : Type 0} (means : Means Org) (limits : Limits) → ((org : Org) → AreReportedBy (means.release_of org) (means.takes org)) →
    ((org : Org) → SendOnce (means.release_of org)) → ((org : Org) → SendApart (means.release_of org)) → IsPlanned (setup_of means limits)
is-planned means limits reported once apart = record {
  reported = λ texts. reported-read means.release_of means.takes reported (means.reads texts.directory texts.rules);
  once = λ texts. once-read means.release_of once (means.reads texts.directory texts.rules);
  apart = λ texts. apart-read means.release_of apart (means.reads texts.directory texts.rules);
}
