-- What the planner's laws say of the setup of a hub.
use Rattle.std.proofs.Common.{◌≡◌, ℕ, zero, suc, true, List, [], ◌++◌, refl, ap, ◌∙◌, Result, Ok, Err}
use Rattle.mail_plan.specs.Means.{Means}
use Rattle.mail_plan.specs.Planning.{Input, Opening, is_release, are_distinct, all_targets}
use Rattle.mail_plan.specs.declared.planner.OrgFault.{OrgFault}
use Rattle.mail_plan.specs.declared.release.Release.{Release}
use Rattle.hub_core.specs.declared.limits.Limits.{Limits}
use Rattle.hub_core.specs.Setup.{Texts, no_release, release_in, setup_of}
use Rattle.hub_core.proofs.Unique.{AreReleases}

no-targets : (base : Input) (opened : List Opening) (count : ℕ) → all_targets (λ (input : Input). no_release) base opened count ≡ []
no-targets base opened zero = refl
no-targets base opened (suc count) = ap (λ (keys : List (List ℕ)). keys ++ []) (no-targets base opened count)

-- Where each organisation's releases send to a target once, those of what texts read to do.
pub targets-read : {Org : Type 0} (release_of : Org → Input → Release) →
    ((org : Org) (base : Input) (opened : List Opening) (count : ℕ) → are_distinct (all_targets (release_of org) base opened count) ≡ true) → (read : Result Org OrgFault)
    (base : Input) (opened : List Opening) (count : ℕ) → are_distinct (all_targets (release_in release_of read) base opened count) ≡ true
targets-read release_of once (Ok org) base opened count = once org base opened count
targets-read release_of once (Err fault) base opened count = ap are_distinct (no-targets base opened count)

module _ {Org : Type 0} (means : Means Org) where
  -- an organisation has the texts that it was read from
  abbrev pub OwnTexts : Type 0
  OwnTexts = (org : Org) (directory rules : List ℕ) → means.reads directory rules ≡ Ok org → (means.directory_of org ≡ directory) × (means.rules_of org ≡ rules)

  -- the releases of an organisation that was read have their form
  abbrev pub MakesReleases : Type 0
  MakesReleases = (org : Org) (input : Input) → means.reads (means.directory_of org) (means.rules_of org) ≡ Ok org →
      is_release input.number input.release (means.release_of org input) ≡ true

  read-lawful : OwnTexts → MakesReleases → (texts : Texts) (input : Input) (read : Result Org OrgFault) → means.reads texts.directory texts.rules ≡ read →
      is_release input.number input.release (release_in means.release_of read input) ≡ true
  read-lawful own lawful texts input (Ok org) is =
      let same = own org texts.directory texts.rules is in
      lawful org input ((λ i. means.reads (same.0 i) (same.1 i)) ∙ is)
  read-lawful own lawful texts input (Err fault) is = refl

  pub are-releases : OwnTexts → MakesReleases → (limits : Limits) → AreReleases (setup_of means limits)
  are-releases own lawful limits texts input = read-lawful own lawful texts input (means.reads texts.directory texts.rules) refl
