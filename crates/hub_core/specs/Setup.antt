-- How a hub is set up: the limits that it is held to, and what its planner makes of organisations.
use Rattle.std.specs.Prelude.{ℕ, Bool, false, List, [], Option, Some, None, Result, Ok, Err}
use Rattle.mail_plan.specs.Means.{Means}
use Rattle.mail_plan.specs.Planning.{Input, first_directory}
use Rattle.mail_plan.specs.declared.planner.OrgFault.{OrgFault}
use Rattle.mail_plan.specs.declared.release.Release.{Release}
use Rattle.hub_core.specs.declared.limits.Limits.{Limits}

-- the texts of an organisation
pub record Texts : Type 0 where
  pub directory : List ℕ
  pub rules : List ℕ

abbrev pub texts_of : {Org : Type 0} → Means Org → Org → Texts
texts_of means org = record { directory = means.directory_of org; rules = means.rules_of org }

-- the organisation that stands before any other: it has no objects and no rules
abbrev pub first_org : Texts
first_org = record { directory = first_directory; rules = [] }

-- the limits, the fault of texts that are no organisation's, and of the organisation of texts the release of an input, who is
-- inside, and which targets of a sender's mail a journaling mailbox takes
pub record Setup : Type 0 where
  pub limits : Limits
  pub fault_of : Texts → Option OrgFault
  pub release_of : Texts → Input → Release
  pub inside : Texts → List ℕ → Bool
  pub takes : Texts → Option (List ℕ) → List ℕ → List ℕ → Bool

abbrev pub no_release : Release
no_release = record { texts = []; items = []; holds = []; ends = [] }

abbrev pub fault_in : {Org : Type 0} → Result Org OrgFault → Option OrgFault
fault_in (Ok org) = None
fault_in (Err fault) = Some fault

abbrev pub release_in : {Org : Type 0} → (Org → Input → Release) → Result Org OrgFault → Input → Release
release_in release_of (Ok org) input = release_of org input
release_in release_of (Err fault) input = no_release

abbrev pub inside_in : {Org : Type 0} → (Org → List ℕ → Bool) → Result Org OrgFault → List ℕ → Bool
inside_in inside (Ok org) key = inside org key
inside_in inside (Err fault) key = false

abbrev pub takes_in : {Org : Type 0} → (Org → Option (List ℕ) → List ℕ → List ℕ → Bool) → Result Org OrgFault → Option (List ℕ) → List ℕ → List ℕ → Bool
takes_in takes (Ok org) sender mailbox target = takes org sender mailbox target
takes_in takes (Err fault) sender mailbox target = false

-- the setup of a hub over a planner that makes this of organisations
abbrev pub setup_of : {Org : Type 0} → Means Org → Limits → Setup
setup_of means limits = record {
  limits = limits;
  fault_of = λ texts. fault_in (means.reads texts.directory texts.rules);
  release_of = λ texts input. release_in means.release_of (means.reads texts.directory texts.rules) input;
  inside = λ texts key. inside_in means.inside (means.reads texts.directory texts.rules) key;
  takes = λ texts sender mailbox target. takes_in means.takes (means.reads texts.directory texts.rules) sender mailbox target;
}
