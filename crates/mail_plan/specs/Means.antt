-- What a planner makes of organisations, and what was made of an input.
use Rattle.std.specs.Prelude.{ℕ, Bool, List, Option, Result}
use Rattle.mail_plan.specs.Planning.{Input}
use Rattle.mail_plan.specs.declared.planner.OrgFault.{OrgFault}
use Rattle.mail_plan.specs.declared.release.Release.{Release}

-- what the texts of a directory and of rules read to, the texts of what was read, and by it the release of an input, whose domain
-- is accepted, and whether a journaling mailbox takes a target of mail of a sender, where None is the null sender
pub record Means (Org : Type 0) : Type 0 where
  pub reads : List ℕ → List ℕ → Result Org OrgFault
  pub directory_of : Org → List ℕ
  pub rules_of : Org → List ℕ
  pub release_of : Org → Input → Release
  pub inside : Org → List ℕ → Bool
  pub takes : Org → Option (List ℕ) → List ℕ → List ℕ → Bool

-- a release with the organisation and the input that it was made from
pub record Made (Org : Type 0) : Type 0 where
  pub org : Org
  pub input : Input
  pub release : Release
