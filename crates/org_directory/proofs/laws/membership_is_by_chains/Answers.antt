use Rattle.org_directory.proofs.Chains.{in-is-computed}
use Rattle.org_directory.proofs.laws.membership_is_by_chains.Goals as goal

pub returns : goal.returns
returns c = in-is-computed
