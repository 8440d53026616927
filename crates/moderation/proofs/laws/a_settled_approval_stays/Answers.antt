use Rattle.moderation.proofs.Counting.{settled}
use Rattle.moderation.proofs.laws.a_settled_approval_stays.Goals as goal

pub returns : goal.returns
returns c = settled
