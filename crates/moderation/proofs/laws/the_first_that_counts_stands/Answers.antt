use Rattle.moderation.proofs.Counting.{first_stands}
use Rattle.moderation.proofs.laws.the_first_that_counts_stands.Goals as goal

pub returns : goal.returns
returns c = first_stands
