use Rattle.moderation.proofs.Counting.{later_told}
use Rattle.moderation.proofs.laws.later_deciders_are_told_of_the_first.Goals as goal

pub returns : goal.returns
returns c = later_told
