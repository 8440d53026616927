use Rattle.moderation.proofs.Counting.{first_in_time, none_in_time}
use Rattle.moderation.proofs.laws.the_first_decision_in_time_counts.Goals as goal

pub returns-clause-some : goal.returns-clause-some
returns-clause-some c = first_in_time

pub returns-clause-none : goal.returns-clause-none
returns-clause-none c = none_in_time
