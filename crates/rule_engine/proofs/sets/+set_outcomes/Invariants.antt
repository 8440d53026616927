use Rattle.std.proofs.Common.{length}
use Rattle.rule_engine.proofs.sets.+set_outcomes.Given as goal

abbrev pub decreases-set_outcomes : goal.decreases-set_outcomes
decreases-set_outcomes l = length l.rules.now
