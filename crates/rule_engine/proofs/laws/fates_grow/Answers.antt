use Rattle.rule_engine.proofs.Growing.{fate-grows}
use Rattle.rule_engine.proofs.laws.fates_grow.Goals as goal

pub returns : goal.returns
returns c = fate-grows
