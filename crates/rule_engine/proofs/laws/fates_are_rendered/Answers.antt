use Rattle.rule_engine.proofs.Rendering.{fates-rendered}
use Rattle.rule_engine.proofs.laws.fates_are_rendered.Goals as goal

pub returns : goal.returns
returns c = fates-rendered
