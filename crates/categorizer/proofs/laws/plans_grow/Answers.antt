use Rattle.categorizer.proofs.Keeping.{plans-grow}
use Rattle.categorizer.proofs.laws.plans_grow.Goals as goal

pub returns : goal.returns
returns c = plans-grow
