use Rattle.categorizer.proofs.Keeping.{targets_once}
use Rattle.categorizer.proofs.laws.targets_stand_once.Goals as goal

pub returns : goal.returns
returns c = targets_once
