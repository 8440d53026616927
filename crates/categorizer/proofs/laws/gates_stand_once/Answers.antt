use Rattle.categorizer.proofs.Keeping.{gates_once}
use Rattle.categorizer.proofs.laws.gates_stand_once.Goals as goal

pub returns : goal.returns
returns c = gates_once
