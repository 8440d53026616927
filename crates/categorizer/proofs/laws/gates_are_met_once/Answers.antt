use Rattle.categorizer.proofs.Keeping.{met_once}
use Rattle.categorizer.proofs.laws.gates_are_met_once.Goals as goal

pub returns : goal.returns
returns c = met_once
