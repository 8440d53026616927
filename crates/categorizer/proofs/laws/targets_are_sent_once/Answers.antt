use Rattle.categorizer.proofs.Keeping.{sent_once}
use Rattle.categorizer.proofs.laws.targets_are_sent_once.Goals as goal

pub returns : goal.returns
returns c = sent_once
