use Rattle.journal_report.proofs.Listing.{one_together}
use Rattle.journal_report.proofs.laws.together_are_one.Goals as goal

pub returns : goal.returns
returns c = one_together
