use Rattle.journal_report.proofs.Listing.{one_lists}
use Rattle.journal_report.proofs.laws.one_lists_together.Goals as goal

pub returns : goal.returns
returns c = one_lists
