use Rattle.journal_report.proofs.Listing.{one_list}
use Rattle.journal_report.proofs.laws.lists_are_one.Goals as goal

pub returns : goal.returns
returns c = one_list
