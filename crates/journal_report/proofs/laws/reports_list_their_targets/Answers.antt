use Rattle.journal_report.proofs.Listing.{lists}
use Rattle.journal_report.proofs.laws.reports_list_their_targets.Goals as goal

pub returns : goal.returns
returns c = lists
