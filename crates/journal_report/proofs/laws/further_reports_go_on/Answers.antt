use Rattle.journal_report.proofs.Listing.{go_on}
use Rattle.journal_report.proofs.laws.further_reports_go_on.Goals as goal

pub returns : goal.returns
returns c = go_on
