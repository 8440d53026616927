use Rattle.categorizer.proofs.Journaling.{reported}
use Rattle.categorizer.proofs.laws.reports_list_what_is_taken.Goals as goal

pub returns : goal.returns
returns c = reported
