use Rattle.mail_message.proofs.HeaderLines.{told, tested}
use Rattle.mail_message.proofs.laws.header_lines_are_told.Goals as goal

pub returns-clause-found : goal.returns-clause-found
returns-clause-found c = told

pub returns-clause-only : goal.returns-clause-only
returns-clause-only c = tested
