use Rattle.mail_names.proofs.Numbers.{one_approval_name}
use Rattle.mail_names.proofs.laws.an_approval_name_reads_back.Goals as goal

pub returns : goal.returns
returns c = one_approval_name
