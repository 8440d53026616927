use Rattle.mail_names.proofs.Numbers.{one_item_name}
use Rattle.mail_names.proofs.laws.an_item_name_reads_back.Goals as goal

pub returns : goal.returns
returns c = one_item_name
