use Rattle.log_entry.proofs.Forms.{one_key}
use Rattle.log_entry.proofs.read.get_keys.Goals as goal

pub list_at-requires : goal.list_at-requires
list_at-requires c = one_key
