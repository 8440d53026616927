use Rattle.log_entry.specs.EntryText.{le32}
use Rattle.log_entry.proofs.Numbers.{length-le32}
use Rattle.log_entry.proofs.places.u32_at.Goals as goal

pub returns-in-None : goal.returns-in-None
returns-in-None c = λ n end small stands. c.in-None.ensures.none (le32 n) end (length-le32 n) stands
