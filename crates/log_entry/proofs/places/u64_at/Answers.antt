use Rattle.log_entry.specs.EntryText.{le64}
use Rattle.log_entry.proofs.Numbers.{length-le64}
use Rattle.log_entry.proofs.places.u64_at.Goals as goal

pub returns-in-None : goal.returns-in-None
returns-in-None c = λ n end small stands. c.in-None.ensures.none (le64 n) end (length-le64 n) stands
