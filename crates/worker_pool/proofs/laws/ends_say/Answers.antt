use Rattle.worker_pool.proofs.Saying.{work_says}
use Rattle.worker_pool.proofs.laws.ends_say.Goals as goal

pub returns-clause-most : goal.returns-clause-most
returns-clause-most g c = λ planned residue workers turns made end is. (work_says planned residue workers turns made end is).0

pub returns-clause-says : goal.returns-clause-says
returns-clause-says g c = λ planned residue workers turns made end is. (work_says planned residue workers turns made end is).1
