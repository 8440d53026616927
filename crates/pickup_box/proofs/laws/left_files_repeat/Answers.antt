use Rattle.pickup_box.proofs.Repeating.{repeats, stays}
use Rattle.pickup_box.proofs.laws.left_files_repeat.Goals as goal

pub returns : goal.returns
returns c = record { bytes = stays; repeat = repeats }
