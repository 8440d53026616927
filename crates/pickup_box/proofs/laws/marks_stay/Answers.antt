use Rattle.pickup_box.proofs.Marking.{marks_same}
use Rattle.pickup_box.proofs.laws.marks_stay.Goals as goal

pub returns : goal.returns
returns c = marks_same
