use Rattle.pickup_box.specs.declared.addresses.Inside.TheVariants as inside
use Rattle.pickup_box.proofs.Joining.{join-pieces, whole-pieces}
use Rattle.pickup_box.proofs.laws.pieces_split_the_value.Goals as goal

pub returns-clause-joined : goal.returns-clause-joined
returns-clause-joined c = join-pieces inside.Nothing

pub returns-clause-whole : goal.returns-clause-whole
returns-clause-whole c = whole-pieces inside.Nothing
