use Rattle.pickup_box.proofs.Naming.{begun_found, begun_only}
use Rattle.pickup_box.proofs.laws.begun_names_are_told.Goals as goal

pub returns-clause-found : goal.returns-clause-found
returns-clause-found c = begun_found

pub returns-clause-only : goal.returns-clause-only
returns-clause-only c = begun_only
