use Rattle.std.specs.Prelude.{codes}
use Rattle.pickup_box.proofs.Naming.{ending_found, ending_only}
use Rattle.pickup_box.proofs.laws.new_names_are_told.Goals as goal

pub returns-clause-found : goal.returns-clause-found
returns-clause-found c = ending_found (codes ".eml")

pub returns-clause-only : goal.returns-clause-only
returns-clause-only c name stem e = ending_only (codes ".eml") stem name e
