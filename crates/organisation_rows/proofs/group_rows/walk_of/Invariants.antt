-- The ledger that the blank opens.
use Rattle.organisation_rows.proofs.group_rows.walk_of.Given as goal

abbrev pub ghosts-walked : goal.ghosts-walked
ghosts-walked a = record { name = a.blank.name; parts = a.blank.parts }
