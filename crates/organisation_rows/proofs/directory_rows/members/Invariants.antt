-- The ledger that the blank opens.
use Rattle.organisation_rows.proofs.directory_rows.members.Given as goal

abbrev pub ghosts-add_members : goal.ghosts-add_members
ghosts-add_members a = record { name = a.blank.name; parts = a.blank.parts }
