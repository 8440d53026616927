use Rattle.std.proofs.Common.{◌≡◌, ◌++◌, drop}
use Rattle.org_directory.specs.Register.{keys_at}
use Rattle.categorizer.proofs.holds.keys_at.Given as goal

abbrev pub invariant-loop-place : goal.invariant-loop-place
invariant-loop-place l = l.keys ++ keys_at l.directory (drop l.place-index l.places) ≡ keys_at l.directory l.places
