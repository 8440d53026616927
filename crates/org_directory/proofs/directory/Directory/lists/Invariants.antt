use Rattle.std.proofs.Common.{◌≡◌, drop}
use Rattle.org_directory.specs.Register.{among, keys_at}
use Rattle.org_directory.proofs.directory.Directory.lists.Given as goal

abbrev pub invariant-loop-place : goal.invariant-loop-place
invariant-loop-place l = among l.key (keys_at l.self (drop l.place-index l.places)) ≡ among l.key (keys_at l.self l.places)
