use Rattle.std.proofs.Common.{◌≡◌, ◌++◌, drop, map}
use Rattle.org_directory.specs.Reading.{place_or_0}
use Rattle.org_directory.proofs.second_pass.places.Given as goal

abbrev pub invariant-loop-i : goal.invariant-loop-i
invariant-loop-i l = l.places ++ map (place_or_0 l.named) (drop l.i l.list) ≡ map (place_or_0 l.named) l.list
