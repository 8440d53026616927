use Rattle.std.proofs.Common.{◌≡◌, map}
use Rattle.org_directory.specs.Reading.{placed}
use Rattle.org_directory.proofs.second_pass.all_placed.Given as goal

abbrev pub invariant-loop-draft : goal.invariant-loop-draft
invariant-loop-draft l = l.objects ≡ map (placed l.named) l.yielded
