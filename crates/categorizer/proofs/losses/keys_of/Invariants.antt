use Rattle.std.proofs.Common.{◌≡◌, ◌++◌, drop, map}
use Rattle.categorizer.specs.declared.parts.Rejection.{Rejection}
use Rattle.categorizer.proofs.losses.keys_of.Given as goal

abbrev pub invariant-loop-rejection : goal.invariant-loop-rejection
invariant-loop-rejection l =
    l.keys ++ map (λ (rejection : Rejection). rejection.key) (drop l.rejection-index l.rejections) ≡ map (λ (rejection : Rejection). rejection.key) l.rejections
