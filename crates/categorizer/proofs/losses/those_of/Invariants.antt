use Rattle.std.proofs.Common.{◌≡◌, ◌++◌, ◌==◌, drop, filter}
use Rattle.categorizer.specs.declared.parts.Rejection.{Rejection}
use Rattle.categorizer.proofs.losses.those_of.Given as goal

abbrev pub invariant-loop-rejection : goal.invariant-loop-rejection
invariant-loop-rejection l =
    l.those ++ filter (λ (rejection : Rejection). rejection.rule == l.rule) (drop l.rejection-index l.rejections)
    ≡ filter (λ (rejection : Rejection). rejection.rule == l.rule) l.rejections
