use Rattle.std.proofs.Common.{◌≡◌, ◌++◌, drop, filter}
use Rattle.std.specs.Prelude.{not}
use Rattle.categorizer.specs.declared.parts.Rejection.{Rejection}
use Rattle.categorizer.specs.Plan.{is_rejected}
use Rattle.categorizer.proofs.news.new_rejections.Given as goal

abbrev pub invariant-loop-rejection : goal.invariant-loop-rejection
invariant-loop-rejection l =
    l.new ++ filter (λ (rejection : Rejection). not (is_rejected l.before rejection.key)) (drop l.rejection-index l.now)
    ≡ filter (λ (rejection : Rejection). not (is_rejected l.before rejection.key)) l.now
