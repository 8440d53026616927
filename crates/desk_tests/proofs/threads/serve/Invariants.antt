use Rattle.std.proofs.Common.{◌≡◌}
use Rattle.desk_turns.specs.Desks.{IsOf}
use Rattle.desk_tests.proofs.threads.serve.Given as goal

abbrev pub invariant-loop-ask : goal.invariant-loop-ask
invariant-loop-ask g l = IsOf l.desk l.seat.token × (l.seat.token.id ≡ l.initial.seat.token.id)
