use Rattle.desk_turns.proofs.Steps.{same_stage}
use Rattle.desk_turns.proofs.desk.Desk.begin.Goals as goal

pub take_out-requires-clause-turn : goal.take_out-requires-clause-turn
take_out-requires-clause-turn g c = (_, same_stage c.wait_for_turn.ensures.turn)
