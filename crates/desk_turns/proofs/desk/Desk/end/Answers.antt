use Rattle.std.proofs.Common.{length}
use Rattle.desk_turns.proofs.Steps.{same_stage}
use Rattle.desk_turns.proofs.desk.Desk.end.Goals as goal

pub give_back-requires-clause-returned : goal.give_back-requires-clause-returned
give_back-requires-clause-returned g c = (length c.args.token.now.me.0.seen, same_stage c.give_home.ensures.made.now)
