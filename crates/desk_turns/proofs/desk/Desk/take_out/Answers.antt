use Rattle.std.proofs.Common.{arith, ◌∙◌}
use Rattle.desk_turns.proofs.Moves.{takes_out}
use Rattle.desk_turns.proofs.Steps.{took_slot}
use Rattle.desk_turns.proofs.desk.Desk.take_out.Goals as goal

pub swap-requires : goal.swap-requires
swap-requires g c =
    let t = c.args.self.now.table.shared in
    let size = c.args.self.now.sized.0 in
    (c.requires.own.0, omega arith, takes_out g.C.Deeds.does t.key.calls t.key.first.value t.table_id.slots c.args.token.now.id c.args.token.now.me c.requires.turn.0 c.requires.turn.1)

pub exchange-requires : goal.exchange-requires
exchange-requires g c =
    (c.swap.ensures.0 ∙ c.requires.own.0, took_slot g.C.Deeds.does c.args.self.now.table.shared.table_id.slots c.args.token.now.me c.swap.new.seat.me c.swap.result c.requires.turn.0 c.requires.turn.1 c.swap.ensures.2)
