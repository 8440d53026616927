use Rattle.std.proofs.Common.{arith}
use Rattle.desk_turns.proofs.Moves.{splits}
use Rattle.desk_turns.proofs.desk.Desk.split.Goals as goal

pub split_seat-other-requires : goal.split_seat-other-requires
split_seat-other-requires g c =
    let t = c.args.self.now.table.shared in
    let size = c.args.self.now.sized.0 in
    (c.requires.0, omega arith, splits g.C.Deeds.does t.key.calls t.key.first.value c.args.seat.token.id c.args.seat.token.me.0 c.args.seat.idle)
