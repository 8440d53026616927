use Rattle.std.proofs.Common.{arith, ap, ◌∙◌}
use Rattle.desk_turns.proofs.Moves.{joins, settles}
use Rattle.desk_turns.proofs.Steps.{M, same_stage}
use Rattle.desk_turns.proofs.Unions.{unites}
use Rattle.desk_turns.proofs.desk.Desk.join.Goals as goal

pub join_seat-requires : goal.join_seat-requires
join_seat-requires g c =
    let t = c.args.self.now.table.shared in
    let size = c.args.self.now.sized.0 in
    (c.requires.one.0, c.requires.other.0, c.args.other.empty, omega arith, joins g.C.Deeds.does t.key.calls t.key.first.value c.args.one.token.id c.args.other.token.id c.args.one.token.me.0 c.args.other.token.me.0 c.args.one.idle c.args.other.idle)

pub load-requires : goal.load-requires
load-requires g c =
    let t = c.args.self.now.table.shared in
    let size = c.args.self.now.sized.0 in
    let e = c.join_seat.ensures in
    (e.0 ∙ c.requires.one.0, omega arith, settles g.C.Deeds.does t.key.calls t.key.first.value t.table_id.slots c.join_seat.new.seat.id c.join_seat.new.seat.me (same_stage e.2 ∙ c.args.one.idle))

pub returns-clause-both : goal.returns-clause-both
returns-clause-both g c =
    let t = c.args.self.now.table.shared in
    unites g.C.Deeds.does t.table_id.slots c.args.one.token.me.0 c.args.other.token.me.0 c.join_seat.new.seat.me c.load.new.seat.me c.load.result (ap (λ (z : M g.row.C.Denot g.row.E.Denot). z.0) c.join_seat.ensures.2) c.load.ensures.2
