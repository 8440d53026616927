use Rattle.std.proofs.Common.{refl, arith, ◌∙◌}
use Rattle.desk_turns.proofs.Moves.{draws}
use Rattle.desk_turns.proofs.Steps.{same_stage, drew_none}
use Rattle.desk_turns.proofs.desk.Desk.draw_ticket.Goals as goal

pub compare_exchange-found-requires : goal.compare_exchange-found-requires
compare_exchange-found-requires g c =
    let t = c.args.self.now.table.shared in
    let size = c.args.self.now.sized.0 in
    let i = c.loop.invariant in
    let room = c.if-drawn-self.false in
    let is = c.args.self.now.calls_is in
    (i.2 ∙ c.requires.own.0, omega arith, draws g.C.Deeds.does t.key.calls t.key.first.value t.table_id.slots c.loop.token.id c.loop.token.me c.peek-drawn.result _ (same_stage i.4 ∙ c.requires.idle) refl (omega arith))

pub loop-preserved : goal.loop-preserved
loop-preserved g c =
    let i = c.loop.invariant in
    let e = c.compare_exchange-found.ensures in
    (tt, tt, e.0 ∙ i.2, e.1 ∙ i.3, drew_none _ c.compare_exchange-found.result c.loop.token.me c.compare_exchange-found.new.seat.me c.if-found-drawn.false e.2 ∙ i.4)

pub returns-then-drawn-self-clause-own : goal.returns-then-drawn-self-clause-own
returns-then-drawn-self-clause-own g c = let i = c.loop.invariant in (i.2, i.3)
