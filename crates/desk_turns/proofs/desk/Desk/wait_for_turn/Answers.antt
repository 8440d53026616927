use Rattle.std.proofs.Common.{arith, ◌∙◌}
use Rattle.desk_turns.proofs.Moves.{comes}
use Rattle.desk_turns.proofs.Steps.{same_stage, came_not, came_now}
use Rattle.desk_turns.proofs.desk.Desk.wait_for_turn.Goals as goal

pub load-served-requires : goal.load-served-requires
load-served-requires g c =
    let t = c.args.self.now.table.shared in
    let size = c.args.self.now.sized.0 in
    let i = c.loop.invariant in
    (i.2 ∙ c.requires.own.0, omega arith, comes g.C.Deeds.does t.key.calls t.key.first.value t.table_id.slots c.loop.token.id c.loop.token.me c.args.ticket (same_stage i.4 ∙ c.requires.waiting))

pub loop-preserved : goal.loop-preserved
loop-preserved g c =
    let i = c.loop.invariant in
    let e = c.load-served.ensures in
    (tt, tt, e.0 ∙ i.2, e.1 ∙ i.3, came_not c.args.ticket c.load-served.result c.loop.token.me c.load-served.new.seat.me (same_stage i.4 ∙ c.requires.waiting) c.if-served-ticket.false e.2 ∙ i.4)

pub returns-then-served-ticket-clause-turn : goal.returns-then-served-ticket-clause-turn
returns-then-served-ticket-clause-turn g c =
    let i = c.loop.invariant in
    came_now c.args.ticket c.load-served.result c.args.token.now.me c.loop.token.me c.load-served.new.seat.me i.4 c.requires.waiting c.if-served-ticket.true c.load-served.ensures.2
