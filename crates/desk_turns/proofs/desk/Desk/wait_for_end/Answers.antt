use Rattle.std.proofs.Common.{arith, ◌∙◌}
use Rattle.desk_turns.proofs.Moves.{looks_for_end}
use Rattle.desk_turns.proofs.Steps.{same_stage, full_now, full_not}
use Rattle.desk_turns.proofs.desk.Desk.wait_for_end.Goals as goal

pub load-served-requires : goal.load-served-requires
load-served-requires g c =
    let t = c.args.self.now.table.shared in
    let size = c.args.self.now.sized.0 in
    let i = c.loop.invariant in
    (i.2 ∙ c.requires.own.0, omega arith, looks_for_end g.C.Deeds.does t.key.calls t.key.first.value t.table_id.slots c.loop.token.id c.loop.token.me (same_stage i.4 ∙ c.requires.idle))

pub loop-preserved : goal.loop-preserved
loop-preserved g c =
    let i = c.loop.invariant in
    let e = c.load-served.ensures in
    (tt, tt, e.0 ∙ i.2, e.1 ∙ i.3, full_not g.C.Deeds.does c.args.self.now.calls c.load-served.result c.args.token.now.me c.loop.token.me c.load-served.new.seat.me i.4 c.requires.own.1 c.if-served-self.false e.2 ∙ i.4)

pub returns-then-served-self-clause-full : goal.returns-then-served-self-clause-full
returns-then-served-self-clause-full g c =
    let i = c.loop.invariant in
    full_now g.C.Deeds.does c.args.self.now.calls c.load-served.result c.args.token.now.me c.loop.token.me c.load-served.new.seat.me i.4 c.requires.own.1 c.if-served-self.true c.load-served.ensures.2
