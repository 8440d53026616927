use Rattle.std.proofs.Common.{◌≡◌, ℕ, sym, subst, ◌∙◌, Some, None}
use Rattle.desk_turns.specs.Ends.{Ended, StillOut}
use Rattle.desk_turns.proofs.Closed.{is_out, stands_there, is_ended}
use Rattle.desk_turns.proofs.desk.Desk.close.Goals as goal

pub returns-then-out-ne0-clause-out : goal.returns-then-out-ne0-clause-out
returns-then-out-ne0-clause-out g c =
    let t = c.args.self.table.shared in
    let k = c.args.seat.token in
    subst (λ (n : ℕ). StillOut g.C.Deeds.does n t.key.first.value k.id k.me.0) (sym c.args.self.calls_is)
    (is_out g.C.Deeds.does t.key.calls t.key.first.value k.id k.me.0 _ _ c.close_with-closed.ensures.values.2 c.word-out.result c.word-out.ensures c.if-out-ne0.true)

pub unreachable-requires : goal.unreachable-requires
unreachable-requires g c =
    let t = c.args.self.table.shared in
    let k = c.args.seat.token in
    let there = stands_there g.C.Deeds.does t.key.calls t.key.first.value k.id k.me.0 _ _ c.close_with-closed.ensures.values.2 c.word-out.result c.take-value.result c.word-out.ensures c.if-out-ne0.false c.take-value.ensures.value in
    let none : None ≡ Some _ = sym c.in-None.is ∙ there in cc

pub returns-clause-ok : goal.returns-clause-ok
returns-clause-ok g c =
    let t = c.args.self.table.shared in
    let k = c.args.seat.token in
    subst (λ (n : ℕ). Ended g.C.Deeds.does n t.key.first.value k.id k.me.0 c.in-Some.value) (sym c.args.self.calls_is)
    (is_ended g.C.Deeds.does t.key.calls t.key.first.value k.id k.me.0 _ _ c.close_with-closed.ensures.values.2 c.word-out.result c.take-value.result c.in-Some.value c.args.seat.idle
    c.word-out.ensures c.if-out-ne0.false c.take-value.ensures.value c.in-Some.is)
