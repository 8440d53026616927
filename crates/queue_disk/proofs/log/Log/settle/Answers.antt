use Rattle.std.proofs.Common.{sym, subst, refl, arith}
use Rattle.queue_disk.specs.View.{LogView}
use Rattle.queue_disk.specs.Log.{log_of, payloads, staged, IsOpen}
use Rattle.queue_disk.proofs.Pending.{settle_moments, settled_open}
use Rattle.queue_disk.proofs.log.Log.settle.Goals as goal

pub returns-in_err-open_gate-clause-any_moment : goal.returns-in_err-open_gate-clause-any_moment
returns-in_err-open_gate-clause-any_moment g c h t honest was =
    let s0 = g.P.Plant.state c.args.plant.now in
    let s1 = g.P.Plant.state c.open_gate.new.plant in
    let log : LogView = record { place = c.self.inside.place; pending = c.self.inside.pending; gate = c.self.inside.gate; most = c.self.inside.most; held = c.self.inside.ahead } in
    let here : IsOpen s0 log h t = subst (λ (v : LogView). IsOpen s0 v h t) (sym c.self.view_is) was in
    settle_moments s0 s1 log h t c.if-self-eq0.false here (c.open_gate.ensures.any_moment (log_of h) (staged (payloads t)) honest here.closed here.file (omega (arith, here.at)))

pub returns-clause-any_moment : goal.returns-clause-any_moment
returns-clause-any_moment g c h t honest was =
    let s0 = g.P.Plant.state c.args.plant.now in
    let s1 = g.P.Plant.state c.open_gate.new.plant in
    let log : LogView = record { place = c.self.inside.place; pending = c.self.inside.pending; gate = c.self.inside.gate; most = c.self.inside.most; held = c.self.inside.ahead } in
    let here : IsOpen s0 log h t = subst (λ (v : LogView). IsOpen s0 v h t) (sym c.self.view_is) was in
    settle_moments s0 s1 log h t c.if-self-eq0.false here (c.open_gate.ensures.any_moment (log_of h) (staged (payloads t)) honest here.closed here.file (omega (arith, here.at)))

pub returns-clause-settled : goal.returns-clause-settled
returns-clause-settled g c h t honest was =
    let s0 = g.P.Plant.state c.args.plant.now in
    let s1 = g.P.Plant.state c.open_gate.new.plant in
    let log : LogView = record { place = c.self.inside.place; pending = c.self.inside.pending; gate = c.self.inside.gate; most = c.self.inside.most; held = c.self.inside.ahead } in
    let here : IsOpen s0 log h t = subst (λ (v : LogView). IsOpen s0 v h t) (sym c.self.view_is) was in
    settled_open s0 s1 log _ h t c.if-self-eq0.false refl refl here (c.in_ok-open_gate.ensures.done (log_of h) (staged (payloads t)) honest here.closed here.file (omega (arith, here.at)))
