use Rattle.std.proofs.Common.{true, ◌∙◌, sym, ap, subst, refl}
use Rattle.plant_dev.proofs.Offered.{stays_honest}
use Rattle.queue_disk.specs.View.{LogView}
use Rattle.queue_disk.specs.Log.{IsOpen}
use Rattle.queue_store.specs.Ready.{Kept}
use Rattle.queue_store.proofs.Settling.{ready_settled, broken_settling, settle_moments}
use Rattle.queue_store.proofs.Adding.{ready-limits}
use Rattle.queue_store.proofs.hub.Hub.settle_open.Goals as goal

pub returns-in-Ok-clause-settles : goal.returns-in-Ok-clause-settles
returns-in-Ok-clause-settles g c setup h t ready =
    let s0 = g.P.Plant.state c.args.plant.now in
    let s1 = g.P.Plant.state c.settle.new.plant in
    let hub = c.args.self.now in
    let log : IsOpen s0 c.self.inside.log h t = subst (λ (k : Kept). IsOpen s0 k.log h t) (sym c.self.view_is) ready.log in
    let hub' : Kept = record { state = c.self.inside.state; log = c.settle.new.self; broken = c.self.inside.broken; opening = c.self.inside.opening } in
    ready_settled setup s0 s1 hub hub' h t ready (stays_honest s0 s1 c.settle.ensures.stays ready.honest) (ap (λ (k : Kept). k.broken) c.self.view_is ∙ ready.whole) (ap (λ (k : Kept). k.state) c.self.view_is)
    (ap (λ (v : LogView). v.most) c.in-Ok.ensures.moves ∙ ap (λ (k : Kept). k.log.most) c.self.view_is) (c.in-Ok.ensures.settled h t ready.honest log) (g.met.P.Plant.is_image c.settle.new.plant)
    (c.settle.ensures.any_moment h t ready.honest log)

pub returns-in-Ok-clause-any_moment : goal.returns-in-Ok-clause-any_moment
returns-in-Ok-clause-any_moment g c setup h t ready =
    let s0 = g.P.Plant.state c.args.plant.now in
    let s1 = g.P.Plant.state c.settle.new.plant in
    let hub = c.args.self.now in
    let log : IsOpen s0 c.self.inside.log h t = subst (λ (k : Kept). IsOpen s0 k.log h t) (sym c.self.view_is) ready.log in
    settle_moments setup s0 s1 hub h t ready (c.settle.ensures.any_moment h t ready.honest log)

pub returns-in-Err-clause-any_moment : goal.returns-in-Err-clause-any_moment
returns-in-Err-clause-any_moment g c setup h t ready =
    let s0 = g.P.Plant.state c.args.plant.now in
    let s1 = g.P.Plant.state c.settle.new.plant in
    let hub = c.args.self.now in
    let log : IsOpen s0 c.self.inside.log h t = subst (λ (k : Kept). IsOpen s0 k.log h t) (sym c.self.view_is) ready.log in
    settle_moments setup s0 s1 hub h t ready (c.settle.ensures.any_moment h t ready.honest log)

pub returns-in-Err-clause-failed : goal.returns-in-Err-clause-failed
returns-in-Err-clause-failed g c setup h t ready =
    let s0 = g.P.Plant.state c.args.plant.now in
    let s1 = g.P.Plant.state c.settle.new.plant in
    let hub = c.args.self.now in
    let log : IsOpen s0 c.self.inside.log h t = subst (λ (k : Kept). IsOpen s0 k.log h t) (sym c.self.view_is) ready.log in
    let hub' : Kept = record { state = c.self.inside.state; log = c.settle.new.self; broken = true; opening = c.self.inside.opening } in
    broken_settling setup s0 s1 hub hub' h t ready (stays_honest s0 s1 c.settle.ensures.stays ready.honest) refl (ap (λ (k : Kept). k.state.limits) c.self.view_is ∙ ready-limits setup s0 hub h t ready)
    (c.settle.ensures.any_moment h t ready.honest log)
