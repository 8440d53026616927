use Rattle.std.proofs.Common.{◌≡◌, true, ◌++◌, [], ◌∷◌, ◌∙◌, sym, ap, subst, refl, inl, inr, arith}
use Rattle.plant_dev.proofs.Offered.{stays_honest}
use Rattle.queue_disk.proofs.Offered.{place_of}
use Rattle.hub_core.specs.Setup.{setup_of}
use Rattle.hub_core.specs.Standing.{Standing, state_after}
use Rattle.queue_disk.specs.Log.{IsOpen}
use Rattle.queue_disk.specs.declared.log.Framed.{Framed}
use Rattle.queue_store.specs.Ready.{Kept, Fails}
use Rattle.queue_store.specs.Faults.{fault_of}
use Rattle.queue_store.proofs.Settling.{add_moments, ready_added, broken_adding, still}
use Rattle.queue_store.proofs.Adding.{handed, framed-leaves, grown-limits}
use Rattle.queue_store.proofs.hub.Hub.append.Goals as goal

pub returns-in-Ok-add-clause-adds : goal.returns-in-Ok-add-clause-adds
returns-in-Ok-add-clause-adds g c setup h t ready follows same =
    let s0 = g.P.Plant.state c.args.plant.now in
    let s1 = g.P.Plant.state c.add.new.plant in
    let hub = c.args.self.now in
    let entry = c.args.entry in
    let log : IsOpen s0 c.self.inside.log h t = subst (λ (k : Kept). IsOpen s0 k.log h t) (sym c.self.view_is) ready.log in
    let most = ap (λ (k : Kept). k.log.most) c.self.view_is ∙ ready.most in
    let run = c.add.ensures.any_moment h t ready.honest log in
    let room = c.in_ok-framed.ensures.full in
    let hub' : Kept = record { state = c.apply.new.self; log = c.add.new.self; broken = c.self.inside.broken; opening = c.self.inside.opening } in
    let state =
    c.in-Ok.ensures.1 ∙ ap (λ (k : Kept). state_after (setup_of g.T.Planner.means k.state.limits) k.state entry) c.self.view_is ∙ sym same in
    record {
      ready = ready_added setup s0 s1 hub hub' h t entry ready (stays_honest s0 s1 c.add.ensures.stays ready.honest) (ap (λ (k : Kept). k.broken) c.self.view_is ∙ ready.whole) state
          (c.add.ensures.most ∙ ap (λ (k : Kept). k.log.most) c.self.view_is) (c.in-Ok-add.ensures.added h t entry c.in_ok-framed.ensures.bytes ready.honest log) (g.met.P.Plant.is_image c.add.new.plant) follows run;
      fits = (omega (arith, room, place_of s0 c.self.inside.log h t log, most), tt);
      moments = add_moments setup s0 s1 hub h t ready run;
    }

pub returns-in_err-framed-clause-fails : goal.returns-in_err-framed-clause-fails
returns-in_err-framed-clause-fails g c setup h t ready =
    let s0 = g.P.Plant.state c.args.plant.now in
    let log : IsOpen s0 c.self.inside.log h t = subst (λ (k : Kept). IsOpen s0 k.log h t) (sym c.self.view_is) ready.log in
    let place = place_of s0 c.self.inside.log h t log in
    let most = ap (λ (k : Kept). k.log.most) c.self.view_is ∙ ready.most in
    let why = framed-leaves Framed (h ++ t) c.args.entry c.self.inside.log.place c.self.inside.log.most setup.limits.log c.in_err-framed.field-0.0 place most c.in_err-framed.ensures.faults c.in_err-framed.ensures.full in
    handed (Fails setup s0 s0 c.args.self.now h t (c.args.entry ∷ [])) (fault_of c.in_err-framed.field-0.0) c.from_residual.result c.from_residual.ensures.1 (inr (record { ready = ready; why = why; moments = still setup s0 c.args.self.now h t ready }))

pub returns-clause-fails : goal.returns-clause-fails
returns-clause-fails g c setup h t ready =
    let s0 = g.P.Plant.state c.args.plant.now in
    let s1 = g.P.Plant.state c.add.new.plant in
    let hub = c.args.self.now in
    let entry = c.args.entry in
    let other = setup_of g.T.Planner.means hub.state.limits in
    let log : IsOpen s0 c.self.inside.log h t = subst (λ (k : Kept). IsOpen s0 k.log h t) (sym c.self.view_is) ready.log in
    let state : c.apply.new.self ≡ state_after other hub.state entry =
    c.in-Ok.ensures.1 ∙ ap (λ (k : Kept). state_after (setup_of g.T.Planner.means k.state.limits) k.state entry) c.self.view_is in
    let hub' : Kept = record { state = c.apply.new.self; log = c.add.new.self; broken = true; opening = c.self.inside.opening } in
    inl (refl, broken_adding setup s0 s1 hub hub' h t ready (stays_honest s0 s1 c.add.ensures.stays ready.honest) refl (ap (λ (s : Standing). s.limits) state ∙ grown-limits setup other s0 hub h t entry ready) (c.add.ensures.any_moment h t ready.honest log))
