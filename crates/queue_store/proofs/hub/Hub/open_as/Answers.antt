use Rattle.std.proofs.Common.{[], refl, sym, ◌∙◌, ap, subst, inl}
use Rattle.plant_dev.specs.Disk.{Image}
use Rattle.plant_dev.proofs.Offered.{stays_honest, durable_reads, reads_on}
use Rattle.hub_core.specs.Setup.{setup_of}
use Rattle.queue_disk.specs.View.{LogView}
use Rattle.queue_disk.specs.Log.{LogOf}
use Rattle.queue_disk.specs.Reading.{IsHeld, Begins}
use Rattle.queue_disk.proofs.Offered.{one_log}
use Rattle.queue_store.specs.Faults.{fault_of}
use Rattle.queue_store.specs.Stands.{MayStand}
use Rattle.queue_store.proofs.Adding.{handed}
use Rattle.queue_store.proofs.Settling.{pick, open_moments, opened_stands, opened_ready}
use Rattle.queue_store.proofs.Opening.{found_later, refused_head, refused_later}
use Rattle.queue_store.proofs.hub.Hub.open_as.Goals as goal

pub returns-in_err-log-clause-any_moment : goal.returns-in_err-log-clause-any_moment
returns-in_err-log-clause-any_moment g c h t honest settled =
    let setup = setup_of g.T.Planner.means c.args.limits in
    open_moments setup (g.P.Plant.state c.args.plant.now) (g.P.Plant.state c.open_log.new.plant) h t settled (c.open_log.ensures.any_moment honest)

pub returns-in_err-state-clause-any_moment : goal.returns-in_err-state-clause-any_moment
returns-in_err-state-clause-any_moment g c h t honest settled =
    let setup = setup_of g.T.Planner.means c.args.limits in
    let s0 = g.P.Plant.state c.args.plant.now in
    let s1 = g.P.Plant.state c.open_log.new.plant in
    let s2 = g.P.Plant.state c.replay.new.plant in
    reads_on s0 s1 s2 (MayStand setup h t) (open_moments setup s0 s1 h t settled (c.open_log.ensures.any_moment honest)) (c.replay.ensures.reads (stays_honest s0 s1 c.open_log.ensures.stays honest))

pub returns-clause-any_moment : goal.returns-clause-any_moment
returns-clause-any_moment g c h t honest settled =
    let setup = setup_of g.T.Planner.means c.args.limits in
    let s0 = g.P.Plant.state c.args.plant.now in
    let s1 = g.P.Plant.state c.open_log.new.plant in
    let s2 = g.P.Plant.state c.replay.new.plant in
    reads_on s0 s1 s2 (MayStand setup h t) (open_moments setup s0 s1 h t settled (c.open_log.ensures.any_moment honest)) (c.replay.ensures.reads (stays_honest s0 s1 c.open_log.ensures.stays honest))

pub returns-in_err-log-clause-settled : goal.returns-in_err-log-clause-settled
returns-in_err-log-clause-settled g c h t honest settled =
    let s0 = g.P.Plant.state c.args.plant.now in
    let setup = setup_of g.T.Planner.means c.args.limits in
    let (found, stood, one) = pick setup h t s0.image (settled s0.image (g.met.P.Plant.is_image c.args.plant.now)) in
    handed _ (fault_of c.in_err-log.field-0.0) c.from_residual.result c.from_residual.ensures.1
    (inl (ap fault_of (c.in_err-log.ensures.never found honest stood.file)), (returns-in_err-log-clause-any_moment g c h t honest settled).now)

pub returns-in_err-state-clause-settled : goal.returns-in_err-state-clause-settled
returns-in_err-state-clause-settled g c h t honest settled =
    let s0 = g.P.Plant.state c.args.plant.now in
    let s1 = g.P.Plant.state c.open_log.new.plant in
    let setup = setup_of g.T.Planner.means c.args.limits in
    let (found, stood, one) = pick setup h t s0.image (settled s0.image (g.met.P.Plant.is_image c.args.plant.now)) in
    let begun = stays_honest s0 s1 c.open_log.ensures.stays honest in
    let which = c.in_err-state.ensures.never found begun stood.shelf.history (c.in_ok-log.ensures.unread found honest stood.file) in
    handed _ c.in_err-state.field-0.0 c.from_residual-in_err-state.result c.from_residual-in_err-state.ensures.1
    (which, (returns-in_err-state-clause-any_moment g c h t honest settled).now)

pub returns-clause-ready : goal.returns-clause-ready
returns-clause-ready g c h t honest settled =
    let setup = setup_of g.T.Planner.means c.args.limits in
    let s0 = g.P.Plant.state c.args.plant.now in
    let s1 = g.P.Plant.state c.open_log.new.plant in
    let s2 = g.P.Plant.state c.replay.new.plant in
    let (found, stood, one) = pick setup h t s0.image (settled s0.image (g.met.P.Plant.is_image c.args.plant.now)) in
    let begun = stays_honest s0 s1 c.open_log.ensures.stays honest in
    let read = c.in_ok-log.ensures.unread found honest stood.file in
    let reads = c.replay.ensures.reads begun in
    let durable = c.in_ok-log.ensures.durable honest in
    let log = c.in_ok-log.ensures.stands found honest stood.file in
    let small = c.in_ok-log.ensures.small honest in
    let each = opened_stands setup s0 s1 h t found settled (λ k file. c.in_ok-log.ensures.stands k honest file) (λ k there. one_log s1.image.file k found small there log) (c.in_ok-log.ensures.kept honest) durable in (
      found,
      one,
      stood,
      opened_ready setup s2 _ found (stays_honest s1 s2 c.replay.ensures.stays begun) refl (c.in_ok-state.ensures.state found begun read)
          (c.replay.ensures.most ∙ ap (λ (v : LogView). v.most) c.in_ok-log.ensures.at_start)
          (c.replay.ensures.pending ∙ ap (λ (v : LogView). v.pending) c.in_ok-log.ensures.at_start)
          (c.in_ok-state.ensures.end found begun read) (subst (λ (i : Image). LogOf i.file found) (sym reads.image) log) (durable_reads s1 s2 durable reads) (g.met.P.Plant.is_image c.replay.new.plant)
          (λ c' left. each c' (reads.crash c' left)),
    )

pub returns-in_err-log-clause-bad : goal.returns-in_err-log-clause-bad
returns-in_err-log-clause-bad g c honest =
    refused_head (setup_of g.T.Planner.means c.args.limits) (g.P.Plant.state c.args.plant.now).image.file c.in_err-log.field-0.0 _ c.from_residual.ensures.1 (c.in_err-log.ensures.refused honest)

pub returns-in_err-state-clause-bad : goal.returns-in_err-state-clause-bad
returns-in_err-state-clause-bad g c honest =
    let s0 = g.P.Plant.state c.args.plant.now in
    let s1 = g.P.Plant.state c.open_log.new.plant in
    let begun = stays_honest s0 s1 c.open_log.ensures.stays honest in
    let log = c.in_ok-log.log in
    let held = subst (λ (v : LogView). IsHeld s1.image.file v) (sym c.in_ok-log.ensures.at_start) refl in
    let begins = subst (λ (v : LogView). Begins s1.image.file [] v.place) (sym c.in_ok-log.ensures.at_start) (c.in_ok-log.ensures.begins honest) in
    refused_later (setup_of g.T.Planner.means c.args.limits) s0.image.file s1.image.file c.in_err-state.field-0.0 _ c.from_residual-in_err-state.ensures.1 (c.in_ok-log.ensures.opened honest)
    (λ file. c.in_err-state.ensures.never [] begun tt (c.in_ok-log.ensures.unread [] honest file)) (c.in_err-state.ensures.bad begun held begins)

pub returns-clause-found : goal.returns-clause-found
returns-clause-found g c honest =
    let s0 = g.P.Plant.state c.args.plant.now in
    let s1 = g.P.Plant.state c.open_log.new.plant in
    let begun = stays_honest s0 s1 c.open_log.ensures.stays honest in
    let held = subst (λ (v : LogView). IsHeld s1.image.file v) (sym c.in_ok-log.ensures.at_start) refl in
    let begins = subst (λ (v : LogView). Begins s1.image.file [] v.place) (sym c.in_ok-log.ensures.at_start) (c.in_ok-log.ensures.begins honest) in
    found_later (setup_of g.T.Planner.means c.args.limits) s0.image.file s1.image.file _ (c.in_ok-log.ensures.opened honest) (c.in_ok-log.ensures.small honest) (λ file. c.in_ok-log.ensures.stands [] honest file)
    (c.in_ok-state.ensures.whole begun held begins)
