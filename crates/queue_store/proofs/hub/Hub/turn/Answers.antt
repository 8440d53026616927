use Rattle.std.proofs.Common.{[], refl, ap, inl, arith}
use Rattle.hub_core.specs.Setup.{setup_of}
use Rattle.queue_store.specs.Ready.{Kept}
use Rattle.queue_store.proofs.Turning.{leads_turn}
use Rattle.queue_store.proofs.hub.Hub.turn.Goals as goal

pub returns-in-Err-clause-turns : goal.returns-in-Err-clause-turns
returns-in-Err-clause-turns g c = (
  c.args.self.now.state,
  λ whole. refl,
  λ limits h t stands. (let later = c.mend.ensures.stays.shelf_faults in ([], omega (arith, later), inl (c.in-Err.ensures.failed limits h t stands))),
)

pub returns-in-Ok-clause-turns : goal.returns-in-Ok-clause-turns
returns-in-Ok-clause-turns g c = (
  c.mend.new.self.state,
  λ whole. ap (λ (k : Kept). k.state) (c.in-Ok.ensures.whole whole).1,
  λ limits h t stands.
      let setup = setup_of g.T.Planner.means limits in
      let m = c.in-Ok.ensures.mended limits h t stands in
      leads_turn setup (g.P.Plant.state c.args.plant.now) (g.P.Plant.state c.mend.new.plant) (g.P.Plant.state c.turn_open.new.plant) c.mend.new.self c.turn_open.new.self h t c.args.clock c.turn_open.result c.args.self.now.broken m
      c.mend.ensures.stays.shelf_faults (c.mend.ensures.any_moment limits h t stands) (c.turn_open.ensures.turns limits m.kept m.pending m.ready) (c.turn_open.ensures.stops limits m.kept m.pending m.ready),
)
