use Rattle.std.proofs.Common.{refl, ap, inl}
use Rattle.hub_core.specs.Setup.{setup_of}
use Rattle.queue_store.specs.Ready.{Kept}
use Rattle.queue_store.specs.Calls.{entries_categorise}
use Rattle.queue_store.proofs.Runs.{leads_on}
use Rattle.queue_store.proofs.hub.Hub.categorise_all.Goals as goal

pub returns-in-Err-clause-adds : goal.returns-in-Err-clause-adds
returns-in-Err-clause-adds g c = (
  c.args.self.now.state,
  λ whole. refl,
  λ limits h t stands. inl (c.in-Err.ensures.failed limits h t stands),
)

pub returns-in-Ok-clause-adds : goal.returns-in-Ok-clause-adds
returns-in-Ok-clause-adds g c = (
  c.mend.new.self.state,
  λ whole. ap (λ (k : Kept). k.state) (c.in-Ok.ensures.whole whole).1,
  λ limits h t stands.
      let setup = setup_of g.T.Planner.means limits in
      let m = c.in-Ok.ensures.mended limits h t stands in
      leads_on setup (g.P.Plant.state c.args.plant.now) (g.P.Plant.state c.mend.new.plant) (g.P.Plant.state c.categorise_open.new.plant) c.mend.new.self c.categorise_open.new.self h t (entries_categorise setup c.mend.new.self.state) c.categorise_open.result
      c.args.self.now.broken m (c.mend.ensures.any_moment limits h t stands)
      (c.categorise_open.ensures.adds limits m.kept m.pending m.ready) (c.categorise_open.ensures.stops limits m.kept m.pending m.ready),
)
