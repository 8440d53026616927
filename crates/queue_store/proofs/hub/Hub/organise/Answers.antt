use Rattle.std.proofs.Common.{refl, ap, inl}
use Rattle.hub_core.specs.Setup.{setup_of}
use Rattle.queue_store.specs.Ready.{Kept}
use Rattle.queue_store.specs.Planning.{texts_asked, entries_organise}
use Rattle.queue_store.specs.Refusals.{RefusedOrg}
use Rattle.queue_store.proofs.Adding.{joined_moments, may_moments, either_moments}
use Rattle.queue_store.proofs.Runs.{leads}
use Rattle.queue_store.proofs.hub.Hub.organise.Goals as goal

pub returns-in-Err-clause-adds : goal.returns-in-Err-clause-adds
returns-in-Err-clause-adds g c = (
  c.args.self.now.state,
  λ whole. refl,
  tt,
  λ limits h t stands. inl (c.in-Err.ensures.failed limits h t stands),
)

pub returns-in-Ok-clause-adds : goal.returns-in-Ok-clause-adds
returns-in-Ok-clause-adds g c = (
  c.mend.new.self.state,
  λ whole. ap (λ (k : Kept). k.state) (c.in-Ok.ensures.whole whole).1,
  c.change_given.ensures.epoch,
  λ limits h t stands.
      let setup = setup_of g.T.Planner.means limits in
      let mid = c.mend.new.self.state in
      let m = c.in-Ok.ensures.mended limits h t stands in
      leads setup (g.P.Plant.state c.args.plant.now) (g.P.Plant.state c.mend.new.plant) (g.P.Plant.state c.change_given.new.plant) c.mend.new.self c.change_given.new.self h t (entries_organise setup mid (texts_asked mid c.args.directory c.args.rules)) (RefusedOrg setup mid (texts_asked mid c.args.directory c.args.rules)) c.change_given.result c.args.self.now.broken m (c.mend.ensures.any_moment limits h t stands)
      (c.change_given.ensures.adds limits m.kept m.pending m.ready) (c.change_given.ensures.fails limits m.kept m.pending m.ready),
)

pub returns-in-Err-clause-any_moment : goal.returns-in-Err-clause-any_moment
returns-in-Err-clause-any_moment g c limits h t stands = may_moments (setup_of g.T.Planner.means limits) _ _ c.args.self.now.broken h t (c.mend.ensures.any_moment limits h t stands)

pub returns-in-Ok-clause-any_moment : goal.returns-in-Ok-clause-any_moment
returns-in-Ok-clause-any_moment g c limits h t stands =
    let setup = setup_of g.T.Planner.means limits in
    let s0 = g.P.Plant.state c.args.plant.now in
    let s1 = g.P.Plant.state c.mend.new.plant in
    let s2 = g.P.Plant.state c.change_given.new.plant in
    let m = c.in-Ok.ensures.mended limits h t stands in
    joined_moments setup s0 s1 s2 c.args.self.now.broken h t m.kept m.pending m.opened (c.mend.ensures.any_moment limits h t stands)
    (either_moments setup s1 s2 c.change_given.new.self m.kept m.pending _ _ c.change_given.result (c.change_given.ensures.adds limits m.kept m.pending m.ready) (c.change_given.ensures.fails limits m.kept m.pending m.ready))
