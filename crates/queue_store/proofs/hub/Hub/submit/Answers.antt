use Rattle.std.proofs.Common.{refl, ap, inl}
use Rattle.hub_core.specs.Setup.{setup_of}
use Rattle.queue_store.specs.Ready.{Kept}
use Rattle.queue_store.specs.Calls.{entries_submit}
use Rattle.queue_store.specs.Refusals.{RefusedBy}
use Rattle.queue_store.proofs.Adding.{joined_moments, may_moments, either_moments}
use Rattle.queue_store.proofs.Runs.{leads}
use Rattle.queue_store.proofs.hub.Hub.submit.Goals as goal

pub returns-in-Err-clause-adds : goal.returns-in-Err-clause-adds
returns-in-Err-clause-adds g c = (
  c.args.self.now.state,
  λ whole. refl,
  tt,
  λ limits h t stands. inl (c.in-Err.ensures.failed limits h t stands),
)

pub returns-in-Ok-clause-adds : goal.returns-in-Ok-clause-adds
returns-in-Ok-clause-adds g c = (
  c.mend.new.self.state,
  λ whole. ap (λ (k : Kept). k.state) (c.in-Ok.ensures.whole whole).1,
  c.submit_open.ensures.accepted,
  λ limits h t stands.
      let setup = setup_of g.T.Planner.means limits in
      let s1 = g.P.Plant.state c.mend.new.plant in
      let s2 = g.P.Plant.state c.submit_open.new.plant in
      let mid = c.mend.new.self.state in
      let m = c.in-Ok.ensures.mended limits h t stands in
      leads setup (g.P.Plant.state c.args.plant.now) s1 s2 c.mend.new.self c.submit_open.new.self h t (entries_submit mid c.args.clock c.args.submission) (RefusedBy setup mid c.args.submission c.args.clock) c.submit_open.result c.args.self.now.broken m (c.mend.ensures.any_moment limits h t stands)
      (c.submit_open.ensures.adds setup m.kept m.pending m.ready) (c.submit_open.ensures.fails setup m.kept m.pending m.ready),
)

pub returns-in-Err-clause-any_moment : goal.returns-in-Err-clause-any_moment
returns-in-Err-clause-any_moment g c limits h t stands = may_moments (setup_of g.T.Planner.means limits) _ _ c.args.self.now.broken h t (c.mend.ensures.any_moment limits h t stands)

pub returns-in-Ok-clause-any_moment : goal.returns-in-Ok-clause-any_moment
returns-in-Ok-clause-any_moment g c limits h t stands =
    let setup = setup_of g.T.Planner.means limits in
    let s0 = g.P.Plant.state c.args.plant.now in
    let s1 = g.P.Plant.state c.mend.new.plant in
    let s2 = g.P.Plant.state c.submit_open.new.plant in
    let m = c.in-Ok.ensures.mended limits h t stands in
    joined_moments setup s0 s1 s2 c.args.self.now.broken h t m.kept m.pending m.opened (c.mend.ensures.any_moment limits h t stands)
    (either_moments setup s1 s2 c.submit_open.new.self m.kept m.pending _ _ c.submit_open.result (c.submit_open.ensures.adds setup m.kept m.pending m.ready) (c.submit_open.ensures.fails setup m.kept m.pending m.ready))
