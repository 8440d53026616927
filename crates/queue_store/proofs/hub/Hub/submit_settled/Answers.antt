use Rattle.std.proofs.Common.{refl, ap, inl}
use Rattle.hub_core.specs.Setup.{setup_of}
use Rattle.queue_store.specs.Ready.{Kept}
use Rattle.queue_store.specs.Calls.{entries_submit}
use Rattle.queue_store.specs.Refusals.{RefusedBy}
use Rattle.queue_store.proofs.Runs.{leads_settled}
use Rattle.queue_store.proofs.hub.Hub.submit_settled.Goals as goal

pub returns-in-Err-clause-settled : goal.returns-in-Err-clause-settled
returns-in-Err-clause-settled g c = (
  c.args.self.now.state,
  λ whole. refl,
  tt,
  λ limits h t stands. inl (c.in-Err.ensures.failed limits h t stands),
)

pub returns-in-Ok-clause-settled : goal.returns-in-Ok-clause-settled
returns-in-Ok-clause-settled g c = (
  c.mend.new.self.state,
  λ whole. ap (λ (k : Kept). k.state) (c.in-Ok.ensures.whole whole).1,
  c.submit_durable.ensures.accepted,
  λ limits h t stands.
      let setup = setup_of g.T.Planner.means limits in
      let mid = c.mend.new.self.state in
      let m = c.in-Ok.ensures.mended limits h t stands in
      leads_settled setup (g.P.Plant.state c.args.plant.now) (g.P.Plant.state c.mend.new.plant) (g.P.Plant.state c.submit_durable.new.plant) c.mend.new.self c.submit_durable.new.self h t (entries_submit mid c.args.clock c.args.submission)
      (RefusedBy setup mid c.args.submission c.args.clock) c.submit_durable.result c.args.self.now.broken m (c.mend.ensures.any_moment limits h t stands)
      (c.submit_durable.ensures.adds setup m.kept m.pending m.ready) (c.submit_durable.ensures.fails setup m.kept m.pending m.ready),
)
