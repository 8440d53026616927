use Rattle.std.proofs.Common.{inl, ◌++◌}
use Rattle.queue_store.specs.Calls.{entries_submit}
use Rattle.queue_store.specs.Refusals.{RefusedBy}
use Rattle.queue_store.proofs.Runs.{turns-settled, off_settling, settling_by}
use Rattle.queue_store.proofs.hub.Hub.submit_durable.Goals as goal

pub returns-in-Err-clause-fails : goal.returns-in-Err-clause-fails
returns-in-Err-clause-fails g c setup h t ready =
    let s = c.args.self.now.state in
    settling_by setup _ _ _ h t (entries_submit s c.args.clock c.args.submission) (RefusedBy setup s c.args.submission c.args.clock (h ++ t)) c.in-Err.fault (c.in-Err.ensures.fails setup h t ready)

pub returns-in-Ok-settle_open-clause-adds : goal.returns-in-Ok-settle_open-clause-adds
returns-in-Ok-settle_open-clause-adds g c setup h t ready =
    let adds = c.in-Ok.ensures.adds setup h t ready in
    turns-settled setup _ (g.P.Plant.state c.submit_open.new.plant) _ c.submit_open.new.self c.settle_open.new.self h t _ adds (c.in-Ok-settle_open.ensures.settles setup h _ adds.ready) (c.settle_open.ensures.any_moment setup h _ adds.ready)

pub returns-in-Err-settle_open-clause-fails : goal.returns-in-Err-settle_open-clause-fails
returns-in-Err-settle_open-clause-fails g c setup h t ready =
    let adds = c.in-Ok.ensures.adds setup h t ready in
    inl (c.in-Err-settle_open.ensures.disk, off_settling setup _ (g.P.Plant.state c.submit_open.new.plant) _ c.submit_open.new.self c.settle_open.new.self h t _ adds (c.in-Err-settle_open.ensures.failed setup h _ adds.ready) (c.settle_open.ensures.any_moment setup h _ adds.ready))
