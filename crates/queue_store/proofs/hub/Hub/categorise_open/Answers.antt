use Rattle.std.proofs.Common.{ap}
use Rattle.hub_core.specs.Setup.{setup_of}
use Rattle.queue_store.specs.Calls.{entries_categorise}
use Rattle.queue_store.proofs.Runs.{rests_later}
use Rattle.queue_store.proofs.hub.Hub.categorise_open.Goals as goal

pub returns-in-Err-clause-stops : goal.returns-in-Err-clause-stops
returns-in-Err-clause-stops g c limits h t ready =
    let setup = setup_of g.T.Planner.means limits in
    let s0 = g.P.Plant.state c.args.plant.now in
    let s1 = g.P.Plant.state c.categorise_waiting.new.plant in
    let s2 = g.P.Plant.state c.settle_rest.new.plant in
    let es = entries_categorise setup c.args.self.now.state in
    rests_later setup s0 s1 s2 c.categorise_waiting.new.self c.settle_rest.new.self h t es c.in-Err.fault c.settle_rest.result (c.in-Err.ensures.stops limits h t ready)
    (λ broken. (let same = c.settle_rest.ensures.broken broken in (same.0, same.1, ap g.P.Plant.state same.2)))
    (λ left after. c.settle_rest.ensures.settles setup h left after) (λ left after. c.settle_rest.ensures.any_moment setup h left after)
