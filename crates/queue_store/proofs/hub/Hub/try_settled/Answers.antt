use Rattle.std.proofs.Common.{inl, [], ap, arith}
use Rattle.std.proofs.lemmas.Result.{on_ok_weaker}
use Rattle.queue_store.proofs.Adding.{err_both}
use Rattle.queue_store.proofs.Runs.{turns-settled, off_settling, rests_later}
use Rattle.queue_store.proofs.Turning.{tried_until}
use Rattle.queue_store.proofs.hub.Hub.try_settled.Goals as goal

pub returns-in-Ok-clause-turns : goal.returns-in-Ok-clause-turns
returns-in-Ok-clause-turns g c setup h ready =
    let s0 = g.P.Plant.state c.args.plant.now in
    let s1 = g.P.Plant.state c.try_waiting.new.plant in
    let s2 = g.P.Plant.state c.settle_open.new.plant in
    let tried = c.in-Ok.ensures.adds setup h [] tt ready in
    let rise = c.settle_open.ensures.stays.shelf_faults in
    on_ok_weaker c.settle_open.result (λ done. (
      tried.0,
      turns-settled setup s0 s1 s2 c.try_waiting.new.self c.settle_open.new.self h [] _ tried.1 done (c.settle_open.ensures.any_moment setup h _ tried.1.ready),
      tried_until _ tried.0 _ _ _ tried.2 rise,
    ))
    (c.settle_open.ensures.settles setup h _ tried.1.ready)

pub returns-in-Ok-clause-stops : goal.returns-in-Ok-clause-stops
returns-in-Ok-clause-stops g c setup h ready =
    let s0 = g.P.Plant.state c.args.plant.now in
    let s1 = g.P.Plant.state c.try_waiting.new.plant in
    let s2 = g.P.Plant.state c.settle_open.new.plant in
    let tried = c.in-Ok.ensures.adds setup h [] tt ready in
    let rise = c.settle_open.ensures.stays.shelf_faults in
    err_both _ _ _ c.settle_open.result (λ e broken disk. (
      tried.0,
      inl (disk, off_settling setup s0 s1 s2 c.try_waiting.new.self c.settle_open.new.self h [] _ tried.1 broken (c.settle_open.ensures.any_moment setup h _ tried.1.ready)),
      (let so_far = tried.2.missed in omega (arith, so_far, rise)),
    ))
    (c.settle_open.ensures.failed setup h _ tried.1.ready) c.settle_open.ensures.disk

pub returns-in-Err-clause-stops : goal.returns-in-Err-clause-stops
returns-in-Err-clause-stops g c setup h ready =
    let tried = c.in-Err.ensures.stops setup h [] tt ready in
    let s0 = g.P.Plant.state c.args.plant.now in
    let s1 = g.P.Plant.state c.try_waiting.new.plant in
    let s2 = g.P.Plant.state c.settle_rest.new.plant in
    let so_far = tried.2 in
    let rise = c.settle_rest.ensures.stays.shelf_faults in (
      tried.0,
      rests_later setup s0 s1 s2 c.try_waiting.new.self c.settle_rest.new.self h [] _ c.in-Err.fault c.settle_rest.result tried.1
          (λ broken. (let same = c.settle_rest.ensures.broken broken in (same.0, same.1, ap g.P.Plant.state same.2)))
          (λ left after. c.settle_rest.ensures.settles setup h left after) (λ left after. c.settle_rest.ensures.any_moment setup h left after),
      omega (arith, so_far, rise),
    )
