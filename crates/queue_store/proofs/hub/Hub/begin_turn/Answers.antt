use Rattle.std.proofs.Common.{inl, [], ◌∷◌, ap, sym}
use Rattle.std.proofs.lemmas.Result.{on_ok_weaker}
use Rattle.log_entry.specs.declared.entry.Entry.TheVariants as entries
use Rattle.hub_core.specs.declared.limits.Limits.{Limits}
use Rattle.hub_core.specs.Setup.{setup_of}
use Rattle.hub_core.specs.Standing.{state_after}
use Rattle.queue_store.proofs.Adding.{err_both, ready-limits, later-first}
use Rattle.queue_store.proofs.Stepping.{moment_follows}
use Rattle.queue_store.proofs.Runs.{turns-settled, off_settling, rests_later}
use Rattle.queue_store.proofs.hub.Hub.begin_turn.Goals as goal

pub returns-in-Ok-clause-turns : goal.returns-in-Ok-clause-turns
returns-in-Ok-clause-turns g c limits h t ready =
    let setup = setup_of g.T.Planner.means limits in
    let s0 = g.P.Plant.state c.args.plant.now in
    let s1 = g.P.Plant.state c.append.new.plant in
    let s2 = g.P.Plant.state c.settle_open.new.plant in
    let hub = c.args.self.now in
    let entry = entries.Moment c.args.moment in
    let same = ap (λ (l : Limits). state_after (setup_of g.T.Planner.means l) hub.state entry) (sym (ready-limits setup s0 hub h t ready)) in
    let one = c.in-Ok.ensures.adds setup h t ready (moment_follows setup s0 hub h t c.args.moment ready c.requires.later c.requires.last) same in
    on_ok_weaker c.settle_open.result (λ done. turns-settled setup s0 s1 s2 c.append.new.self c.settle_open.new.self h t (entry ∷ []) one done (c.settle_open.ensures.any_moment setup h _ one.ready))
    (c.settle_open.ensures.settles setup h _ one.ready)

pub returns-in-Ok-clause-stops : goal.returns-in-Ok-clause-stops
returns-in-Ok-clause-stops g c limits h t ready =
    let setup = setup_of g.T.Planner.means limits in
    let s0 = g.P.Plant.state c.args.plant.now in
    let s1 = g.P.Plant.state c.append.new.plant in
    let s2 = g.P.Plant.state c.settle_open.new.plant in
    let hub = c.args.self.now in
    let entry = entries.Moment c.args.moment in
    let same = ap (λ (l : Limits). state_after (setup_of g.T.Planner.means l) hub.state entry) (sym (ready-limits setup s0 hub h t ready)) in
    let one = c.in-Ok.ensures.adds setup h t ready (moment_follows setup s0 hub h t c.args.moment ready c.requires.later c.requires.last) same in
    err_both _ _ _ c.settle_open.result (λ e broken disk. inl (disk, off_settling setup s0 s1 s2 c.append.new.self c.settle_open.new.self h t (entry ∷ []) one broken (c.settle_open.ensures.any_moment setup h _ one.ready)))
    (c.settle_open.ensures.failed setup h _ one.ready) c.settle_open.ensures.disk

pub returns-in-Err-clause-stops : goal.returns-in-Err-clause-stops
returns-in-Err-clause-stops g c limits h t ready =
    let setup = setup_of g.T.Planner.means limits in
    let s0 = g.P.Plant.state c.args.plant.now in
    let s1 = g.P.Plant.state c.append.new.plant in
    let s2 = g.P.Plant.state c.settle_rest.new.plant in
    let es = entries.Moment c.args.moment ∷ [] in
    rests_later setup s0 s1 s2 c.append.new.self c.settle_rest.new.self h t es c.in-Err.fault c.settle_rest.result (later-first setup s0 s1 c.append.new.self h t es c.in-Err.fault (c.in-Err.ensures.fails setup h t ready))
    (λ broken. (let same = c.settle_rest.ensures.broken broken in (same.0, same.1, ap g.P.Plant.state same.2)))
    (λ left after. c.settle_rest.ensures.settles setup h left after) (λ left after. c.settle_rest.ensures.any_moment setup h left after)
