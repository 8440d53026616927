use Rattle.std.proofs.Common.{[], inl, inr, refl, ap, ◌∙◌, arith}
use Rattle.hub_core.specs.Standing.{Standing, usual}
use Rattle.queue_store.specs.Calls.{after_entries, count_tried, entries_categorise, entries_turn}
use Rattle.queue_store.proofs.Offered.{partly_more, finished, grown_state, tried_along, tried_within, unfinished}
use Rattle.mail_transport.specs.HubSetup.{hub_setup}
use Rattle.mail_transport.proofs.Running.{turned, failed, uncategorised}
use Rattle.mail_transport.proofs.session.finish.Goals as goal

pub returns-in-Err-clause-finishes : goal.returns-in-Err-clause-finishes
returns-in-Err-clause-finishes g c p at =
    let s = g.P.Plant.state c.args.plant.now in
    let s1 = g.P.Plant.state c.categorise_all.new.plant in
    let all = c.in-Err.ensures.adds in
    let mid = all.0 in
    let cs = entries_categorise hub_setup mid in
    uncategorised s s1 c.args.hub.now c.categorise_all.new.self p at _ _ mid c.in-Err.fault c.fault_status.result c.categorise_all.ensures.stays.shelf_faults c.fault_status.ensures.value (λ k. refl)
    (partly_more hub_setup c.args.hub.now.broken s s1 c.categorise_all.new.self p.settled p.doubtful mid cs (entries_turn hub_setup (after_entries hub_setup mid cs) 0 []) c.in-Err.fault (all.2 usual p.settled p.doubtful at.stands))

pub returns-in-Err-turn-clause-finishes : goal.returns-in-Err-turn-clause-finishes
returns-in-Err-turn-clause-finishes g c p at =
    let s = g.P.Plant.state c.args.plant.now in
    let s1 = g.P.Plant.state c.categorise_all.new.plant in
    let s2 = g.P.Plant.state c.turn.new.plant in
    let hub1 = c.categorise_all.new.self in
    let hub2 = c.turn.new.self in
    let first = c.in-Ok.ensures.adds in
    let grown = first.2 usual p.settled p.doubtful at.stands in
    let mid = first.0 in
    let cs = entries_categorise hub_setup mid in
    let later = c.categorise_all.ensures.stays.shelf_faults in
    let second = c.in-Err-turn.ensures.turns in
    let tried = second.2 usual grown.kept _ (inl grown.ready) in
    let rose = tried.1 in
    let moment = c.now-turn.result in
    failed s s2 c.args.hub.now hub2 p at _ _ mid moment tried.0 (omega (arith, later, rose)) c.in-Err-turn.fault c.fault_status-in-Err-turn.result c.fault_status-in-Err-turn.ensures.value (inr (c.now-turn.ensures.moment, c.now-turn.ensures.later))
    (unfinished hub_setup c.args.hub.now.broken s s1 s2 hub1 hub2 p.settled p.doubtful mid second.0 cs moment tried.0 c.in-Err-turn.fault grown (second.1 grown.ready.whole) tried.2)

pub returns-in-Ok-turn-clause-finishes : goal.returns-in-Ok-turn-clause-finishes
returns-in-Ok-turn-clause-finishes g c p at =
    let s = g.P.Plant.state c.args.plant.now in
    let s1 = g.P.Plant.state c.categorise_all.new.plant in
    let s2 = g.P.Plant.state c.turn.new.plant in
    let hub1 = c.categorise_all.new.self in
    let hub2 = c.turn.new.self in
    let first = c.in-Ok.ensures.adds in
    let grown = first.2 usual p.settled p.doubtful at.stands in
    let mid = first.0 in
    let cs = entries_categorise hub_setup mid in
    let later = c.categorise_all.ensures.stays.shelf_faults in
    let second = c.in-Ok-turn.ensures.turns in
    let tried = second.2 usual grown.kept _ (inl grown.ready) in
    let rose = tried.1.missed in
    let moment = c.now-turn.result in
    let same = second.1 grown.ready.whole ∙ grown_state hub_setup c.args.hub.now.broken s s1 hub1 p.settled p.doubtful mid cs grown in
    let each = tried_along _ _ tried.0 s1.shelf_faults s2.shelf_faults (ap (λ (st : Standing). count_tried hub_setup st moment) same) tried.1 in
    turned s s2 c.args.hub.now hub2 p at _ _ mid moment tried.0 (omega (arith, later, rose)) (tried_within _ tried.0 s.shelf_faults s1.shelf_faults s2.shelf_faults later each) (c.now-turn.ensures.moment, c.now-turn.ensures.later)
    (finished hub_setup c.args.hub.now.broken s s1 s2 hub1 hub2 p.settled p.doubtful mid second.0 cs moment tried.0 grown (second.1 grown.ready.whole) tried.2)
