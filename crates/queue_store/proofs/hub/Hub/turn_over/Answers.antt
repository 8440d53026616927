use Rattle.std.proofs.Common.{◌++◌, [], ◌∷◌, refl, ap, ◌∙◌, arith}
use Rattle.std.proofs.lemmas.Result.{on_ok_weaker}
use Rattle.log_entry.specs.declared.entry.Entry.TheVariants as entries
use Rattle.hub_core.specs.Setup.{setup_of}
use Rattle.hub_core.specs.Standing.{now_of}
use Rattle.queue_store.specs.Ready.{Kept}
use Rattle.queue_store.specs.Calls.{after_entries}
use Rattle.queue_store.proofs.Adding.{err_weaker}
use Rattle.queue_store.proofs.Runs.{state-turns, turns-joined, turns-along, turn-stops-joined, turn-stops-along, turn-stops-more}
use Rattle.queue_store.proofs.Turning.{turn-entries, tried-behind, tried_along, tried_within}
use Rattle.queue_store.proofs.hub.Hub.turn_over.Goals as goal

pub returns-in-Ok-clause-turns : goal.returns-in-Ok-clause-turns
returns-in-Ok-clause-turns g c limits h t ready =
    let setup = setup_of g.T.Planner.means limits in
    let s0 = g.P.Plant.state c.args.plant.now in
    let s1 = g.P.Plant.state c.begin_turn.new.plant in
    let s2 = g.P.Plant.state c.try_settled.new.plant in
    let s = c.args.self.now.state in
    let moment = c.now-moment.result in
    let begun = entries.Moment moment ∷ [] in
    let at = c.now-moment.ensures.value ∙ ap (λ (k : Kept). now_of k.state c.args.clock) c.self.view_is in
    let one = c.in-Ok.ensures.turns limits h t ready in
    let rise = c.begin_turn.ensures.stays.shelf_faults in
    on_ok_weaker c.try_settled.result (λ tried. (
      tried.0,
      turns-along setup s0 s2 c.try_settled.new.self h t _ _ (turn-entries setup s _ c.args.clock moment tried.0 c.requires at (state-turns setup s0 s1 c.args.self.now c.begin_turn.new.self h t begun ready one.ready))
          (turns-joined setup s0 s1 s2 c.begin_turn.new.self c.try_settled.new.self h t begun _ one tried.1),
      tried_along _ _ tried.0 _ _ (tried-behind setup s _ c.args.clock moment c.requires at (state-turns setup s0 s1 c.args.self.now c.begin_turn.new.self h t begun ready one.ready)) (tried_within _ tried.0 _ _ _ rise tried.2),
    ))
    (c.try_settled.ensures.turns setup ((h ++ t) ++ begun) one.ready)

pub returns-in-Ok-clause-stops : goal.returns-in-Ok-clause-stops
returns-in-Ok-clause-stops g c limits h t ready =
    let setup = setup_of g.T.Planner.means limits in
    let s0 = g.P.Plant.state c.args.plant.now in
    let s1 = g.P.Plant.state c.begin_turn.new.plant in
    let s2 = g.P.Plant.state c.try_settled.new.plant in
    let s = c.args.self.now.state in
    let moment = c.now-moment.result in
    let begun = entries.Moment moment ∷ [] in
    let at = c.now-moment.ensures.value ∙ ap (λ (k : Kept). now_of k.state c.args.clock) c.self.view_is in
    let one = c.in-Ok.ensures.turns limits h t ready in
    let rise = c.begin_turn.ensures.stays.shelf_faults in
    err_weaker _ _ c.try_settled.result (λ e tried. (
      tried.0,
      turn-stops-along setup s0 s2 c.try_settled.new.self h t _ _ e (turn-entries setup s _ c.args.clock moment tried.0 c.requires at (state-turns setup s0 s1 c.args.self.now c.begin_turn.new.self h t begun ready one.ready))
          (turn-stops-joined setup s0 s1 s2 c.begin_turn.new.self c.try_settled.new.self h t begun _ e one tried.1),
      (let so_far = tried.2 in omega (arith, so_far, rise)),
    ))
    (c.try_settled.ensures.stops setup ((h ++ t) ++ begun) one.ready)

pub returns-in-Err-clause-stops : goal.returns-in-Err-clause-stops
returns-in-Err-clause-stops g c limits h t ready =
    let setup = setup_of g.T.Planner.means limits in
    let s = c.args.self.now.state in
    let moment = c.now-moment.result in
    let begun = entries.Moment moment ∷ [] in
    let at = c.now-moment.ensures.value ∙ ap (λ (k : Kept). now_of k.state c.args.clock) c.self.view_is in
    let rise = c.begin_turn.ensures.stays.shelf_faults in (
      [],
      turn-stops-along setup _ _ _ h t _ _ _ (turn-entries setup s (after_entries setup s begun) c.args.clock moment [] c.requires at refl)
          (turn-stops-more setup _ _ _ h t begun _ _ (c.in-Err.ensures.stops limits h t ready)),
      omega (arith, rise),
    )
