use Rattle.std.proofs.Common.{◌≡◌, ◌+◌, ◌++◌, [], get_or, drop, refl, ap, ◌∙◌, sym, append-nil}
use Rattle.std.proofs.lemmas.List.{drop_all}
use Rattle.plant_dev.proofs.Offered.{stays_not, stays_more}
use Rattle.hub_core.specs.declared.live.TaskName.{TaskName}
use Rattle.hub_core.specs.Setup.{setup_of}
use Rattle.queue_store.specs.Calls.{after_entries, entries_at, entries_all}
use Rattle.queue_store.proofs.Adding.{adds-none, adds-along, adds-joined, state-goes, later-along, later-first, later-joined}
use Rattle.queue_store.proofs.Turning.{all_more, all_stopped}
use Rattle.queue_store.proofs.hub.Hub.categorise_each.Goals as goal

pub loop-name-init : goal.loop-name-init
loop-name-init g c = record {
  goes = λ limits h t ready. ([], adds-none (setup_of g.T.Planner.means limits) _ _ h t [] refl ready, refl);
  opening = refl;
  stays = stays_not _;
}

pub loop-name-preserved : goal.loop-name-preserved
loop-name-preserved g c =
    let now = c.loop-name.invariant in
    let none : TaskName = record { submission = 0; release = 0 } in
    let name = get_or c.args.names.now c.loop-name.name-index none in
    record {
      goes = λ limits h t ready.
          let setup = setup_of g.T.Planner.means limits in
          let es = entries_at setup c.loop-name.self.state name in
          let so_far = now.goes limits h t ready in
          let one = c.in-Ok.ensures.adds limits h (t ++ so_far.0) so_far.1.ready in (
            so_far.0 ++ es,
            adds-joined setup _ _ _ _ _ h t so_far.0 es so_far.1 one,
            all_more setup c.args.names.now c.loop-name.name-index none name _ _ so_far.0 es _ c.loop-name-test.true refl refl
                (state-goes setup _ _ _ _ h (t ++ so_far.0) es so_far.1.ready one.ready) so_far.2,
          );
      opening = c.categorise.ensures.opening ∙ now.opening;
      stays = stays_more _ _ _ now.stays c.categorise.ensures.stays;
    }

pub returns-clause-adds : goal.returns-clause-adds
returns-clause-adds g c limits h t ready =
    let setup = setup_of g.T.Planner.means limits in
    let so_far = c.loop-name.invariant.goes limits h t ready in
    let over = drop_all c.loop-name.name-index c.args.names.now c.loop-name-test.false in
    let all : so_far.0 ≡ entries_all setup c.args.self.now.state c.args.names.now =
    sym (append-nil so_far.0) ∙ ap (λ ns. so_far.0 ++ entries_all setup c.loop-name.self.state ns) (sym over) ∙ so_far.2 in
    adds-along setup _ _ _ h t _ _ all so_far.1

pub returns-in-Err-clause-stops : goal.returns-in-Err-clause-stops
returns-in-Err-clause-stops g c limits h t ready =
    let setup = setup_of g.T.Planner.means limits in
    let so_far = c.loop-name.invariant.goes limits h t ready in
    let none : TaskName = record { submission = 0; release = 0 } in
    let names = c.args.names.now in
    let name = get_or names c.loop-name.name-index none in
    let s = c.loop-name.self.state in
    let es = entries_at setup s name in
    let rest = entries_all setup (after_entries setup s es) (drop (c.loop-name.name-index + 1) names) in
    later-along setup _ _ _ h t _ _ _ (all_stopped setup names c.loop-name.name-index none name s so_far.0 es _ c.loop-name-test.true refl refl so_far.2)
    (later-joined setup _ _ _ _ _ h t so_far.0 es rest _ so_far.1 (later-first setup _ _ _ h (t ++ so_far.0) es _ (c.in-Err.ensures.fails limits h (t ++ so_far.0) so_far.1.ready)))
