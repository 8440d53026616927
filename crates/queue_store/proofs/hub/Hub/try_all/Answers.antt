use Rattle.std.proofs.Common.{◌∙◌, true, ◌++◌, [], ◌∷◌, get_or, refl, ap, arith, Ok}
use Rattle.std.proofs.lemmas.List.{drop_all}
use Rattle.mail_names.specs.declared.name.ItemName.{ItemName}
use Rattle.mail_names.specs.declared.name.Mark.TheVariants as marks
use Rattle.plant_dev.proofs.Offered.{stays_not, stays_more}
use Rattle.queue_store.specs.Calls.{entries_try}
use Rattle.queue_store.proofs.Adding.{adds-none, adds-along, later-along, later-first, later-joined, adds-joined, state-goes}
use Rattle.queue_store.proofs.Delivering.{try_deliveries, deliveries_both}
use Rattle.queue_store.proofs.Turning.{Tried-none, Tried-more, Tried-all, Tried-each, Tried-stopped, misses-more}
use Rattle.queue_store.proofs.hub.Hub.try_all.Goals as goal

pub loop-name-init : goal.loop-name-init
loop-name-init g c = record {
  goes = λ setup h t all ready. ([], [], adds-none setup _ _ h t [] refl ready, tt, Tried-none _ _ _, omega arith);
  opening = refl;
  stays = stays_not _;
}

pub loop-name-preserved : goal.loop-name-preserved
loop-name-preserved g c =
    let now = c.loop-name.invariant in
    let none : ItemName = record { submission = 0; release = 0; place = 0; mark = marks.Plain } in
    let name = get_or c.args.names.now c.loop-name.name-index none in
    let put = c.in-Ok.field-0 in
    let s = c.loop-name.self.state in
    let es = entries_try s name put in
    record {
      goes = λ setup h t all ready.
          let so_far = now.goes setup h t all ready in
          let each = deliveries_both t so_far.1 all so_far.3 in
          let one = c.in-Ok.ensures.adds setup h (t ++ so_far.1) each so_far.2.ready in (
            so_far.0 ++ put ∷ [],
            so_far.1 ++ es,
            adds-joined setup _ _ _ _ _ h t so_far.1 es so_far.2 one,
            deliveries_both so_far.1 es so_far.3 (try_deliveries s name put),
            Tried-more _ _ _ so_far.0 so_far.1 _ c.loop-name.name-index none name put _ c.loop-name-test.true refl so_far.4 (state-goes setup _ _ _ _ h (t ++ so_far.1) es so_far.2.ready one.ready),
            misses-more so_far.0 put _ _ _ so_far.5 c.try_item.ensures.stays.shelf_faults (λ e. c.in-Ok.ensures.missed (ap Ok e)),
          );
      opening = c.try_item.ensures.opening ∙ now.opening;
      stays = stays_more _ _ _ now.stays c.try_item.ensures.stays;
    }

pub returns-clause-adds : goal.returns-clause-adds
returns-clause-adds g c setup h t all ready =
    let so_far = c.loop-name.invariant.goes setup h t all ready in
    let over = Tried-all _ _ _ so_far.0 so_far.1 _ _ (drop_all c.loop-name.name-index c.args.names.now c.loop-name-test.false) so_far.4 in
    let each = Tried-each _ _ _ so_far.0 so_far.1 _ _ (drop_all c.loop-name.name-index c.args.names.now c.loop-name-test.false) so_far.4 in
    (so_far.0, adds-along setup _ _ _ h t _ _ over so_far.2, record { each = each; missed = so_far.5 })

pub returns-in-Err-clause-stops : goal.returns-in-Err-clause-stops
returns-in-Err-clause-stops g c setup h t all ready =
    let so_far = c.loop-name.invariant.goes setup h t all ready in
    let none : ItemName = record { submission = 0; release = 0; place = 0; mark = marks.Plain } in
    let name = get_or c.args.names.now c.loop-name.name-index none in
    let s = c.loop-name.self.state in
    let es = entries_try s name true in
    let fails = c.in-Err.ensures.fails setup h (t ++ so_far.1) (deliveries_both t so_far.1 all so_far.3) so_far.2.ready in (
      so_far.0 ++ true ∷ [],
      later-along setup _ _ _ h t _ _ _ (Tried-stopped _ _ _ so_far.0 so_far.1 _ c.loop-name.name-index none name c.loop-name-test.true refl so_far.4)
          (later-joined setup _ _ _ _ _ h t so_far.1 es [] _ so_far.2 (later-first setup _ _ _ h (t ++ so_far.1) es _ fails)),
      misses-more so_far.0 true _ _ _ so_far.5 c.try_item.ensures.stays.shelf_faults (λ e. absurd cc),
    )
