use Rattle.std.proofs.Common.{refl, ap, inl}
use Rattle.hub_core.specs.Setup.{setup_of, texts_of}
use Rattle.queue_store.specs.Ready.{Kept, Leaves, IsReady}
use Rattle.std.proofs.Common.{◌++◌, sym, subst, List}
use Rattle.std.specs.Prelude.{OnOk}
use Rattle.log_entry.specs.declared.entry.Entry.{Entry}
use Rattle.hub_core.specs.Journal.{IsJournaled}
use Rattle.queue_store.specs.Planning.{entries_commit}
use Rattle.queue_store.proofs.Journal.{journaled, on_ok}
use Rattle.queue_store.proofs.Adding.{joined_moments, may_moments, either_moments}
use Rattle.queue_store.proofs.Runs.{leads}
use Rattle.queue_store.proofs.hub.Hub.commit.Goals as goal

pub returns-in-Err-clause-adds : goal.returns-in-Err-clause-adds
returns-in-Err-clause-adds g c = (
  c.args.self.now.state,
  λ whole. refl,
  tt,
  λ limits h t stands. inl (c.in-Err.ensures.failed limits h t stands),
)

pub returns-in-Ok-clause-adds : goal.returns-in-Ok-clause-adds
returns-in-Ok-clause-adds g c = (
  c.mend.new.self.state,
  λ whole. ap (λ (k : Kept). k.state) (c.in-Ok.ensures.whole whole).1,
  c.commit_outcome.ensures.end,
  λ limits h t stands.
      let setup = setup_of g.T.Planner.means limits in
      let mid = c.mend.new.self.state in
      let m = c.in-Ok.ensures.mended limits h t stands in
      leads setup (g.P.Plant.state c.args.plant.now) (g.P.Plant.state c.mend.new.plant) (g.P.Plant.state c.commit_outcome.new.plant) c.mend.new.self c.commit_outcome.new.self h t (entries_commit mid c.args.outcome.input (texts_of g.T.Planner.means c.args.outcome.org) c.args.outcome.release) (λ (before : List Entry). Leaves limits.log before (entries_commit mid c.args.outcome.input (texts_of g.T.Planner.means c.args.outcome.org) c.args.outcome.release)) c.commit_outcome.result c.args.self.now.broken m (c.mend.ensures.any_moment limits h t stands)
      (c.commit_outcome.ensures.adds limits m.kept m.pending m.ready) (c.commit_outcome.ensures.fails limits m.kept m.pending m.ready),
)

pub returns-in-Err-clause-any_moment : goal.returns-in-Err-clause-any_moment
returns-in-Err-clause-any_moment g c limits h t stands = may_moments (setup_of g.T.Planner.means limits) _ _ c.args.self.now.broken h t (c.mend.ensures.any_moment limits h t stands)

pub returns-in-Ok-clause-any_moment : goal.returns-in-Ok-clause-any_moment
returns-in-Ok-clause-any_moment g c limits h t stands =
    let setup = setup_of g.T.Planner.means limits in
    let s0 = g.P.Plant.state c.args.plant.now in
    let s1 = g.P.Plant.state c.mend.new.plant in
    let s2 = g.P.Plant.state c.commit_outcome.new.plant in
    let m = c.in-Ok.ensures.mended limits h t stands in
    joined_moments setup s0 s1 s2 c.args.self.now.broken h t m.kept m.pending m.opened (c.mend.ensures.any_moment limits h t stands)
    (either_moments setup s1 s2 c.commit_outcome.new.self m.kept m.pending _ _ c.commit_outcome.result (c.commit_outcome.ensures.adds limits m.kept m.pending m.ready) (c.commit_outcome.ensures.fails limits m.kept m.pending m.ready))

pub returns-in-Ok-clause-journal : goal.returns-in-Ok-clause-journal
returns-in-Ok-clause-journal g c limits h t ready =
    let setup = setup_of g.T.Planner.means limits in
    let org = texts_of g.T.Planner.means c.args.outcome.org in
    let whole = c.in-Ok.ensures.whole ready.whole in
    let ready' = subst (λ (k : Kept). IsReady setup (g.P.Plant.state c.mend.new.plant) k h t) (sym whole.1) (subst (λ p. IsReady setup (g.P.Plant.state p) c.args.self.now h t) (sym whole.2) ready) in
    subst (λ (k : Kept). OnOk c.commit_outcome.result (IsJournaled setup (h ++ (t ++ entries_commit k.state c.args.outcome.input org c.args.outcome.release)))) whole.1
    (on_ok c.commit_outcome.result (journaled setup _ _ _ h t _ (c.reports_list_what_is_sent.ensures limits)) (c.commit_outcome.ensures.adds limits h t ready'))
