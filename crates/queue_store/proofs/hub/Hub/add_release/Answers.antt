use Rattle.std.proofs.Common.{◌≡◌, [], ◌∷◌, ◌++◌, refl, ap, ◌∙◌, sym, subst}
use Rattle.std.proofs.lemmas.Result.{on_ok_weaker}
use Rattle.mail_plan.specs.Planning.{Input}
use Rattle.log_entry.specs.declared.entry.Entry.{Entry}
use Rattle.log_entry.specs.declared.entry.Entry.TheVariants as entries
use Rattle.hub_core.specs.Setup.{setup_of, texts_of}
use Rattle.queue_store.specs.Ready.{Follows}
use Rattle.queue_store.proofs.Adding.{adds-along, fails-along, err_weaker}
use Rattle.queue_store.proofs.Stepping.{waiting_follows}
use Rattle.queue_store.proofs.hub.Hub.add_release.Goals as goal

pub returns-clause-adds : goal.returns-clause-adds
returns-clause-adds g c limits h t ready =
    let s0 = g.P.Plant.state c.args.plant.now in
    let s1 = g.P.Plant.state c.append.new.plant in
    let setup = setup_of g.T.Planner.means limits in
    let org = texts_of g.T.Planner.means c.args.outcome.org in
    let input = c.args.outcome.input in
    let number = c.number-number.ensures ∙ ap (λ (i : Input). i.number) c.input.ensures in
    let release = c.release-release.ensures ∙ ap (λ (i : Input). i.release) c.input-2.ensures in
    let plan = c.into_release-plan.ensures in
    let same : entries.Categorised c.number-number.result c.release-release.result c.into_release-plan.result ≡ entries.Categorised input.number input.release c.args.outcome.release =
    λ i. entries.Categorised (number i) (release i) (plan i) in
    let follows = waiting_follows setup s0 c.args.self.now h t input org c.args.outcome.release ready c.requires (c.prescribed_release.ensures.value limits) c.prescribed_release.ensures.form in
    on_ok_weaker c.append.result (λ done. adds-along setup s0 s1 _ h t _ _ (ap (λ (e : Entry). e ∷ []) same) done)
    (c.append.ensures.adds setup h t ready (subst (λ (e : Entry). Follows setup s0 (h ++ t) e) (sym same) follows) refl)

pub returns-clause-fails : goal.returns-clause-fails
returns-clause-fails g c limits h t ready =
    let s0 = g.P.Plant.state c.args.plant.now in
    let s1 = g.P.Plant.state c.append.new.plant in
    let setup = setup_of g.T.Planner.means limits in
    let input = c.args.outcome.input in
    let number = c.number-number.ensures ∙ ap (λ (i : Input). i.number) c.input.ensures in
    let release = c.release-release.ensures ∙ ap (λ (i : Input). i.release) c.input-2.ensures in
    let plan = c.into_release-plan.ensures in
    let same : entries.Categorised c.number-number.result c.release-release.result c.into_release-plan.result ≡ entries.Categorised input.number input.release c.args.outcome.release =
    λ i. entries.Categorised (number i) (release i) (plan i) in
    err_weaker _ _ c.append.result (λ e fails. fails-along setup s0 s1 c.append.new.self h t _ _ e (ap (λ (x : Entry). x ∷ []) same) fails) (c.append.ensures.fails setup h t ready)
