use Rattle.std.proofs.Common.{◌≡◌, [], ◌∷◌, ap, ◌∙◌, sym, subst}
use Rattle.std.specs.Prelude.{is_some, IfSome}
use Rattle.std.specs.Arc.{arc_value}
use Rattle.std.proofs.lemmas.Result.{on_ok_weaker}
use Rattle.log_entry.specs.declared.entry.Entry.TheVariants as entries
use Rattle.mail_plan.specs.declared.release.Release.{Release}
use Rattle.hub_core.specs.Setup.{setup_of, texts_of}
use Rattle.hub_core.specs.Mail.{LiveMail, IsTask, is_uncategorised}
use Rattle.hub_core.specs.Standing.{mail_of}
use Rattle.queue_store.specs.Ready.{Kept}
use Rattle.queue_store.specs.Calls.{entries_made, entries_at}
use Rattle.queue_store.proofs.Adding.{adds-along, fails-along, err_weaker}
use Rattle.queue_store.proofs.Planning.{task_adds, held_of}
use Rattle.queue_store.proofs.hub.Hub.categorise.Goals as goal

pub returns-in-Ok-clause-adds : goal.returns-in-Ok-clause-adds
returns-in-Ok-clause-adds g c limits h t ready =
    let setup = setup_of g.T.Planner.means limits in
    let name = c.args.name.now in
    let s = c.args.self.now.state in
    let task = c.in-Ok-Some.task in
    let input = task.input in
    let org = texts_of g.T.Planner.means (arc_value task.org) in
    let wait =
    sym (ap (λ o. is_some o) c.in-Ok-Some.field-0-is) ∙ c.in-Ok-Some.ensures.waits ∙ ap (λ (k : Kept). is_uncategorised (mail_of k.state name.submission) name.release) c.self.view_is in
    let made = subst (λ (k : Kept). IfSome (mail_of k.state name.submission) (λ (mail : LiveMail). IsTask name.submission mail input org)) c.self.view_is
    (held_of c.in-Ok-Some.field-0 task (λ t. IfSome (mail_of c.self.inside.state name.submission) (λ (mail : LiveMail). IsTask name.submission mail t.input (texts_of g.T.Planner.means (arc_value t.org))))
    c.in-Ok-Some.field-0-is c.in-Ok-Some.ensures.made) in
    let release = held_of c.in-Ok-Some.field-0 task (λ t. t.input.release ≡ name.release) c.in-Ok-Some.field-0-is c.in-Ok-Some.ensures.release in
    let own : entries.Categorised c.in-Ok.outcome.input.number c.in-Ok.outcome.input.release c.in-Ok.outcome.release ∷ [] ≡ entries_made setup input org =
    ap (λ (r : Release). entries.Categorised c.in-Ok.outcome.input.number c.in-Ok.outcome.input.release r ∷ []) (c.add_release.ensures.prescribed limits)
    ∙ (λ i. entries_made setup (c.in-Ok.ensures i).input (texts_of g.T.Planner.means (c.in-Ok.ensures i).org)) in
    let same : entries.Categorised c.in-Ok.outcome.input.number c.in-Ok.outcome.input.release c.in-Ok.outcome.release ∷ [] ≡ entries_at setup s name = own ∙ task_adds setup s input org name wait made release in
    on_ok_weaker c.add_release.result (λ done. adds-along setup _ _ _ h t _ _ same done) (c.add_release.ensures.adds limits h t ready)

pub returns-in-Ok-clause-fails : goal.returns-in-Ok-clause-fails
returns-in-Ok-clause-fails g c limits h t ready =
    let setup = setup_of g.T.Planner.means limits in
    let name = c.args.name.now in
    let s = c.args.self.now.state in
    let task = c.in-Ok-Some.task in
    let input = task.input in
    let org = texts_of g.T.Planner.means (arc_value task.org) in
    let wait =
    sym (ap (λ o. is_some o) c.in-Ok-Some.field-0-is) ∙ c.in-Ok-Some.ensures.waits ∙ ap (λ (k : Kept). is_uncategorised (mail_of k.state name.submission) name.release) c.self.view_is in
    let made = subst (λ (k : Kept). IfSome (mail_of k.state name.submission) (λ (mail : LiveMail). IsTask name.submission mail input org)) c.self.view_is
    (held_of c.in-Ok-Some.field-0 task (λ t. IfSome (mail_of c.self.inside.state name.submission) (λ (mail : LiveMail). IsTask name.submission mail t.input (texts_of g.T.Planner.means (arc_value t.org))))
    c.in-Ok-Some.field-0-is c.in-Ok-Some.ensures.made) in
    let release = held_of c.in-Ok-Some.field-0 task (λ t. t.input.release ≡ name.release) c.in-Ok-Some.field-0-is c.in-Ok-Some.ensures.release in
    let own : entries.Categorised c.in-Ok.outcome.input.number c.in-Ok.outcome.input.release c.in-Ok.outcome.release ∷ [] ≡ entries_made setup input org =
    ap (λ (r : Release). entries.Categorised c.in-Ok.outcome.input.number c.in-Ok.outcome.input.release r ∷ []) (c.add_release.ensures.prescribed limits)
    ∙ (λ i. entries_made setup (c.in-Ok.ensures i).input (texts_of g.T.Planner.means (c.in-Ok.ensures i).org)) in
    let same : entries.Categorised c.in-Ok.outcome.input.number c.in-Ok.outcome.input.release c.in-Ok.outcome.release ∷ [] ≡ entries_at setup s name = own ∙ task_adds setup s input org name wait made release in
    err_weaker _ _ c.add_release.result (λ e way. fails-along setup _ _ _ h t _ _ e same way) (c.add_release.ensures.fails limits h t ready)
