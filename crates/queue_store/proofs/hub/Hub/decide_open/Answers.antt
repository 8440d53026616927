use Rattle.std.proofs.Common.{rules, ◌≡◌, true, false, Some, ap, ◌∙◌, sym}
use Rattle.hub_core.specs.declared.command.Reply.TheVariants as replies
use Rattle.hub_core.specs.Setup.{setup_of}
use Rattle.hub_core.specs.Mail.{is_taken}
use Rattle.hub_core.specs.Standing.{now_of, decision_of}
use Rattle.hub_core.specs.Replies.{reply_decide}
use Rattle.queue_store.specs.Ready.{Kept}
use Rattle.queue_store.proofs.Adding.{adds-none, adds-along}
use Rattle.queue_store.proofs.Planning.{decision_there, taken_adds, other_decision_adds}
use Rattle.queue_store.proofs.hub.Hub.decide_open.Goals as goal

pub returns-then-not-counts-clause-adds : goal.returns-then-not-counts-clause-adds
returns-then-not-counts-clause-adds g c limits h t ready =
    let setup = setup_of g.T.Planner.means limits in
    let s = c.args.self.now.state in
    let name = c.args.approval.now in
    let by = c.args.by.now in
    let verdict = c.args.verdict in
    let clock = c.args.clock in
    let replied : reply_decide s name by verdict clock ≡ replies.Decided c.in-Ok.decision =
    sym (c.judge_decide.ensures ∙ ap (λ (k : Kept). reply_decide k.state name by verdict clock) c.self.view_is) ∙ c.in-Ok.ensures in
    let other = ap (λ d. is_taken d) (decision_there s name by verdict clock c.in-Ok.decision replied) ∙ (let quiet : is_taken (Some c.in-Ok.decision) ≡ false = search rules in quiet) in
    adds-none setup _ _ h t _ (other_decision_adds s name by verdict clock other) ready

pub returns-in-Ok-add_decision-clause-adds : goal.returns-in-Ok-add_decision-clause-adds
returns-in-Ok-add_decision-clause-adds g c limits h t ready =
    let setup = setup_of g.T.Planner.means limits in
    let s = c.args.self.now.state in
    let name = c.args.approval.now in
    let by = c.args.by.now in
    let verdict = c.args.verdict in
    let clock = c.args.clock in
    let taken : is_taken (decision_of s name by verdict (now_of s clock)) ≡ true = search rules in
    adds-along setup _ _ _ h t _ _ (taken_adds s name by verdict clock taken) (c.in-Ok-add_decision.ensures.adds limits h t ready)
