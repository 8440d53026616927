use Rattle.std.proofs.Common.{◌≡◌, ap, ◌∙◌, IfOk, refl, subst}
use Rattle.std.proofs.lemmas.Option.{slice_get_read}
use Rattle.mail_plan.specs.Planning.{Input}
use Rattle.hub_core.specs.declared.command.Reply.{Reply}
use Rattle.hub_core.specs.Setup.{texts_of}
use Rattle.hub_core.specs.Standing.{Standing}
use Rattle.hub_core.proofs.Judging.{commit-judged}
use Rattle.hub_core.proofs.state.State.judge_commit.Goals as goal

pub returns-in-Some : goal.returns-in-Some
returns-in-Some g c =
    let org = texts_of g.T.Planner.means c.args.outcome.now.org in
    let there = c.in-Some.ensures.lookup in
    subst (λ (wanted : Reply). IfOk c.judge.result (λ (reply : Reply). reply ≡ wanted))
    (commit-judged c.args.self.now c.args.outcome.now.input org c.in-Some.live.now c.number-number.result c.as_slice.result.now c.if-number-eq0.false
    (c.number-number.ensures ∙ ap (λ (i : Input). i.number) c.input.ensures)
    (c.as_slice.ensures ∙ ap (λ (s : Standing). s.live) c.self.view_is)
    (slice_get_read _ _ _ c.in-Some.live.now refl there.3.0 there.1))
    c.judge.ensures
