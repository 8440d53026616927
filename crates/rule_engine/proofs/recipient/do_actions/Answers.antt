use Rattle.std.proofs.Common.{◌≡◌, ◌+◌, ◌∷◌, List, drop, true, arith, ◌∙◌}
use Rattle.std.specs.List.{list_all}
use Rattle.std.specs.Option.{option_copied}
use Rattle.std.proofs.lemmas.Grind.{common_steps}
use Rattle.rule_terms.specs.Forms.{is_action}
use Rattle.rule_terms.specs.declared.action.Action.{Action}
use Rattle.rule_engine.proofs.Stepping.{action-ends, action-goes-on, edits-at-end, edits-later}
use Rattle.rule_engine.proofs.recipient.do_actions.Goals as goal

pub returns-in-Some-clause-stage : goal.returns-in-Some-clause-stage
returns-in-Some-clause-stage c =
    let rest : List Action = drop (c.loop-i.i + 1) c.args.actions.now in
    let cut : drop c.loop-i.i c.args.actions.now ≡ c.index-actions-i.result ∷ rest = grind (arith, common_steps) in
    action-ends (option_copied c.args.sender) c.args.opened.now c.args.rule _ c.index-actions-i.result rest c.loop-i.progress c.do_action.new.progress _ c.in-Some.end
    cut c.in_ok-end.ensures c.in-Some.is ∙ c.loop-i.invariant.rest

pub returns-in-Some-clause-edits : goal.returns-in-Some-clause-edits
returns-in-Some-clause-edits c =
    let rest : List Action = drop (c.loop-i.i + 1) c.args.actions.now in
    let cut : drop c.loop-i.i c.args.actions.now ≡ c.index-actions-i.result ∷ rest = grind (arith, common_steps) in
    edits-at-end (option_copied c.args.sender) c.args.opened.now c.args.rule c.loop-i.i _ c.index-actions-i.result rest c.loop-i.progress c.do_action.new.progress _ c.in-Some.end
    c.loop-i.edits c.note_edit.new.edits cut c.in_ok-end.ensures c.in-Some.is c.in_ok-note_edit.ensures ∙ c.loop-i.invariant.edits

pub loop-i-preserved : goal.loop-i-preserved
loop-i-preserved c =
    let rest : List Action = drop (c.loop-i.i + 1) c.args.actions.now in
    let cut : drop c.loop-i.i c.args.actions.now ≡ c.index-actions-i.result ∷ rest = grind (arith, common_steps) in
    record {
      form = let h : list_all is_action (drop c.loop-i.i c.args.actions.now) ≡ true = c.loop-i.invariant.form in grind (arith, common_steps);
      rest = action-goes-on (option_copied c.args.sender) c.args.opened.now c.args.rule _ c.index-actions-i.result rest c.loop-i.progress c.do_action.new.progress _
          cut c.in_ok-end.ensures c.in_default.is ∙ c.loop-i.invariant.rest;
      edits = edits-later (option_copied c.args.sender) c.args.opened.now c.args.rule c.loop-i.i _ c.index-actions-i.result rest c.loop-i.progress c.do_action.new.progress _
          c.loop-i.edits c.note_edit.new.edits cut c.in_ok-end.ensures c.in_default.is c.in_ok-note_edit.ensures ∙ c.loop-i.invariant.edits;
    }
