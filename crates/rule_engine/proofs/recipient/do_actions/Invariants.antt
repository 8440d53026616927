use Rattle.std.proofs.Common.{◌≡◌, ◌++◌, drop, true}
use Rattle.std.specs.List.{list_all}
use Rattle.std.specs.Option.{option_copied}
use Rattle.rule_terms.specs.Forms.{is_action}
use Rattle.rule_engine.specs.Edits.{action_edits}
use Rattle.rule_engine.specs.Fate.{after_actions}
use Rattle.rule_engine.proofs.recipient.do_actions.Given as goal

abbrev pub invariant-loop-i : goal.invariant-loop-i
invariant-loop-i l = record {
  form : list_all is_action (drop l.i l.actions) ≡ true;
  rest : after_actions (option_copied l.sender) l.opened l.rule (drop l.i l.actions) l.progress
      ≡ after_actions (option_copied l.sender) l.opened l.rule l.actions l.fn.progress;
  edits : l.edits ++ action_edits (option_copied l.sender) l.opened l.rule l.i (drop l.i l.actions) l.progress
      ≡ l.fn.edits ++ action_edits (option_copied l.sender) l.opened l.rule 0 l.actions l.fn.progress;
}
