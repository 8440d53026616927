use Rattle.std.proofs.Common.{◌≡◌, ◌++◌, drop, true}
use Rattle.std.specs.List.{list_all}
use Rattle.std.specs.Option.{option_copied}
use Rattle.rule_match.specs.Applies.{Setting}
use Rattle.rule_terms.specs.Forms.{is_rule}
use Rattle.rule_engine.specs.Edits.{rules_edits}
use Rattle.rule_engine.specs.Fate.{after_rules, start}
use Rattle.rule_engine.proofs.recipient.trace.Given as goal

abbrev pub invariant-loop-i : goal.invariant-loop-i
invariant-loop-i l =
    let setting : Setting = record { directory = l.directory; sender = option_copied l.sender; moment = l.moment } in
    record {
      form : list_all is_rule (drop l.i l.rules) ≡ true;
      rest : after_rules setting l.opened l.recipient l.i (drop l.i l.rules) l.progress
          ≡ after_rules setting l.opened l.recipient 0 l.rules (start l.message);
      edits : l.edits ++ rules_edits setting l.opened l.recipient l.i (drop l.i l.rules) l.progress
          ≡ rules_edits setting l.opened l.recipient 0 l.rules (start l.message);
    }
