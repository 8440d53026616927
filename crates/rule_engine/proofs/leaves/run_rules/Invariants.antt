use Rattle.std.proofs.Common.{◌≡◌, ◌++◌, List, drop, fold}
use Rattle.rule_engine.specs.declared.recipient.RuleOutcome.{RuleOutcome}
use Rattle.rule_engine.specs.Run.{with_text, distinct, all_used, all_ends, all_copies}
use Rattle.rule_engine.proofs.leaves.run_rules.Given as goal

abbrev pub invariant-loop-i : goal.invariant-loop-i
invariant-loop-i l =
    let all : List RuleOutcome = l.outcome-items in
    let left : List RuleOutcome = drop l.i l.outcome-items in
    record {
      texts : fold with_text l.texts (all_used left) ≡ distinct (all_used all);
      ends : l.fates ++ all_ends (distinct (all_used all)) left ≡ all_ends (distinct (all_used all)) all;
      copies : l.copies ++ all_copies (distinct (all_used all)) l.i left ≡ all_copies (distinct (all_used all)) 0 all;
    }
