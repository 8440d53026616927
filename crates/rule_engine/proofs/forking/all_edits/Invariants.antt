use Rattle.std.proofs.Common.{◌≡◌, ◌++◌, drop, length}
use Rattle.std.specs.Option.{option_copied}
use Rattle.rule_match.specs.Applies.{Setting}
use Rattle.rule_engine.specs.Forks.{all_edits}
use Rattle.rule_engine.proofs.forking.all_edits.Given as goal

abbrev pub invariant-loop-leaf : goal.invariant-loop-leaf
invariant-loop-leaf l =
    let setting : Setting = record { directory = l.directory; sender = option_copied l.sender; moment = l.moment } in
    record {
      number : length l.all ≡ l.leaf-index;
      all : l.all ++ all_edits l.rules setting l.message l.opened (drop l.leaf-index l.leaves) ≡ all_edits l.rules setting l.message l.opened l.leaves;
    }
