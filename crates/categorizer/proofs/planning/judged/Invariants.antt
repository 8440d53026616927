use Rattle.std.proofs.Common.{◌≡◌, ◌++◌, drop}
use Rattle.std.specs.Option.{option_copied}
use Rattle.rule_match.specs.Applies.{Setting}
use Rattle.rule_engine.specs.Run.{outcomes}
use Rattle.categorizer.specs.Plan.{judged}
use Rattle.categorizer.proofs.planning.judged.Given as goal

abbrev pub invariant-loop-leaf : goal.invariant-loop-leaf
invariant-loop-leaf l =
    let setting : Setting = record { directory = l.directory; sender = option_copied l.sender; moment = l.moment } in
    record {
      left : l.left.items ≡ outcomes l.rules setting l.message l.opened (drop l.leaf-index l.leaves);
      all : l.all ++ judged l.rules setting l.message l.opened (drop l.leaf-index l.leaves) ≡ judged l.rules setting l.message l.opened l.leaves;
    }
