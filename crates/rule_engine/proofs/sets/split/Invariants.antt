use Rattle.std.proofs.Common.{◌≡◌}
use Rattle.std.specs.Option.{option_copied}
use Rattle.rule_match.specs.Applies.{Setting}
use Rattle.rule_engine.specs.Sets.{marks_of, chosen_of, others_of}
use Rattle.rule_engine.proofs.sets.split.Given as goal

abbrev pub invariant-loop-key : goal.invariant-loop-key
invariant-loop-key l =
    let setting : Setting = record { directory = l.directory; sender = option_copied l.sender; moment = l.moment } in
    record {
      marks : l.marks ≡ marks_of setting l.message l.rule l.yielded;
      chosen : l.chosen ≡ chosen_of setting l.message l.rule l.yielded;
      others : l.others ≡ others_of setting l.message l.rule l.yielded;
    }
