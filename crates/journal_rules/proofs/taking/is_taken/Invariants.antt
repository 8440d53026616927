use Rattle.std.proofs.Common.{◌≡◌, drop, option_copied}
use Rattle.journal_rules.specs.Taking.{is_taken}
use Rattle.journal_rules.proofs.taking.is_taken.Given as goal

abbrev pub invariant-loop-rule : goal.invariant-loop-rule
invariant-loop-rule l =
    is_taken l.directory (option_copied l.sender) (drop l.rule-index l.journals) l.mailbox l.target
    ≡ is_taken l.directory (option_copied l.sender) l.journals l.mailbox l.target
