use Rattle.std.proofs.Common.{◌≡◌, drop, fold, map}
use Rattle.journal_rules.specs.Taking.{named, one_more}
use Rattle.journal_rules.proofs.taking.named.Given as goal

abbrev pub invariant-loop-rule : goal.invariant-loop-rule
invariant-loop-rule l = fold one_more l.mailboxes.items (map (λ j. j.mailbox) (drop l.rule-index l.journals)) ≡ named l.journals
