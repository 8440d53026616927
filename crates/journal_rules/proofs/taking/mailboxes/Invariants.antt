use Rattle.std.proofs.Common.{◌≡◌, ◌++◌, drop, option_copied, filter, map}
use Rattle.journal_rules.specs.Taking.{taken_by, takings, has_some}
use Rattle.journal_rules.proofs.taking.mailboxes.Given as goal

abbrev pub invariant-loop-mailbox : goal.invariant-loop-mailbox
invariant-loop-mailbox l =
    l.all.items ++ filter (λ t. has_some t.targets)
    (map (taken_by l.directory (option_copied l.sender) l.book.journals l.targets) (drop l.mailbox-index l.mailbox-items))
    ≡ takings l.directory (option_copied l.sender) l.book.journals l.targets
