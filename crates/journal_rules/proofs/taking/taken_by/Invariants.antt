use Rattle.std.proofs.Common.{◌≡◌, ◌++◌, drop, option_copied}
use Rattle.journal_rules.specs.Taking.{is_taken, places}
use Rattle.journal_rules.proofs.taking.taken_by.Given as goal

abbrev pub invariant-loop-place : goal.invariant-loop-place
invariant-loop-place l =
    l.places ++ places (is_taken l.directory (option_copied l.sender) l.journals l.mailbox) l.place (drop l.place l.targets)
    ≡ places (is_taken l.directory (option_copied l.sender) l.journals l.mailbox) 0 l.targets
