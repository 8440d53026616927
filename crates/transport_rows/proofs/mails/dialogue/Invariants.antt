-- The command is text.
use denote.Shadow.{shadow}
use denote.Text.{Utf8}
use Rattle.transport_rows.proofs.mails.dialogue.Given as goal

abbrev pub invariant-loop-key : goal.invariant-loop-key
invariant-loop-key l =
    (goal.iterator-loop-key).can_next l.key-iterator ×
    (goal.iterator-loop-key).is_finite l.key-iterator ×
    shadow (Utf8 l.command)
