-- The byte isn't among those so far.
use Rattle.std.proofs.Common.{◌≡◌, ◌+◌, drop}
use Rattle.std.specs.Prelude.{◌==◌}
use Rattle.std.specs.List.{position_or_len}
use Rattle.journal_report.proofs.cuts.place.Given as goal

abbrev pub invariant-loop-i : goal.invariant-loop-i
invariant-loop-i l = l.i + position_or_len (λ x. x == l.byte) (drop l.i l.bytes) ≡ position_or_len (λ x. x == l.byte) l.bytes
