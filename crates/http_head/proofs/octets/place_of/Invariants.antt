use Rattle.std.proofs.Common.{◌≡◌, ◌+◌, drop}
use Rattle.std.specs.List.{position_or_len}
use Rattle.http_head.specs.Paths.{is_byte}
use Rattle.http_head.proofs.octets.place_of.Given as goal

abbrev pub invariant-loop-i : goal.invariant-loop-i
invariant-loop-i l = l.i + position_or_len (is_byte l.b) (drop l.i l.text) ≡ position_or_len (is_byte l.b) l.text
