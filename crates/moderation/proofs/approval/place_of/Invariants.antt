-- None of the keys so far is the key.
use Rattle.std.proofs.Common.{◌≡◌, ◌+◌, drop}
use Rattle.std.specs.Prelude.{bytes_eq}
use Rattle.std.specs.List.{position_or_len}
use Rattle.moderation.proofs.approval.place_of.Given as goal

abbrev pub invariant-loop-place : goal.invariant-loop-place
invariant-loop-place l = l.place + position_or_len (bytes_eq l.key) (drop l.place l.keys) ≡ position_or_len (bytes_eq l.key) l.keys
