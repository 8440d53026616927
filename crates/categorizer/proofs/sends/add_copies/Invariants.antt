use Rattle.std.proofs.Common.{◌≡◌, drop, map, fold}
use Rattle.categorizer.specs.Plan.{with_send, copy_send}
use Rattle.categorizer.proofs.sends.add_copies.Given as goal

abbrev pub invariant-loop-copied : goal.invariant-loop-copied
invariant-loop-copied l = fold with_send l.sends (map copy_send (drop l.copied-index l.copies)) ≡ fold with_send l.fn.sends (map copy_send l.copies)
