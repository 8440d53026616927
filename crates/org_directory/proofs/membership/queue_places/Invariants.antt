use Rattle.std.proofs.Common.{◌≡◌, ◌++◌, length, drop}
use Rattle.org_directory.specs.Marks.{marked, newly}
use Rattle.org_directory.proofs.membership.queue_places.Given as goal

abbrev pub invariant-loop-place : goal.invariant-loop-place
invariant-loop-place l =
    (length l.marks ≡ length l.fn.marks)
    × (marked l.marks (drop l.place-index l.places) ≡ marked l.fn.marks l.places)
    × (l.queue.items ++ newly l.marks (drop l.place-index l.places) ≡ l.fn.queue.items ++ newly l.fn.marks l.places)
