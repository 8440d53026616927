use Rattle.std.proofs.Common.{◌≡◌, ◌-◌, ◌≤◌, length, drop}
use Rattle.hub_core.specs.Differing.{place_where}
use Rattle.hub_core.proofs.Comparing.{moved_by}
use Rattle.hub_core.proofs.part.place_where.Given as goal

abbrev pub invariant-loop-place : goal.invariant-loop-place
invariant-loop-place g l =
    (l.place ≤ length l.a) × (l.place ≤ length l.b)
    × (place_where g.X.PartialEq.eq l.a l.b ≡ moved_by l.place (place_where g.X.PartialEq.eq (drop l.place l.a) (drop l.place l.b)))

abbrev pub decreases-loop-place : goal.decreases-loop-place
decreases-loop-place g l = length l.a - l.place
