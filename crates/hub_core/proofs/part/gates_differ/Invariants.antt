use Rattle.std.proofs.Common.{◌≡◌, ◌-◌, ◌≤◌, length, drop}
use Rattle.mail_names.specs.Gates.{same_gate}
use Rattle.hub_core.specs.Differing.{place_where}
use Rattle.hub_core.proofs.Comparing.{moved_by}
use Rattle.hub_core.proofs.part.gates_differ.Given as goal

abbrev pub invariant-loop-place : goal.invariant-loop-place
invariant-loop-place l =
    (l.place ≤ length l.a) × (l.place ≤ length l.b)
    × (place_where same_gate l.a l.b ≡ moved_by l.place (place_where same_gate (drop l.place l.a) (drop l.place l.b)))

abbrev pub decreases-loop-place : goal.decreases-loop-place
decreases-loop-place l = length l.a - l.place
