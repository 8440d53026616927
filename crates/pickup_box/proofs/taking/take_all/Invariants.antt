use Rattle.std.proofs.Common.{◌≡◌, ◌≤◌, false, take}
use Rattle.pickup_box.proofs.Going.{SoFar}
use Rattle.pickup_box.proofs.taking.take_all.Given as goal

abbrev pub invariant-loop-name : goal.invariant-loop-name
invariant-loop-name g l = record {
  goes : SoFar g.I.Intake.gives l.fn.intake l.intake (g.C.Clock.moments l.fn.clock) (g.C.Clock.moments l.clock) (g.B.PickupDir.state l.fn.dir) (g.B.PickupDir.state l.dir) (take l.name-index l.names) l.end;
  open_still : l.end.full ≡ false;
  folders : (g.B.PickupDir.state l.fn.dir).faults ≤ (g.B.PickupDir.state l.dir).faults;
  disks : g.I.Intake.disk_faults l.fn.intake ≤ g.I.Intake.disk_faults l.intake;
}
