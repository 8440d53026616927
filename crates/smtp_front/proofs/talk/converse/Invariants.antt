use Rattle.std.proofs.Common.{◌≤◌}
use Rattle.smtp_front.specs.Drains.{SoFar}
use Rattle.smtp_front.proofs.talk.converse.Given as goal

abbrev pub invariant-loop-left : goal.invariant-loop-left
invariant-loop-left g l = record {
  goes : SoFar g.I.Intake.gives l.fn.intake l.intake (g.C.Clock.moments l.fn.clock) (g.C.Clock.moments l.clock) (g.K.Sink.taken l.fn.sink) (g.K.Sink.taken l.sink) (g.S.Source.left l.fn.source) (g.S.Source.left l.source) l.dialog l.phase l.left;
  within : l.left ≤ 2147483648;
  sources : g.S.Source.faults l.fn.source ≤ g.S.Source.faults l.source;
  sinks : g.K.Sink.faults l.fn.sink ≤ g.K.Sink.faults l.sink;
  disks : g.I.Intake.disk_faults l.fn.intake ≤ g.I.Intake.disk_faults l.intake;
}

abbrev pub decreases-loop-left : goal.decreases-loop-left
decreases-loop-left g l = l.left
