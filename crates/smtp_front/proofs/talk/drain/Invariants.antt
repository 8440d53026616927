use Rattle.std.proofs.Common.{◌≤◌, ℕ, List, Option}
use Rattle.smtp_front.specs.declared.react.Phase.{Phase}
use Rattle.smtp_front.specs.Events.{Held}
use Rattle.smtp_front.specs.Holds.{Holds, unread}
use Rattle.smtp_front.specs.Sessions.{StaysOpen}
use Rattle.smtp_front.proofs.talk.drain.Given as goal

abbrev pub invariant-loop-event : goal.invariant-loop-event
invariant-loop-event g l = record {
  goes : (first : Phase) (text : Held) (start : g.row.I.Denot) (began : ℕ → Option ℕ) (taken : Option (List ℕ)) →
      (so_far : StaysOpen g.I.Intake.gives first text start l.fn.intake began (g.C.Clock.moments l.fn.clock) taken (g.K.Sink.taken l.fn.sink) l.fn.phase) → Holds l.fn.dialog so_far.after →
      (s : StaysOpen g.I.Intake.gives first text start l.intake began (g.C.Clock.moments l.clock) taken (g.K.Sink.taken l.sink) l.phase) × Holds l.dialog s.after;
  sinks : g.K.Sink.faults l.fn.sink ≤ g.K.Sink.faults l.sink;
  disks : g.I.Intake.disk_faults l.fn.intake ≤ g.I.Intake.disk_faults l.intake;
}

abbrev pub decreases-loop-event : goal.decreases-loop-event
decreases-loop-event g l = unread l.dialog
