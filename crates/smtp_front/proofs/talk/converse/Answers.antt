use Rattle.std.proofs.Common.{◌++◌, length-append, take, Ok, ap, sym, subst, arith, inl}
use Rattle.port_io.proofs.Offered.{Consumes-twice, Consumes-end, Consumes-kept}
use Rattle.smtp_front.specs.declared.react.Phase.TheVariants as phases
use Rattle.smtp_front.specs.Events.{Held, nothing, fed}
use Rattle.smtp_front.specs.Holds.{Holds}
use Rattle.smtp_front.proofs.Draining.{SoFar-start, StaysOpen-cut}
use Rattle.smtp_front.proofs.Ending.{WentOn-closes, WentOn-rests, WentOn-starves, WentOn-overruns, closes-source, closes-sink}
use Rattle.smtp_front.proofs.talk.converse.Goals as goal

pub loop-left-init : goal.loop-left-init
loop-left-init g c = record {
  goes = SoFar-start g.I.Intake.gives c.args.intake.now (g.C.Clock.moments c.args.clock.now) (g.K.Sink.taken c.args.sink.now) (g.S.Source.left c.args.source.now) c.args.dialog c.requires;
  within = omega arith;
  sources = omega arith;
  sinks = omega arith;
  disks = omega arith;
}

pub returns-in-Ok-eq0-clause-went_on : goal.returns-in-Ok-eq0-clause-went_on
returns-in-Ok-eq0-clause-went_on g c =
    let so = c.loop-left.invariant.goes in
    let none = ap (λ n. take n c.read_piece.new.wire) c.in-Ok-eq0.field-0-test in (
      so.text,
      Consumes-end _ _ _ _ _ none so.took c.in-Ok-eq0.ensures.bytes,
      WentOn-rests g.I.Intake.gives c.args.intake.now c.loop-left.intake (g.C.Clock.moments c.args.clock.now) (g.C.Clock.moments c.loop-left.clock)
          (g.K.Sink.taken c.args.sink.now) (g.K.Sink.taken c.loop-left.sink) so.text (g.S.Source.left c.read_piece.new.source) c.end_at.result
          (record { phase' = c.loop-left.phase; stays = so.stays; none = so.none })
          (c.end_at.ensures so.stays.after so.holds so.none) (c.in-Ok-eq0.ensures.end (ap Ok c.in-Ok-eq0.field-0-test)),
    )

pub returns-in-Err-clause-went_on : goal.returns-in-Err-clause-went_on
returns-in-Err-clause-went_on g c =
    let so = c.loop-left.invariant.goes in (
      so.text,
      Consumes-kept _ _ _ _ so.took c.in-Err.ensures.kept,
      record { phase' = c.loop-left.phase; stays = so.stays; none = so.none },
    )

pub returns-in-Err-feed-clause-went_on : goal.returns-in-Err-feed-clause-went_on
returns-in-Err-feed-clause-went_on g c =
    let so = c.loop-left.invariant.goes in
    let piece = take c.in-Ok.count c.read_piece.new.wire in
    let t = StaysOpen-cut g.I.Intake.gives phases.New so.text c.args.intake.now c.loop-left.intake (g.C.Clock.moments c.args.clock.now) (g.C.Clock.moments c.loop-left.clock) (g.K.Sink.taken c.args.sink.now) (g.K.Sink.taken c.loop-left.sink) c.loop-left.phase so.stays piece in (
      so.text ++ piece,
      Consumes-twice _ _ _ _ _ so.took c.in-Ok.ensures.bytes,
      WentOn-starves g.I.Intake.gives c.args.intake.now c.loop-left.intake (g.C.Clock.moments c.args.clock.now) (g.C.Clock.moments c.loop-left.clock)
          (g.K.Sink.taken c.args.sink.now) (g.K.Sink.taken c.loop-left.sink) (g.K.Sink.taken c.close.new.sink) (so.text ++ piece) (g.S.Source.left c.read_piece.new.source) c.close.result
          (inl (c.loop-left.phase, t.0)) c.close.ensures.closed,
    )

pub returns-in-Over-clause-went_on : goal.returns-in-Over-clause-went_on
returns-in-Over-clause-went_on g c =
    let so = c.loop-left.invariant.goes in
    let piece = take c.in-Ok.count c.read_piece.new.wire in
    let t = StaysOpen-cut g.I.Intake.gives phases.New so.text c.args.intake.now c.loop-left.intake (g.C.Clock.moments c.args.clock.now) (g.C.Clock.moments c.loop-left.clock) (g.K.Sink.taken c.args.sink.now) (g.K.Sink.taken c.loop-left.sink) c.loop-left.phase so.stays piece in
    let d = c.in-Over.ensures.drains phases.New (fed nothing (so.text ++ piece)) c.args.intake.now (g.C.Clock.moments c.args.clock.now) (g.K.Sink.taken c.args.sink.now) t.0
    (subst (λ (h : Held). Holds c.feed.new.self h) (sym t.1) (c.in-Ok-feed.ensures.ok so.stays.after so.holds)) in (
      so.text ++ piece,
      Consumes-twice _ _ _ _ _ so.took c.in-Ok.ensures.bytes,
      WentOn-closes g.I.Intake.gives c.args.intake.now c.drain.new.intake (g.C.Clock.moments c.args.clock.now) (g.C.Clock.moments c.drain.new.clock)
          (g.K.Sink.taken c.args.sink.now) (g.K.Sink.taken c.drain.new.sink) (so.text ++ piece) (g.S.Source.left c.read_piece.new.source) c.in-Over.end d,
    )

pub returns-in-Over-clause-source_fault : goal.returns-in-Over-clause-source_fault
returns-in-Over-clause-source_fault g c = λ e.
    let so = c.loop-left.invariant.goes in
    let piece = take c.in-Ok.count c.read_piece.new.wire in
    let t = StaysOpen-cut g.I.Intake.gives phases.New so.text c.args.intake.now c.loop-left.intake (g.C.Clock.moments c.args.clock.now) (g.C.Clock.moments c.loop-left.clock) (g.K.Sink.taken c.args.sink.now) (g.K.Sink.taken c.loop-left.sink) c.loop-left.phase so.stays piece in
    let d = c.in-Over.ensures.drains phases.New (fed nothing (so.text ++ piece)) c.args.intake.now (g.C.Clock.moments c.args.clock.now) (g.K.Sink.taken c.args.sink.now) t.0
    (subst (λ (h : Held). Holds c.feed.new.self h) (sym t.1) (c.in-Ok-feed.ensures.ok so.stays.after so.holds)) in
    closes-source _ _ _ _ _ _ _ _ _ _ d e

pub returns-in-Over-clause-sink_fault : goal.returns-in-Over-clause-sink_fault
returns-in-Over-clause-sink_fault g c = λ e.
    let so = c.loop-left.invariant.goes in
    let piece = take c.in-Ok.count c.read_piece.new.wire in
    let t = StaysOpen-cut g.I.Intake.gives phases.New so.text c.args.intake.now c.loop-left.intake (g.C.Clock.moments c.args.clock.now) (g.C.Clock.moments c.loop-left.clock) (g.K.Sink.taken c.args.sink.now) (g.K.Sink.taken c.loop-left.sink) c.loop-left.phase so.stays piece in
    let d = c.in-Over.ensures.drains phases.New (fed nothing (so.text ++ piece)) c.args.intake.now (g.C.Clock.moments c.args.clock.now) (g.K.Sink.taken c.args.sink.now) t.0
    (subst (λ (h : Held). Holds c.feed.new.self h) (sym t.1) (c.in-Ok-feed.ensures.ok so.stays.after so.holds)) in
    closes-sink _ _ _ _ _ _ _ _ _ _ d e

pub returns-in-Halted-NoMemory-clause-went_on : goal.returns-in-Halted-NoMemory-clause-went_on
returns-in-Halted-NoMemory-clause-went_on g c =
    let so = c.loop-left.invariant.goes in
    let piece = take c.in-Ok.count c.read_piece.new.wire in
    let t = StaysOpen-cut g.I.Intake.gives phases.New so.text c.args.intake.now c.loop-left.intake (g.C.Clock.moments c.args.clock.now) (g.C.Clock.moments c.loop-left.clock) (g.K.Sink.taken c.args.sink.now) (g.K.Sink.taken c.loop-left.sink) c.loop-left.phase so.stays piece in
    let d = rw c.in-Halted-NoMemory.halt-is at (c.in-Halted-NoMemory.ensures.drains phases.New (fed nothing (so.text ++ piece)) c.args.intake.now (g.C.Clock.moments c.args.clock.now) (g.K.Sink.taken c.args.sink.now) t.0
    (subst (λ (h : Held). Holds c.feed.new.self h) (sym t.1) (c.in-Ok-feed.ensures.ok so.stays.after so.holds))) in (
      so.text ++ piece,
      Consumes-twice _ _ _ _ _ so.took c.in-Ok.ensures.bytes,
      WentOn-starves g.I.Intake.gives c.args.intake.now c.drain.new.intake (g.C.Clock.moments c.args.clock.now) (g.C.Clock.moments c.drain.new.clock)
          (g.K.Sink.taken c.args.sink.now) (g.K.Sink.taken c.drain.new.sink) (g.K.Sink.taken c.close-in-Halted-NoMemory.new.sink) (so.text ++ piece) (g.S.Source.left c.read_piece.new.source) c.close-in-Halted-NoMemory.result
          d c.close-in-Halted-NoMemory.ensures.closed,
    )

pub returns-in-Halted-SinkFault-clause-went_on : goal.returns-in-Halted-SinkFault-clause-went_on
returns-in-Halted-SinkFault-clause-went_on g c =
    let so = c.loop-left.invariant.goes in
    let piece = take c.in-Ok.count c.read_piece.new.wire in
    let t = StaysOpen-cut g.I.Intake.gives phases.New so.text c.args.intake.now c.loop-left.intake (g.C.Clock.moments c.args.clock.now) (g.C.Clock.moments c.loop-left.clock) (g.K.Sink.taken c.args.sink.now) (g.K.Sink.taken c.loop-left.sink) c.loop-left.phase so.stays piece in
    let d = rw c.in-Halted-SinkFault.halt-is at (c.in-Halted-SinkFault.ensures.drains phases.New (fed nothing (so.text ++ piece)) c.args.intake.now (g.C.Clock.moments c.args.clock.now) (g.K.Sink.taken c.args.sink.now) t.0
    (subst (λ (h : Held). Holds c.feed.new.self h) (sym t.1) (c.in-Ok-feed.ensures.ok so.stays.after so.holds))) in
    (so.text ++ piece, Consumes-twice _ _ _ _ _ so.took c.in-Ok.ensures.bytes, inl d)

pub loop-left-preserved : goal.loop-left-preserved
loop-left-preserved g c =
    let so = c.loop-left.invariant.goes in
    let piece = take c.in-Ok.count c.read_piece.new.wire in
    let t = StaysOpen-cut g.I.Intake.gives phases.New so.text c.args.intake.now c.loop-left.intake (g.C.Clock.moments c.args.clock.now) (g.C.Clock.moments c.loop-left.clock) (g.K.Sink.taken c.args.sink.now) (g.K.Sink.taken c.loop-left.sink) c.loop-left.phase so.stays piece in
    let d = c.in-Open.ensures.drains phases.New (fed nothing (so.text ++ piece)) c.args.intake.now (g.C.Clock.moments c.args.clock.now) (g.K.Sink.taken c.args.sink.now) t.0
    (subst (λ (h : Held). Holds c.feed.new.self h) (sym t.1) (c.in-Ok-feed.ensures.ok so.stays.after so.holds)) in
    record {
      goes = record {
        text = so.text ++ piece;
        took = Consumes-twice _ _ _ _ _ so.took c.in-Ok.ensures.bytes;
        stays = d.0;
        none = d.1;
        holds = d.2;
        long = omega (arith, length-append so.text piece, c.in-Ok.ensures.long, c.in-Ok.ensures.bound, c.min-room.ensures, so.long);
      };
      within = omega (arith, c.loop-left.invariant.within);
      sources = omega (arith, c.loop-left.invariant.sources, c.in-Ok.ensures.cause.later);
      sinks = omega (arith, c.loop-left.invariant.sinks, c.drain.ensures.sinks);
      disks = omega (arith, c.loop-left.invariant.disks, c.drain.ensures.disks);
    }

pub returns-clause-went_on : goal.returns-clause-went_on
returns-clause-went_on g c =
    let so = c.loop-left.invariant.goes in (
      so.text,
      so.took,
      WentOn-overruns g.I.Intake.gives c.args.intake.now c.loop-left.intake (g.C.Clock.moments c.args.clock.now) (g.C.Clock.moments c.loop-left.clock)
          (g.K.Sink.taken c.args.sink.now) (g.K.Sink.taken c.loop-left.sink) (g.K.Sink.taken c.close-2.new.sink) so.text (g.S.Source.left c.loop-left.source) c.close-2.result
          (record { phase' = c.loop-left.phase; stays = so.stays; none = so.none }) (omega (arith, so.long, c.loop-left-test.false)) c.close-2.ensures.closed,
    )
