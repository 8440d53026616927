use Rattle.std.proofs.Common.{sym, subst, inl, arith}
use Rattle.smtp_front.specs.Events.{Held, next_of}
use Rattle.smtp_front.specs.Holds.{Holds}
use Rattle.smtp_front.proofs.Draining.{StaysOpen-push, Closes-push, Begins-push, halted}
use Rattle.smtp_front.proofs.Holding.{next-none}
use Rattle.smtp_front.proofs.talk.drain.Goals as goal

pub returns-in-Ok-None-clause-drains : goal.returns-in-Ok-None-clause-drains
returns-in-Ok-None-clause-drains g c = λ first text start began taken so_far holds.
    let s = c.loop-event.invariant.goes first text start began taken so_far holds in
    let n = rw c.in-Ok-None.field-0-is at (c.in-Ok-None.ensures.ok s.0.after s.1) in
    let none = sym n.0 in
    (s.0, none, subst (λ (h : Held). Holds c.next.new.self h) (next-none s.0.after none) n.1)

pub returns-in-Err-clause-drains : goal.returns-in-Err-clause-drains
returns-in-Err-clause-drains g c = λ first text start began taken so_far holds.
    inl (c.loop-event.phase, (c.loop-event.invariant.goes first text start began taken so_far holds).0)

pub returns-in-Err-react-clause-drains : goal.returns-in-Err-react-clause-drains
returns-in-Err-react-clause-drains g c = λ first text start began taken so_far holds.
    inl (c.loop-event.phase, (c.loop-event.invariant.goes first text start began taken so_far holds).0)

pub returns-in-Err-say-clause-drains : goal.returns-in-Err-say-clause-drains
returns-in-Err-say-clause-drains g c = λ first text start began taken so_far holds.
    let s = c.loop-event.invariant.goes first text start began taken so_far holds in
    let n = rw c.in-Ok-Some.field-0-is at (c.in-Ok-Some.ensures.ok s.0.after s.1) in
    let begun = Begins-push g.I.Intake.gives first text start c.loop-event.intake c.ask-outcome.new.intake
    began (g.C.Clock.moments c.loop-event.clock) (g.C.Clock.moments c.ask-outcome.new.clock)
    taken (g.K.Sink.taken c.loop-event.sink)
    c.loop-event.phase s.0 c.in-Ok-Some.event c.in-Ok.reaction c.ask-outcome.result.reply c.ask-outcome.result.end (sym n.0) c.in-Ok.ensures c.ask-outcome.ensures.asked in
    halted g.I.Intake.gives first text start c.ask-outcome.new.intake began (g.C.Clock.moments c.ask-outcome.new.clock)
    taken (g.K.Sink.taken c.loop-event.sink) (g.K.Sink.taken c.say.new.sink) c.follow.new.dialog c.in-Err-say.halt _ begun.0 begun.1 c.in-Err-say.ensures.err

pub returns-in-Some-clause-drains : goal.returns-in-Some-clause-drains
returns-in-Some-clause-drains g c = λ first text start began taken so_far holds.
    let s = c.loop-event.invariant.goes first text start began taken so_far holds in
    let n = rw c.in-Ok-Some.field-0-is at (c.in-Ok-Some.ensures.ok s.0.after s.1) in
    Closes-push g.I.Intake.gives first text start c.loop-event.intake c.ask-outcome.new.intake
    began (g.C.Clock.moments c.loop-event.clock) (g.C.Clock.moments c.ask-outcome.new.clock)
    taken (g.K.Sink.taken c.loop-event.sink) (g.K.Sink.taken c.say.new.sink)
    c.loop-event.phase s.0 c.in-Ok-Some.event c.in-Ok.reaction c.ask-outcome.result.reply c.ask-outcome.result.end c.in-Some.end (sym n.0) c.in-Ok.ensures c.ask-outcome.ensures.asked
    c.in-Ok-say.ensures.ok c.in-Some.is

pub loop-event-preserved : goal.loop-event-preserved
loop-event-preserved g c = record {
  goes = λ first text start began taken so_far holds.
      let s = c.loop-event.invariant.goes first text start began taken so_far holds in
      let n = rw c.in-Ok-Some.field-0-is at (c.in-Ok-Some.ensures.ok s.0.after s.1) in
      let t = StaysOpen-push g.I.Intake.gives first text start c.loop-event.intake c.ask-outcome.new.intake
      began (g.C.Clock.moments c.loop-event.clock) (g.C.Clock.moments c.ask-outcome.new.clock)
      taken (g.K.Sink.taken c.loop-event.sink) (g.K.Sink.taken c.say.new.sink)
      c.loop-event.phase s.0 c.in-Ok-Some.event c.in-Ok.reaction c.ask-outcome.result.reply c.ask-outcome.result.end (sym n.0) c.in-Ok.ensures c.ask-outcome.ensures.asked
      c.in-Ok-say.ensures.ok c.in-None.is in
      (t.0, subst (λ (h : Held). Holds c.follow.new.dialog h) (sym t.1) (c.follow.ensures.holds (next_of s.0.after).held n.1));
  sinks = omega (arith, c.loop-event.invariant.sinks, c.say.ensures.later);
  disks = omega (arith, c.loop-event.invariant.disks, c.ask-outcome.ensures.disks);
}
