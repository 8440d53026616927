use Rattle.std.proofs.Common.{[], subst, inl, List, ℕ}
use Rattle.std.specs.Io.KnownBytes.{Appends}
use Rattle.port_io.proofs.Offered.{Consumes-nothing}
use Rattle.smtp_front.specs.declared.react.Phase.TheVariants as phases
use Rattle.smtp_front.proofs.Draining.{StaysOpen-start}
use Rattle.smtp_front.proofs.Ending.{WentOn-starves, Spoke-greets}
use Rattle.smtp_front.proofs.talk.session.Goals as goal

pub returns-in-Err-new-clause-spoke : goal.returns-in-Err-new-clause-spoke
returns-in-Err-new-clause-spoke g c =
    let greeted = g.K.Sink.taken c.write_all_to.new.sink in
    let clock = g.C.Clock.moments c.args.clock.now in
    Spoke-greets g.I.Intake.gives c.args.intake.now c.args.intake.now clock clock (g.K.Sink.taken c.args.sink.now) (g.K.Sink.taken c.close.new.sink) (g.S.Source.left c.args.source.now) (g.S.Source.left c.args.source.now) c.close.result
    (record {
      text = [];
      took = Consumes-nothing (g.S.Source.left c.args.source.now);
      greeted = greeted;
      greeting = subst (λ (t : List ℕ). Appends (g.K.Sink.taken c.args.sink.now) greeted t) c.text.ensures c.in-Ok.ensures.ok;
      went_on = WentOn-starves g.I.Intake.gives c.args.intake.now c.args.intake.now clock clock greeted greeted (g.K.Sink.taken c.close.new.sink) [] (g.S.Source.left c.args.source.now) c.close.result
          (inl (phases.New, StaysOpen-start g.I.Intake.gives c.args.intake.now clock greeted)) c.close.ensures.closed;
    })
