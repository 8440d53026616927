use Rattle.std.proofs.Common.{[], false, refl, inl}
use Rattle.port_io.proofs.Offered.{Appends-nothing}
use Rattle.http_answers.specs.Responses.{refusal_response}
use Rattle.admin_http.specs.Replies.{memory}
use Rattle.admin_http.proofs.Ending.{due-of, went-on, did-refuse, did-starve}
use Rattle.admin_http.proofs.whole.exchange.Goals as goal

pub returns-in-Whole-clause-exchanged : goal.returns-in-Whole-clause-exchanged
returns-in-Whole-clause-exchanged g c =
    let t = c.in-Whole.ensures.took in
    let d = c.answer-outcome.ensures.done in
    let wrote = c.reply.ensures.wrote in
    record {
      text = t.0;
      made = d.made;
      moments = d.moments;
      took = t.1;
      steps = d.steps;
      clock = d.clock;
      went_on = went-on t.0 d.made d.moments (g.K.Sink.taken c.args.sink.now) (g.K.Sink.taken c.reply.new.sink) _ wrote.0 c.reply.result
          (due-of t.0 d.made d.moments d.due c.answer-outcome.result.stop c.answer-outcome.result.response wrote.0
          (inl (record { deed = c.in-Whole.deed; body = c.in-Whole.body; asks = t.2; answers = d.answers; stops = d.stops })) d.is wrote.1)
          wrote.2;
    }

pub returns-in-Refused-clause-exchanged : goal.returns-in-Refused-clause-exchanged
returns-in-Refused-clause-exchanged g c =
    let t = c.in-Refused.ensures.took in
    let wrote = c.reply-in-Refused.ensures.wrote in
    record {
      text = t.0;
      made = [];
      moments = [];
      took = t.1;
      steps = refl;
      clock = λ k. refl;
      went_on = went-on t.0 [] [] (g.K.Sink.taken c.args.sink.now) (g.K.Sink.taken c.reply-in-Refused.new.sink) _ wrote.0 c.reply-in-Refused.result
          (due-of t.0 [] [] (refusal_response c.in-Refused.refusal) false c.refusal_response.result wrote.0 (did-refuse t.0 c.in-Refused.refusal t.2) c.refusal_response.ensures wrote.1)
          wrote.2;
    }

pub returns-in-Starved-clause-exchanged : goal.returns-in-Starved-clause-exchanged
returns-in-Starved-clause-exchanged g c =
    let t = c.in-Starved.ensures.took in
    record {
      text = t.0;
      made = [];
      moments = [];
      took = t.1;
      steps = refl;
      clock = λ k. refl;
      went_on = went-on t.0 [] [] (g.K.Sink.taken c.args.sink.now) (g.K.Sink.taken c.starve.new.sink) _ memory c.starve.result (did-starve t.0 t.2) c.starve.ensures.wrote;
    }

pub returns-in-Cut-clause-exchanged : goal.returns-in-Cut-clause-exchanged
returns-in-Cut-clause-exchanged g c =
    let t = c.in-Cut.ensures.took in
    record { text = t.0; made = []; moments = []; took = t.1; steps = refl; clock = λ k. refl; went_on = (t.2.0, t.2.1, (refl, refl), Appends-nothing _) }

pub returns-in-SourceFault-clause-exchanged : goal.returns-in-SourceFault-clause-exchanged
returns-in-SourceFault-clause-exchanged g c =
    let t = c.in-SourceFault.ensures.took in
    record { text = t.0; made = []; moments = []; took = t.1; steps = refl; clock = λ k. refl; went_on = (t.2, (refl, refl), Appends-nothing _) }

pub returns-in-NoMemory-clause-exchanged : goal.returns-in-NoMemory-clause-exchanged
returns-in-NoMemory-clause-exchanged g c =
    let t = c.in-NoMemory.ensures.took in
    record { text = t.0; made = []; moments = []; took = t.1; steps = refl; clock = λ k. refl; went_on = (t.2, (refl, refl), Appends-nothing _) }
