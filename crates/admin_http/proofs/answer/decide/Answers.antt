use Rattle.std.proofs.Common.{[], ◌∷◌, Ok, Err, refl}
use Rattle.moderation.specs.declared.approval.Decision.TheVariants as decisions
use Rattle.hub_calls.specs.declared.office.OfficeStep.TheVariants as steps
use Rattle.http_answers.specs.Responses.{answered, already_response, decide_response}
use Rattle.admin_http.proofs.Doing.{decided-step}
use Rattle.admin_http.proofs.answer.decide.Goals as goal

pub returns-in-Ok-Already-clause-decided : goal.returns-in-Ok-Already-clause-decided
returns-in-Ok-Already-clause-decided g c =
    record {
      answer = Ok (decisions.Already c.in-Ok-Already.place c.in-Ok-Already.kept);
      made = steps.Decide c.args.approval.now c.args.by.now c.args.verdict c.args.moment (Ok (decisions.Already c.in-Ok-Already.place c.in-Ok-Already.kept)) ∷ steps.Moderator c.args.approval.now c.in-Ok-Already.place c.moderator.result ∷ [];
      due = answered (already_response c.in-Ok-Already.kept) c.moderator.result;
      decides = (c.moderator.result, refl, refl);
      steps = (c.decide.new.self, (decided-step g.O.Office.gives g.O.Office.disk_faults g.O.Office.shelf_faults _ _ _ _ _ _ _ _ c.in-Ok-Already.field-0-is c.in-Ok-Already.ensures.gives c.in-Ok-Already.ensures.causes c.in-Ok-Already.ensures.refuses), (c.moderator.new.self, (c.moderator.ensures.gives, record { causes = c.moderator.ensures.causes; refuses = c.moderator.ensures.refuses }), refl));
      is = c.already_answer.ensures;
    }

pub returns-in-Ok-Taken-clause-decided : goal.returns-in-Ok-Taken-clause-decided
returns-in-Ok-Taken-clause-decided g c = record {
  answer = Ok decisions.Taken;
  made = steps.Decide c.args.approval.now c.args.by.now c.args.verdict c.args.moment (Ok decisions.Taken) ∷ [];
  due = answered decide_response (Ok decisions.Taken);
  decides = (refl, refl);
  steps = (c.decide.new.self, (decided-step g.O.Office.gives g.O.Office.disk_faults g.O.Office.shelf_faults _ _ _ _ _ _ _ _ c.in-Ok-Taken.field-0-is c.in-Ok-Taken.ensures.gives c.in-Ok-Taken.ensures.causes c.in-Ok-Taken.ensures.refuses), refl);
  is = c.decide_answer.ensures;
}

pub returns-in-Ok-NotModerator-clause-decided : goal.returns-in-Ok-NotModerator-clause-decided
returns-in-Ok-NotModerator-clause-decided g c = record {
  answer = Ok decisions.NotModerator;
  made = steps.Decide c.args.approval.now c.args.by.now c.args.verdict c.args.moment (Ok decisions.NotModerator) ∷ [];
  due = answered decide_response (Ok decisions.NotModerator);
  decides = (refl, refl);
  steps = (c.decide.new.self, (decided-step g.O.Office.gives g.O.Office.disk_faults g.O.Office.shelf_faults _ _ _ _ _ _ _ _ c.in-Ok-NotModerator.field-0-is c.in-Ok-NotModerator.ensures.gives c.in-Ok-NotModerator.ensures.causes c.in-Ok-NotModerator.ensures.refuses), refl);
  is = c.decide_answer-in-Ok-NotModerator.ensures;
}

pub returns-in-Ok-Expired-clause-decided : goal.returns-in-Ok-Expired-clause-decided
returns-in-Ok-Expired-clause-decided g c = record {
  answer = Ok (decisions.Expired c.in-Ok-Expired.deadline);
  made = steps.Decide c.args.approval.now c.args.by.now c.args.verdict c.args.moment (Ok (decisions.Expired c.in-Ok-Expired.deadline)) ∷ [];
  due = answered decide_response (Ok (decisions.Expired c.in-Ok-Expired.deadline));
  decides = (refl, refl);
  steps = (c.decide.new.self, (decided-step g.O.Office.gives g.O.Office.disk_faults g.O.Office.shelf_faults _ _ _ _ _ _ _ _ c.in-Ok-Expired.field-0-is c.in-Ok-Expired.ensures.gives c.in-Ok-Expired.ensures.causes c.in-Ok-Expired.ensures.refuses), refl);
  is = c.decide_answer-in-Ok-Expired.ensures;
}

pub returns-in-Err-clause-decided : goal.returns-in-Err-clause-decided
returns-in-Err-clause-decided g c = record {
  answer = Err c.in-Err.fault;
  made = steps.Decide c.args.approval.now c.args.by.now c.args.verdict c.args.moment (Err c.in-Err.fault) ∷ [];
  due = answered decide_response (Err c.in-Err.fault);
  decides = (refl, refl);
  steps = (c.decide.new.self, (c.in-Err.ensures.gives, record { causes = c.in-Err.ensures.causes; refuses = c.in-Err.ensures.refuses }), refl);
  is = c.decide_answer-in-Err.ensures;
}
