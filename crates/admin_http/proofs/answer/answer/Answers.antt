use Rattle.std.proofs.Common.{[], ◌∷◌, Some, None, refl}
use Rattle.hub_calls.specs.declared.office.OfficeStep.TheVariants as steps
use Rattle.http_answers.specs.Responses.{answered, queue_response, approvals_response, ended_response, items_response, item_response, epoch_response, turn_response, stop_response}
use Rattle.http_head.specs.declared.deed.Deed.TheVariants as deeds
use Rattle.admin_http.specs.Exchange.{Tells}
use Rattle.admin_http.proofs.Doing.{done-at}
use Rattle.admin_http.proofs.answer.answer.Goals as goal

pub returns-in-Queue-clause-done : goal.returns-in-Queue-clause-done
returns-in-Queue-clause-done g c = done-at (Tells g.O.Office.gives g.O.Office.disk_faults g.O.Office.shelf_faults) _ _ _ _ c.args.deed deeds.Queue _ _ _ c.in-Queue.is (record {
  made = steps.Queue c.queue.result ∷ [];
  moments = [];
  due = answered queue_response c.queue.result;
  answers = (c.queue.result, refl, refl, refl);
  steps = (c.queue.new.self, (c.queue.ensures.gives, record { causes = c.queue.ensures.causes; refuses = c.queue.ensures.refuses }), refl);
  clock = λ k. refl;
  is = rw c.goes_on.ensures.response c.queue_answer.ensures;
  stops = c.goes_on.ensures.stop;
})

pub returns-in-Approvals-clause-done : goal.returns-in-Approvals-clause-done
returns-in-Approvals-clause-done g c = done-at (Tells g.O.Office.gives g.O.Office.disk_faults g.O.Office.shelf_faults) _ _ _ _ c.args.deed deeds.Approvals _ _ _ c.in-Approvals.is (record {
  made = steps.Approvals c.approvals.result ∷ [];
  moments = [];
  due = answered approvals_response c.approvals.result;
  answers = (c.approvals.result, refl, refl, refl);
  steps = (c.approvals.new.self, (c.approvals.ensures.gives, record { causes = c.approvals.ensures.causes; refuses = c.approvals.ensures.refuses }), refl);
  clock = λ k. refl;
  is = rw c.goes_on-in-Approvals.ensures.response c.approvals_answer.ensures;
  stops = c.goes_on-in-Approvals.ensures.stop;
})

pub returns-in-Ended-clause-done : goal.returns-in-Ended-clause-done
returns-in-Ended-clause-done g c = done-at (Tells g.O.Office.gives g.O.Office.disk_faults g.O.Office.shelf_faults) _ _ _ _ c.args.deed deeds.Ended _ _ _ c.in-Ended.is (record {
  made = steps.Ended c.ended.result ∷ [];
  moments = [];
  due = answered ended_response c.ended.result;
  answers = (c.ended.result, refl, refl, refl);
  steps = (c.ended.new.self, (c.ended.ensures.gives, record { causes = c.ended.ensures.causes; refuses = c.ended.ensures.refuses }), refl);
  clock = λ k. refl;
  is = rw c.goes_on-in-Ended.ensures.response c.ended_answer.ensures;
  stops = c.goes_on-in-Ended.ensures.stop;
})

pub returns-in-Folder-clause-done : goal.returns-in-Folder-clause-done
returns-in-Folder-clause-done g c = done-at (Tells g.O.Office.gives g.O.Office.disk_faults g.O.Office.shelf_faults) _ _ _ _ c.args.deed (deeds.Folder c.in-Folder.folder) _ _ _ c.in-Folder.is (record {
  made = steps.List c.in-Folder.folder c.list.result ∷ [];
  moments = [];
  due = answered items_response c.list.result;
  answers = (c.list.result, refl, refl, refl);
  steps = (c.list.new.self, (c.list.ensures.gives, record { causes = c.list.ensures.causes; refuses = c.list.ensures.refuses }), refl);
  clock = λ k. refl;
  is = rw c.goes_on-in-Folder.ensures.response c.items_answer.ensures;
  stops = c.goes_on-in-Folder.ensures.stop;
})

pub returns-in-Item-clause-done : goal.returns-in-Item-clause-done
returns-in-Item-clause-done g c = done-at (Tells g.O.Office.gives g.O.Office.disk_faults g.O.Office.shelf_faults) _ _ _ _ c.args.deed (deeds.Item c.in-Item.folder c.in-Item.name) _ _ _ c.in-Item.is (record {
  made = steps.Fetch c.in-Item.folder c.in-Item.name c.fetch.result ∷ [];
  moments = [];
  due = answered item_response c.fetch.result;
  answers = (c.fetch.result, refl, refl, refl);
  steps = (c.fetch.new.self, (c.fetch.ensures.gives, record { causes = c.fetch.ensures.causes; refuses = c.fetch.ensures.refuses }), refl);
  clock = λ k. refl;
  is = rw c.goes_on-in-Item.ensures.response c.item_answer.ensures;
  stops = c.goes_on-in-Item.ensures.stop;
})

pub returns-in-Directory-clause-done : goal.returns-in-Directory-clause-done
returns-in-Directory-clause-done g c = done-at (Tells g.O.Office.gives g.O.Office.disk_faults g.O.Office.shelf_faults) _ _ _ _ c.args.deed deeds.Directory _ _ _ c.in-Directory.is (record {
  made = steps.Organise (Some c.args.body) None c.organise.result ∷ [];
  moments = [];
  due = answered epoch_response c.organise.result;
  answers = (c.organise.result, refl, refl, refl);
  steps = (c.organise.new.self, (c.organise.ensures.gives, record { causes = c.organise.ensures.causes; refuses = c.organise.ensures.refuses }), refl);
  clock = λ k. refl;
  is = rw c.goes_on-in-Directory.ensures.response c.epoch_answer.ensures;
  stops = c.goes_on-in-Directory.ensures.stop;
})

pub returns-in-Rules-clause-done : goal.returns-in-Rules-clause-done
returns-in-Rules-clause-done g c = done-at (Tells g.O.Office.gives g.O.Office.disk_faults g.O.Office.shelf_faults) _ _ _ _ c.args.deed deeds.Rules _ _ _ c.in-Rules.is (record {
  made = steps.Organise None (Some c.args.body) c.organise-in-Rules.result ∷ [];
  moments = [];
  due = answered epoch_response c.organise-in-Rules.result;
  answers = (c.organise-in-Rules.result, refl, refl, refl);
  steps = (c.organise-in-Rules.new.self, (c.organise-in-Rules.ensures.gives, record { causes = c.organise-in-Rules.ensures.causes; refuses = c.organise-in-Rules.ensures.refuses }), refl);
  clock = λ k. refl;
  is = rw c.goes_on-in-Rules.ensures.response c.epoch_answer-in-Rules.ensures;
  stops = c.goes_on-in-Rules.ensures.stop;
})

pub returns-in-Decide-clause-done : goal.returns-in-Decide-clause-done
returns-in-Decide-clause-done g c =
    let d = c.decide.ensures.decided in
    done-at (Tells g.O.Office.gives g.O.Office.disk_faults g.O.Office.shelf_faults) _ _ _ _ c.args.deed (deeds.Decide c.in-Decide.approval c.in-Decide.verdict c.in-Decide.by) _ _ _ c.in-Decide.is (record {
      made = d.made;
      moments = c.now-moment.result ∷ [];
      due = d.due;
      answers = (c.now-moment.result, d.answer, refl, d.decides);
      steps = d.steps;
      clock = (c.now-moment.ensures.moment, c.now-moment.ensures.later);
      is = rw c.goes_on-in-Decide.ensures.response d.is;
      stops = c.goes_on-in-Decide.ensures.stop;
    })

pub returns-in-Turn-clause-done : goal.returns-in-Turn-clause-done
returns-in-Turn-clause-done g c = done-at (Tells g.O.Office.gives g.O.Office.disk_faults g.O.Office.shelf_faults) _ _ _ _ c.args.deed deeds.Turn _ _ _ c.in-Turn.is (record {
  made = steps.Turn c.now-moment-in-Turn.result c.turn.result ∷ [];
  moments = c.now-moment-in-Turn.result ∷ [];
  due = answered turn_response c.turn.result;
  answers = (c.now-moment-in-Turn.result, c.turn.result, refl, refl, refl);
  steps = (c.turn.new.self, (c.turn.ensures.gives, record { causes = c.turn.ensures.causes; refuses = c.turn.ensures.refuses }), refl);
  clock = (c.now-moment-in-Turn.ensures.moment, c.now-moment-in-Turn.ensures.later);
  is = rw c.goes_on-in-Turn.ensures.response c.turn_answer.ensures;
  stops = c.goes_on-in-Turn.ensures.stop;
})

pub returns-in-Stop-clause-done : goal.returns-in-Stop-clause-done
returns-in-Stop-clause-done g c = done-at (Tells g.O.Office.gives g.O.Office.disk_faults g.O.Office.shelf_faults) _ _ _ _ c.args.deed deeds.Stop _ _ _ c.in-Stop.is (record {
  made = [];
  moments = [];
  due = stop_response;
  answers = (refl, refl, refl);
  steps = refl;
  clock = λ k. refl;
  is = c.stop_response.ensures;
  stops = refl;
})
