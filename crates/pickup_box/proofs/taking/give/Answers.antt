use Rattle.pickup_box.proofs.taking.give.Goals as goal

pub returns-in-Ok-remove-clause-given : goal.returns-in-Ok-remove-clause-given
returns-in-Ok-remove-clause-given g c = record {
  moment = c.now-moment.result;
  accepted = c.in-Ok.accepted;
  step = c.in-Ok.ensures.gives;
  clock = (c.now-moment.ensures.moment, c.now-moment.ensures.later);
  folder = c.in-Ok-remove.ensures.told;
  is_fate = c.fate_of.ensures c.args.submission;
}
