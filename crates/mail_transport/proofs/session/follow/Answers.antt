use Rattle.plant_dev.proofs.Offered.{stays_not}
use Rattle.mail_transport.proofs.Running.{stays_at}
use Rattle.mail_transport.proofs.session.follow.Goals as goal

pub returns-in_default : goal.returns-in_default
returns-in_default g c = record {
  ends = λ p at. stays_at (g.P.Plant.state c.args.plant.now) c.args.hub.now p at c.args.end c.in_default.not-Quit c.in_default.not-EndOfInput (g.C.Clock.moments c.args.clock.now) c.ended.result c.ended.ensures.value;
  stays = stays_not (g.P.Plant.state c.args.plant.now);
  disk = λ is. absurd (c.ended.ensures.disk is);
  source = c.ended.ensures.source;
  sink = c.ended.ensures.sink;
  usage = c.ended.ensures.usage;
}
