use Rattle.mail_transport.specs.Answers.{RunGives}
use Rattle.mail_transport.specs.Points.{RunsOn}
use Rattle.mail_transport.proofs.Telling.{spoke_told, spoke_keeps, spoke_stays}
use Rattle.mail_transport.proofs.Stepping.{does_told, keeps_passed}
use Rattle.mail_transport.proofs.session.speak.Goals as goal

pub returns-clause-same : goal.returns-clause-same
returns-clause-same g c = (
  spoke_keeps _ (λ o. o.hub.ghost_name) (λ a step b given. given.0) c.session.result _ _ _ _ _ _ _ _ c.session.ensures.spoke,
  spoke_keeps _ (λ o. o.plant.ghost_name) (λ a step b given. given.1) c.session.result _ _ _ _ _ _ _ _ c.session.ensures.spoke,
)

pub returns-clause-spoke : goal.returns-clause-spoke
returns-clause-spoke g c t at =
    let s0 = g.P.Plant.state c.args.office.now.plant.now in
    spoke_told _ RunGives (λ o x. RunsOn s0 (g.P.Plant.state o.plant.now) o.hub.now t x)
    (λ a b step x given here. (let next = does_told s0 (g.P.Plant.state a.plant.now) (g.P.Plant.state b.plant.now) a.hub.now b.hub.now x step given.2 here.runs in
    (next.0, next.1, record { runs = next.2; longer = λ image within. keeps_passed x next.0 step image next.1 (here.longer image within) })))
    c.session.result _ _ _ _ _ _ _ _ t c.session.ensures.spoke (record { runs = at; longer = λ image within. within })

pub returns-clause-stays : goal.returns-clause-stays
returns-clause-stays g c =
    spoke_stays _ (λ o. g.P.Plant.state o.plant.now) (λ a step b given. given.2.stays) c.session.result _ _ _ _ _ _ _ _ c.session.ensures.spoke
