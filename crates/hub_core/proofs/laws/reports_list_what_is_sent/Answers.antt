use Rattle.hub_core.proofs.Journaled.{journaled}
use Rattle.hub_core.proofs.Planned.{is-planned}
use Rattle.hub_core.specs.Setup.{setup_of}
use Rattle.hub_core.proofs.laws.reports_list_what_is_sent.Goals as goal

pub returns : goal.returns
returns g c = λ limits history lawful are.
    journaled (setup_of g.T.Planner.means limits)
    (is-planned g.T.Planner.means limits g.met.T.Planner.reported g.met.T.Planner.targets_once c.no_target_twice.ensures)
    history lawful are
