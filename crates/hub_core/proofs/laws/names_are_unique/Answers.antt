use Rattle.hub_core.proofs.Releasing.{are-releases}
use Rattle.hub_core.proofs.Unique.{names-differ}
use Rattle.hub_core.specs.Setup.{setup_of}
use Rattle.hub_core.proofs.laws.names_are_unique.Goals as goal

pub returns : goal.returns
returns g c = λ limits history.
    names-differ (setup_of g.T.Planner.means limits)
    (are-releases g.T.Planner.means g.met.T.Planner.own_texts g.met.T.Planner.lawful limits) history
