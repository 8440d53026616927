use Rattle.hub_core.proofs.Releasing.{are-releases}
use Rattle.hub_core.proofs.Unique.{one-item}
use Rattle.hub_core.specs.Setup.{setup_of}
use Rattle.hub_core.proofs.laws.a_name_is_of_one_item.Goals as goal

pub returns : goal.returns
returns g c = λ limits history x y a b same.
    one-item (setup_of g.T.Planner.means limits)
    (are-releases g.T.Planner.means g.met.T.Planner.own_texts g.met.T.Planner.lawful limits) history x y a b same
