use Rattle.std.proofs.Common.{suc, length}
use Rattle.mail_plan.specs.Planning.{first_input}
use Rattle.hub_core.proofs.Releasing.{targets-read}
use Rattle.hub_core.proofs.laws.each_target_once.Goals as goal

pub returns : goal.returns
returns g c = λ limits number a.
    targets-read g.T.Planner.means.release_of c.each_target_once.ensures
    (g.T.Planner.means.reads a.org.directory a.org.rules) (first_input number a.epoch a.moment a.submission) a.opened (suc (length a.opened))
