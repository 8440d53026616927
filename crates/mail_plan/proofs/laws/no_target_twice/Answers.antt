use Rattle.std.proofs.Common.{zero, suc, arith}
use Rattle.mail_plan.proofs.Chains.{continues}
use Rattle.mail_plan.proofs.laws.no_target_twice.Goals as goal

pub returns : goal.returns
returns g c org base approved earlier zero target below sent = absurd (omega arith)
returns g c org base approved earlier (suc later) target below sent =
    g.met.T.Planner.sent_once org _ _ (continues base approved earlier later (omega arith)) target sent
