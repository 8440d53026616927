use Rattle.std.proofs.Common.{zero, suc, arith}
use Rattle.mail_plan.proofs.Chains.{continues}
use Rattle.mail_plan.proofs.laws.no_gate_twice.Goals as goal

pub returns : goal.returns
returns g c org base approved earlier zero gate below met = absurd (omega arith)
returns g c org base approved earlier (suc later) gate below met =
    g.met.T.Planner.met_once org _ _ (continues base approved earlier later (omega arith)) gate met
