use Rattle.smtp_front.proofs.Settling.{settled}
use Rattle.smtp_front.proofs.laws.events_are_settled.Goals as goal

pub returns : goal.returns
returns c = λ held text event k. settled held text event k
