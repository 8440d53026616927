use Rattle.smtp_front.proofs.Turning.{none-left}
use Rattle.smtp_front.proofs.laws.no_turn_is_left.Goals as goal

pub returns : goal.returns
returns c = λ phase held turns others end end' left left' g n k. none-left phase held turns others end end' left left' g n k
