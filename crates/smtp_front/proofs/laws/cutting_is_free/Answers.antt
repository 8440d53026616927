use Rattle.smtp_front.proofs.Settling.{cut-twice}
use Rattle.smtp_front.proofs.laws.cutting_is_free.Goals as goal

pub returns : goal.returns
returns c = λ held first second. cut-twice held first second
