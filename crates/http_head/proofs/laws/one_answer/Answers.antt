use Rattle.http_head.proofs.Determined.{one-answer}
use Rattle.http_head.proofs.laws.one_answer.Goals as goal

pub returns : goal.returns
returns c = one-answer
