use Rattle.http_head.proofs.Staying.{bad-stays}
use Rattle.http_head.proofs.laws.bad_heads_stay.Goals as goal

pub returns : goal.returns
returns c = bad-stays
