use Rattle.admin_http.proofs.Settling.{refuses-more}
use Rattle.admin_http.proofs.laws.refusals_stay.Goals as goal

pub returns : goal.returns
returns c = λ text more refusal r. refuses-more text more refusal (c.bad_heads_stay.ensures text more) r
