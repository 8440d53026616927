use Rattle.group_expand.proofs.Before.{expands-as-before}
use Rattle.group_expand.proofs.laws.without_forwards_groups_alone_lead_on.Goals as goal

pub returns : goal.returns
returns c = expands-as-before
