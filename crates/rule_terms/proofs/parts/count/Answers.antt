use Rattle.std.proofs.Common.{sym}
use Rattle.rule_terms.proofs.TableKeys.{count-items_view}
use Rattle.rule_terms.proofs.parts.count.Goals as goal

pub returns : goal.returns
returns c = sym (count-items_view c.args.items.now)
