use Rattle.std.proofs.Common.{rules}
use Rattle.group_expand.proofs.Asked.{shuts-open}
use Rattle.group_expand.proofs.gates.Gates.all_open.Goals as goal

pub returns-clause-shut : goal.returns-clause-shut
returns-clause-shut c = shuts-open c.args.directory.now c.in_ok-known.known.items _ (search rules)
