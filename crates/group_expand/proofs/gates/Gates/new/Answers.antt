use Rattle.std.proofs.Common.{rules}
use Rattle.group_expand.proofs.Asked.{shuts-new}
use Rattle.group_expand.proofs.gates.Gates.new.Goals as goal

pub returns-clause-shut : goal.returns-clause-shut
returns-clause-shut c =
    shuts-new c.args.directory.now (record { sender = c.args.sender; opened = c.args.opened; known = c.in_ok-known.known; groups = c.new.result }) (search rules)
