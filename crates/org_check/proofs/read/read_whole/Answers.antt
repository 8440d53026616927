use Rattle.std.proofs.Common.{◌++◌, take}
use Rattle.port_io.proofs.Offered.{Consumes-twice}
use Rattle.org_check.proofs.read.read_whole.Goals as goal

pub returns-in-Err-add-clause-read : goal.returns-in-Err-add-clause-read
returns-in-Err-add-clause-read g c =
    let piece = take c.in-Ok.count c.read_piece.new.wire in
    (c.loop-left.text ++ piece, Consumes-twice _ _ _ c.loop-left.text piece c.loop-left.invariant.took c.in-Ok.ensures.bytes, tt)
