use Rattle.std.proofs.Common.{arith}
use Rattle.admin_http.proofs.Piecing.{got-mid, front-mid}
use Rattle.admin_http.proofs.pieces.read_piece.Goals as goal

pub returns-in-Ok-clause-got : goal.returns-in-Ok-clause-got
returns-in-Ok-clause-got g c =
    got-mid (g.S.Source.left c.args.source.now) (g.S.Source.left c.read.new.self) c.args.buffer.now c.read.new.into c.args.at _ c.in-Ok.count
    (omega (arith, c.requires)) (omega (arith, c.in-Ok.ensures.bound)) c.in-Ok.ensures.bytes.0

pub returns-in-Ok-clause-front : goal.returns-in-Ok-clause-front
returns-in-Ok-clause-front g c = front-mid c.args.at _ c.args.buffer.now c.read.new.into (omega (arith, c.requires))

pub returns-in-Err-clause-front : goal.returns-in-Err-clause-front
returns-in-Err-clause-front g c = front-mid c.args.at _ c.args.buffer.now c.read.new.into (omega (arith, c.requires))
