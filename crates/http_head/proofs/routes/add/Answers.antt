use Rattle.http_head.proofs.Insertions.{inserted}
use Rattle.http_head.proofs.routes.add.Goals as goal
use Rattle.http_head.proofs.routes.add.Goals.{in-Ok, in-Err}

pub returns : goal.returns
returns c =
    let done = inserted c.args.pattern.now c.args.route c.args.router.now c.insert.new.self c.insert.result c.insert.ensures in
    elim c.match-insert.branch [ in-Ok w ↦ rw w.result-is (rw w.in-Ok.is at done) | in-Err w ↦ rw w.result-is tt ]
