use Rattle.std.proofs.Common.{◌≡◌, ◌≤◌, ℕ, Ok, length, take, ap, subst, arith}
use Rattle.admin_http.specs.Pieces.{Got}
use Rattle.admin_http.proofs.Heading.{looked-here, taken-end, taken-kept, front-of, last-end, last-fault}
use Rattle.admin_http.proofs.head.take_head.Goals as goal

pub next_head-requires : goal.next_head-requires
next_head-requires g c = looked-here c.loop-head.progress (take c.loop-head.count c.loop-head.buffer) c.loop-head.invariant.looked

pub returns-in-Ok-eq0-clause-took : goal.returns-in-Ok-eq0-clause-took
returns-in-Ok-eq0-clause-took g c =
    let count = c.loop-head.count in
    let new = c.read_piece.new.buffer in
    let left = g.S.Source.left c.read_piece.new.source in
    let none : c.in-Ok-eq0.field-0 ≡ 0 = omega (arith, c.in-Ok-eq0.field-0-is) in
    let got = subst (λ (n : ℕ). Got (g.S.Source.left c.loop-head.source) left c.loop-head.buffer new count n) none c.in-Ok-eq0.ensures.got in
    let within : count ≤ length new = omega (arith, c.loop-head.invariant.within, c.read_piece.auto.buffer) in (
      take count new,
      taken-end (g.S.Source.left c.args.source.now) (g.S.Source.left c.loop-head.source) left c.loop-head.buffer new count c.loop-head.invariant.took got,
      last-end (take count new) new left c.last_head.result c.last_head.ensures.ok c.last_head.ensures.err (c.in-Ok-eq0.ensures.end (ap Ok none)) (front-of new count within),
    )

pub returns-in-Err-clause-took : goal.returns-in-Err-clause-took
returns-in-Err-clause-took g c =
    let count = c.loop-head.count in
    let new = c.read_piece.new.buffer in
    let left = g.S.Source.left c.read_piece.new.source in
    let within : count ≤ length new = omega (arith, c.loop-head.invariant.within, c.read_piece.auto.buffer) in (
      take count new,
      taken-kept (g.S.Source.left c.args.source.now) (g.S.Source.left c.loop-head.source) left c.loop-head.buffer new count c.loop-head.invariant.took c.in-Err.ensures.kept c.in-Err.ensures.front,
      last-fault (take count new) new left c.last_head-in-Err.result c.last_head-in-Err.ensures.ok c.last_head-in-Err.ensures.err (front-of new count within),
    )
