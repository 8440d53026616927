use Rattle.std.proofs.Common.{◌≡◌, ◌∙◌, ap}
use Rattle.std.specs.Prelude.{not}
use Rattle.group_expand.specs.Expansion.{leaf_of, closed_of}
use Rattle.group_expand.specs.Gates.{shuts}
use Rattle.group_expand.proofs.Table.{part-more}
use Rattle.group_expand.proofs.routes.parted.Goals as goal

pub loop-way-preserved : goal.loop-way-preserved
loop-way-preserved c =
    let same : shuts c.args.directory.now c.loop-way.gates ≡ shuts c.args.directory.now c.args.gates.now = c.loop-way.invariant.2.same in
    let is : c.in_ok-is_closed.is_closed ≡ shuts c.args.directory.now c.args.gates.now c.in-Some.way.key
    = c.in_ok-is_closed.ensures.answer ∙ ap (λ f. f c.in-Some.way.key) same in (
      part-more (leaf_of c.args.directory.now) (λ w. not (shuts c.args.directory.now c.args.gates.now w.key)) c.loop-way.yielded c.in-Some.way (not c.in_ok-is_closed.is_closed)
          c.loop-way.leaves c.put.new.leaves c.loop-way.invariant.0 (ap not is) c.in_ok-put.ensures.leaves,
      part-more (closed_of c.args.directory.now) (λ w. shuts c.args.directory.now c.args.gates.now w.key) c.loop-way.yielded c.in-Some.way c.in_ok-is_closed.is_closed
          c.loop-way.closed c.put.new.closed c.loop-way.invariant.1 is c.in_ok-put.ensures.closed,
      record { ready = c.in_ok-is_closed.ensures.same.ready; same = c.in_ok-is_closed.ensures.same.same ∙ same },
    )
