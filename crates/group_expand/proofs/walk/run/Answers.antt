use Rattle.std.proofs.Common.{◌≡◌, ◌∙◌, ◌<◌, ◌≤◌, arith, length, rules, subst, sym}
use Rattle.group_expand.specs.Gates.{shuts}
use Rattle.group_expand.specs.Places.{all_owed, Holds}
use Rattle.group_expand.proofs.Steps.{owes-one}
use Rattle.group_expand.proofs.walk.run.Goals as goal

pub loop-alloc-preserved : goal.loop-alloc-preserved
loop-alloc-preserved g c =
    let same : shuts c.args.directory.now c.loop-alloc.gates ≡ shuts c.args.directory.now c.args.gates.now = c.loop-alloc.invariant.0.same in (
      record { ready = c.in_ok-step.ensures.gates.ready; same = c.in_ok-step.ensures.gates.same ∙ same },
      c.in_ok-step.ensures.ready,
      (λ whole roots h. subst (λ f. Holds c.args.directory.now f whole roots c.step.new.marks c.step.new.stack.items c.step.new.found) same
          (c.in_ok-step.ensures.holds whole roots
          (subst (λ f. Holds c.args.directory.now f whole roots c.loop-alloc.marks c.loop-alloc.stack.items c.loop-alloc.found) (sym same) (c.loop-alloc.invariant.2 whole roots h)))),
      omega (arith, c.loop-alloc.invariant.3, c.in_ok-step.ensures.owed, c.in_ok-step.ensures.cost),
    )

pub returns-in_err-step-clause-bound : goal.returns-in_err-step-clause-bound
returns-in_err-step-clause-bound g c =
    let some : 0 < length c.loop-alloc.stack.items = search rules in
    let one : 1 ≤ all_owed c.args.directory.now c.loop-alloc.marks c.loop-alloc.stack.items
    = owes-one c.args.directory.now c.loop-alloc.marks c.loop-alloc.stack.items c.loop-alloc.invariant.1 some in
    omega (arith, one, c.step.ensures.cost, c.loop-alloc.invariant.3)
