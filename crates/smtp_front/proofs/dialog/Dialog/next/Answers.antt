use Rattle.std.proofs.Common.{length, ap, subst, arith}
use Rattle.smtp_front.specs.Holds.{Took}
use Rattle.smtp_front.proofs.Holding.{waits, bounded}
use Rattle.smtp_front.proofs.dialog.Dialog.next.Goals as goal

pub returns-in-Some-clause-ok : goal.returns-in-Some-clause-ok
returns-in-Some-clause-ok c = λ held holds.
    subst (λ (e : _). Took e c.step.new.self held) c.in-Some.is (c.in_ok-event.ensures.ok held (c.loop-self.invariant.holds held holds))

pub returns-clause-ok : goal.returns-clause-ok
returns-clause-ok c = λ held holds.
    waits c.loop-self.self held c.new.result (c.loop-self.invariant.holds held holds) (omega (arith, ap length c.as_slice.ensures, c.loop-self-test.false)) c.new.ensures

pub returns-clause-bound : goal.returns-clause-bound
returns-clause-bound c = λ held holds none.
    let small = bounded c.loop-self.self held c.new.result (c.loop-self.invariant.holds held holds) c.new.ensures in
    small
