use Rattle.std.proofs.Common.{◌≡◌, take, ap, ◌∙◌, sym, arith}
use Rattle.smtp_front.specs.Commands.{trim}
use Rattle.smtp_front.proofs.Trimming.{shorter, at_mark}
use Rattle.smtp_front.proofs.texts.trimmed.Goals as goal
use Rattle.smtp_front.proofs.texts.trimmed.Goals.{then-loop-end-test+else-is_blank, else-loop-end-test}

pub loop-end-preserved : goal.loop-end-preserved
loop-end-preserved c = record {
  within = omega (arith, c.loop-end.invariant.within);
  same = shorter c.args.line.now c.loop-end.end c.loop-end-test.true c.loop-end.invariant.within (sym c.is_blank.ensures ∙ c.if-is_blank.true) ∙ c.loop-end.invariant.same;
}

pub returns : goal.returns
returns c = elim c.loop-end-test.branch [
  | then-loop-end-test+else-is_blank w ↦ at_mark c.args.line.now c.loop-end.end w.loop-end-test.true c.loop-end.invariant.within (sym w.is_blank.ensures ∙ w.if-is_blank.false) ∙ c.loop-end.invariant.same
  | else-loop-end-test w ↦ (let none : c.loop-end.end ≡ 0 = omega (arith, w.loop-end-test.false) in ap (λ n. take n c.args.line.now) none ∙ sym (ap (λ n. trim (take n c.args.line.now)) none) ∙ c.loop-end.invariant.same)
]
