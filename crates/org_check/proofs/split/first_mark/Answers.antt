use Rattle.std.proofs.Common.{◌≡◌, ◌+◌, ◌-◌, true, false, cond, length, Some, ap, ◌∙◌, sym}
use Rattle.org_check.specs.Parts.{is_mark, mark_from}
use Rattle.org_check.proofs.Marks.{mark_step}
use Rattle.org_check.proofs.split.first_mark.Goals as goal

pub returns-then-is_mark-clause-value : goal.returns-then-is_mark-clause-value
returns-then-is_mark-clause-value c =
    let text = c.args.text.now in
    let at = c.loop-at.at in
    let here : is_mark text at ≡ true = sym c.is_mark.ensures ∙ c.if-is_mark.true in
    let rest = mark_from (length text - (at + 1)) text (at + 1) in
    sym (mark_step (length text) at text c.loop-at-test.true ∙ ap (λ b. cond b (Some at) rest) here) ∙ c.loop-at.invariant

pub loop-at-preserved : goal.loop-at-preserved
loop-at-preserved c =
    let text = c.args.text.now in
    let at = c.loop-at.at in
    let none : is_mark text at ≡ false = sym c.is_mark.ensures ∙ c.if-is_mark.false in
    let rest = mark_from (length text - (at + 1)) text (at + 1) in
    sym (mark_step (length text) at text c.loop-at-test.true ∙ ap (λ b. cond b (Some at) rest) none) ∙ c.loop-at.invariant
