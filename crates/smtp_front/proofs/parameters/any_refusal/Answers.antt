use Rattle.std.proofs.Common.{◌∙◌, ap, sym, subst, length, List, ℕ, ◌<◌, ◌≤◌}
use Rattle.smtp_front.specs.Commands.{unspaced}
use Rattle.smtp_front.specs.Parameters.{any_refusal}
use Rattle.smtp_front.proofs.Parting.{words_of-unspaced, Starts-unspaced, some-length, none-length, any-some, no-words}
use Rattle.smtp_front.proofs.parameters.any_refusal.Goals as goal

pub returns-then-is_empty : goal.returns-then-is_empty
returns-then-is_empty c =
    let text = c.args.text.now in
    let none : length (unspaced text) ≤ 0 = subst (λ (xs : List ℕ). length xs ≤ 0) c.unspaced.ensures (none-length c.unspaced.result.now (sym c.is_empty.ensures ∙ c.if-is_empty.true)) in
    sym (ap any_refusal (sym (words_of-unspaced text) ∙ no-words (unspaced text) none))

pub returns-else-is_empty : goal.returns-else-is_empty
returns-else-is_empty c =
    let text = c.args.text.now in
    let some : 0 < length (unspaced text) = subst (λ (xs : List ℕ). 0 < length xs) c.unspaced.ensures (some-length c.unspaced.result.now (sym c.is_empty.ensures ∙ c.if-is_empty.false)) in
    sym (ap any_refusal (sym (words_of-unspaced text)) ∙ any-some (unspaced text) (Starts-unspaced text) some)
