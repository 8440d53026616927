use Rattle.std.proofs.Common.{ap, ◌∙◌, List, ℕ}
use Rattle.std.specs.Prelude.{bytes_eq, position}
use Rattle.moderation.specs.Approval.{Asked}
use Rattle.moderation.proofs.Deciding.{answered}
use Rattle.moderation.proofs.approval.Approval.answer.Goals as goal

pub returns-in-Some : goal.returns-in-Some
returns-in-Some c =
    let keys = c.as_slice.ensures ∙ ap (λ (a : Asked). a.moderators) c.self.view_is in
    answered c.args.self.now c.args.by.now c.args.moment c.in-Some.field-0 c.moderator_answer.result
    (c.in-Some.ensures ∙ ap (λ (those : List (List ℕ)). position (bytes_eq c.args.by.now) those) keys)
    c.moderator_answer.ensures
