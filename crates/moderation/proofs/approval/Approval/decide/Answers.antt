use Rattle.std.proofs.Common.{ap, ◌∙◌, sym, List, ℕ}
use Rattle.std.specs.Prelude.{bytes_eq, position}
use Rattle.moderation.specs.declared.approval.ApprovalState.TheVariants as states
use Rattle.moderation.specs.Approval.{Asked}
use Rattle.moderation.proofs.Deciding.{answered, taken, left}
use Rattle.moderation.proofs.approval.Approval.decide.Goals as goal

pub returns-in-Taken-clause-answer : goal.returns-in-Taken-clause-answer
returns-in-Taken-clause-answer c =
    let keys = c.as_slice.ensures ∙ ap (λ (a : Asked). a.moderators) c.self.view_is in
    let found = c.in-Some.ensures ∙ ap (λ (those : List (List ℕ)). position (bytes_eq c.args.by.now) those) keys in
    sym c.in-Taken.is ∙ answered c.args.self.now c.args.by.now c.args.moment c.in-Some.place c.moderator_answer.result found c.moderator_answer.ensures

pub returns-in-Taken-clause-after : goal.returns-in-Taken-clause-after
returns-in-Taken-clause-after c =
    let keys = c.as_slice.ensures ∙ ap (λ (a : Asked). a.moderators) c.self.view_is in
    let found = c.in-Some.ensures ∙ ap (λ (those : List (List ℕ)). position (bytes_eq c.args.by.now) those) keys in
    let answer = answered c.args.self.now c.args.by.now c.args.moment c.in-Some.place c.moderator_answer.result found c.moderator_answer.ensures in
    ap (λ (a : Asked). record a { state = states.Decided c.in-Some.place c.args.verdict }) c.self.view_is
    ∙ taken c.args.self.now c.args.by.now c.args.verdict c.args.moment c.in-Some.place found (sym c.in-Taken.is ∙ answer)

pub returns-in_default-moderator_answer : goal.returns-in_default-moderator_answer
returns-in_default-moderator_answer c =
    let keys = c.as_slice.ensures ∙ ap (λ (a : Asked). a.moderators) c.self.view_is in
    let found = c.in-Some.ensures ∙ ap (λ (those : List (List ℕ)). position (bytes_eq c.args.by.now) those) keys in
    let answer = answered c.args.self.now c.args.by.now c.args.moment c.in-Some.place c.moderator_answer.result found c.moderator_answer.ensures in
    record {
      answer = answer;
      after = left c.args.self.now c.args.by.now c.args.verdict c.args.moment (λ is. c.in_default-moderator_answer.not-Taken (answer ∙ is));
    }
