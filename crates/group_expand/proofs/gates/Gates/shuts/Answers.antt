use Rattle.std.proofs.Common.{◌≡◌, ◌∙◌, IfOk, Some, subst, sym}
use Rattle.org_directory.proofs.Offered.{found-below}
use Rattle.org_directory.specs.Register.{key_at, place_of}
use Rattle.group_expand.specs.Gates.{shuts}
use Rattle.group_expand.proofs.gates.Gates.shuts.Goals as goal

pub returns-in-Some-clause-answer : goal.returns-in-Some-clause-answer
returns-in-Some-clause-answer c =
    let found : place_of c.args.directory.now c.args.key.now ≡ Some c.in-Some.place = sym c.find.ensures ∙ c.in-Some.is in
    let key : key_at c.args.directory.now c.in-Some.place ≡ c.args.key.now = sym (found-below c.args.directory.now c.args.key.now c.in-Some.place found).1 in
    subst (λ k. IfOk c.is_shut.result (λ b. b ≡ shuts c.args.directory.now c.args.self.now k)) key c.is_shut.ensures.answer
