use Rattle.std.proofs.Common.{◌≡◌, ◌∙◌, ap, true}
use Rattle.std.proofs.lemmas.Result.{IfOk-weaker}
use Rattle.rule_match.specs.Applies.{has_one}
use Rattle.rule_match.specs.Header.{behind_blank}
use Rattle.rule_match.proofs.Headers.{body-is}
use Rattle.rule_match.proofs.content.body_has_one.Goals as goal

pub returns : goal.returns
returns c =
    let body : c.behind_blank.result.now ≡ c.args.message.now.body =
    c.behind_blank.ensures ∙ ap (behind_blank true) c.as_slice.ensures ∙ body-is c.in_ok-text.text c.args.message.now c.in_ok-text.ensures.reads in
    IfOk-weaker c.has_one.result _ _ (λ found is. is ∙ ap (has_one c.args.words.now) body) c.has_one.ensures
