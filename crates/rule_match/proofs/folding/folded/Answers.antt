use Rattle.std.proofs.Common.{sym, ◌∙◌, ap, chars, encode_utf8_all}
use Rattle.std.proofs.lemmas.Result.{IfOk-weaker}
use Rattle.caseless.specs.Caseless.{default_case_fold}
use Rattle.rule_match.proofs.Cases.{folded-utf8, folded-other}
use Rattle.rule_match.proofs.folding.folded.Goals as goal

pub returns-in_ok-folded-in-Ok : goal.returns-in_ok-folded-in-Ok
returns-in_ok-folded-in-Ok c =
    let text = folded-utf8 c.args.text.now c.in-Ok.ensures.cases.1 in
    let same = c.in-Ok.ensures.cases.0 in
    let folded = c.in_ok-folded-in-Ok.ensures in
    let bytes = ap (λ v. v.items) c.into_bytes.ensures.value in
    c.from_vec.ensures ∙ bytes ∙ folded ∙ ap (λ s. encode_utf8_all (default_case_fold (chars s))) same ∙ sym text

pub returns-in-Err : goal.returns-in-Err
returns-in-Err c =
    let text = folded-other c.args.text.now c.in-Err.ensures.cases.0 in
    IfOk-weaker c.lowered.result _ _ (λ b is. is ∙ sym text) c.lowered.ensures
