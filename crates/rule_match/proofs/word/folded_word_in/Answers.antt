use Rattle.std.proofs.Common.{◌∙◌, ap, arith, length}
use Rattle.rule_match.proofs.Cases.{folded-some}
use Rattle.rule_match.proofs.word.folded_word_in.Goals as goal

pub stands_in-requires : goal.stands_in-requires
stands_in-requires c =
    let some = folded-some c.args.word.now c.requires in
    let size = ap length (c.as_slice.ensures ∙ c.in_ok-word.ensures) in
    omega arith
