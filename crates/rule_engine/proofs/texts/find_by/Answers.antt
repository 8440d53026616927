use Rattle.std.proofs.Common.{sym, ◌∙◌}
use Rattle.rule_engine.proofs.Indexing.{index-missed, index-hit}
use Rattle.rule_engine.proofs.texts.find_by.Goals as goal

pub returns-in-None : goal.returns-in-None
returns-in-None c = index-missed c.args.index.now c.args.texts.now c.args.digest.now c.args.text.now c.requires.indexed c.requires.own (sym c.in-None.ensures.value)

pub returns-then-stands_at : goal.returns-then-stands_at
returns-then-stands_at c =
    let found = index-hit c.args.index.now c.args.texts.now c.args.digest.now c.args.text.now c.in-Some.place.now c.requires.indexed c.requires.own (sym c.in-Some.ensures.value)
    (sym c.stands_at.ensures ∙ c.if-stands_at.true) in
    (found.there, found.first)
