use Rattle.std.proofs.Common.{◌∙◌, sym}
use Rattle.hub_core.proofs.Repeating.{place-missed, place-hit}
use Rattle.hub_core.proofs.remembered.place_by.Goals as goal

pub returns-in-None : goal.returns-in-None
returns-in-None g c =
    sym (place-missed c.args.submission.now c.args.index.now c.args.lives.now c.args.digest.now c.requires.indexed c.requires.own (sym c.in-None.ensures.value))

pub returns-then-repeats_at : goal.returns-then-repeats_at
returns-then-repeats_at g c =
    sym (place-hit c.args.submission.now c.args.index.now c.args.lives.now c.args.digest.now c.in-Some.place.now c.requires.indexed c.requires.own (sym c.in-Some.ensures.value)
    (sym c.repeats_at.ensures ∙ c.if-repeats_at.true))
