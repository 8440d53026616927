use Rattle.command_words.proofs.Meanings.{no_make, no_turn}
use Rattle.command_words.proofs.words.read.Goals as goal

pub returns-in-Some-turn-clause-usage : goal.returns-in-Some-turn-clause-usage
returns-in-Some-turn-clause-usage c = λ is command means.
    no_turn c.args.words.now c.in-Some-turn.field-0.now command c.in-Some-turn.ensures.value c.in-Some-turn.is-turn (c.read_turn.ensures.usage is) means

pub returns-in-Some-make-clause-usage : goal.returns-in-Some-make-clause-usage
returns-in-Some-make-clause-usage c = λ is command means.
    no_make c.args.words.now c.in-Some-make.field-0.now command c.in-Some-make.ensures.value c.in-Some-make.is-make (c.read_make.ensures.usage is) means
