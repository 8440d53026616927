use Rattle.command_words.proofs.Meanings.{one_command}
use Rattle.command_words.proofs.laws.one_meaning.Goals as goal

pub returns : goal.returns
returns c = one_command
