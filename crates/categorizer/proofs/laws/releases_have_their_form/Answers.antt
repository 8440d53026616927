use Rattle.categorizer.proofs.Keeping.{lawful}
use Rattle.categorizer.proofs.laws.releases_have_their_form.Goals as goal

pub returns : goal.returns
returns c = lawful
