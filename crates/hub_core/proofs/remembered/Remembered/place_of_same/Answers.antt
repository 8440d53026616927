use Rattle.std.proofs.Common.{◌∙◌, sym}
use Rattle.hub_core.proofs.Repeating.{place-without}
use Rattle.hub_core.proofs.remembered.Remembered.place_of_same.Goals as goal

pub returns-in-None-clause-value : goal.returns-in-None-clause-value
returns-in-None-clause-value g c = sym (place-without c.args.submission.now c.args.self.now (sym c.digest_of.ensures ∙ c.in-None.is))
