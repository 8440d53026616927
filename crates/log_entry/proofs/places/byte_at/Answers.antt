use Rattle.std.proofs.Common.{[], ◌∷◌, refl}
use Rattle.log_entry.proofs.places.byte_at.Goals as goal

pub returns-in-None : goal.returns-in-None
returns-in-None c = λ b end small stands. c.in-None.ensures.none (b ∷ []) end refl stands
