use Rattle.std.proofs.Common.{ap, ◌∙◌, sym}
use Rattle.std.specs.Prelude.{map}
use Rattle.hub_core.proofs.Room.{submission_of, submissions-expired}
use Rattle.hub_core.proofs.Repeating.{index-same}
use Rattle.hub_core.proofs.remembered.Remembered.expire.Goals as goal

pub invariant_of-self : goal.invariant_of-self
invariant_of-self g c =
    let lives = c.self.inside.lives.items in
    index-same c.self.inside.index lives c.expire_lives.new.lives.items
    (sym (ap (map submission_of) c.expire_lives.ensures ∙ submissions-expired c.args.moment lives)) c.self.invariant
