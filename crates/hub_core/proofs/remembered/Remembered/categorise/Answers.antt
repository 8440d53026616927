use Rattle.std.proofs.Common.{◌∙◌, ap, sym}
use Rattle.std.specs.Prelude.{slice_set}
use Rattle.std.proofs.Math.Seq.{map-set_same}
use Rattle.hub_core.proofs.Room.{submission_of, asks-submission}
use Rattle.hub_core.proofs.Repeating.{index-same}
use Rattle.hub_core.proofs.remembered.Remembered.categorise.Goals as goal

pub invariant_of-self : goal.invariant_of-self
invariant_of-self g c =
    let lives = c.self.inside.lives.items in
    let old = c.index_mut.result.now in
    let new = c.categorise.new.self in
    let same = ap submission_of c.categorise.ensures ∙ asks-submission c.args.release c.args.asks.items old ∙ ap submission_of c.index_mut.ensures.value in
    index-same c.self.inside.index lives (slice_set lives c.args.place new) (sym (map-set_same submission_of lives c.args.place new old same)) c.self.invariant
