use Rattle.std.proofs.Common.{◌+◌, ◌++◌, ◌∷◌, [], drop, map, ◌∙◌, ap}
use Rattle.org_directory.specs.Reading.{place_or_0}
use Rattle.org_directory.proofs.Dropping.{map-step}
use Rattle.org_directory.proofs.second_pass.places.Goals as goal

pub loop-i-preserved : goal.loop-i-preserved
loop-i-preserved c =
    ap (λ ps. ps ++ map (place_or_0 c.args.named.now) (drop (c.loop-i.i + 1) c.args.list.now))
    (c.in_ok-push.ensures.ok ∙ ap (λ p. c.loop-i.places ++ p ∷ []) c.place_or_0.ensures)
    ∙ (map-step (place_or_0 c.args.named.now) c.loop-i.places c.args.list.now c.loop-i.i c.name.result.now c.name.ensures ∙ c.loop-i.invariant)
