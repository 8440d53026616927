use Rattle.std.proofs.Common.{◌≡◌, ◌+◌, false, true, drop, sym, ◌∙◌, ap}
use Rattle.std.specs.Prelude.{◌&&◌, is_some}
use Rattle.org_directory.specs.Reading.{are_known, place_in}
use Rattle.org_directory.proofs.Dropping.{all-step}
use Rattle.org_directory.proofs.second_pass.are_known.Goals as goal

pub returns-then-not-is_named : goal.returns-then-not-is_named
returns-then-not-is_named c =
    let off : is_some (place_in c.args.named.now c.name.result.now) ≡ false = sym c.is_named.ensures ∙ c.if-not-is_named.true in
    sym (sym c.loop-i.invariant ∙ (all-step (λ key. is_some (place_in c.args.named.now key)) c.args.list.now c.loop-i.i c.name.result.now c.name.ensures
    ∙ ap (λ b. b && are_known c.args.named.now (drop (c.loop-i.i + 1) c.args.list.now)) off))

pub loop-i-preserved : goal.loop-i-preserved
loop-i-preserved c =
    let on : is_some (place_in c.args.named.now c.name.result.now) ≡ true = sym c.is_named.ensures ∙ c.if-not-is_named.false in
    sym (all-step (λ key. is_some (place_in c.args.named.now key)) c.args.list.now c.loop-i.i c.name.result.now c.name.ensures
    ∙ ap (λ b. b && are_known c.args.named.now (drop (c.loop-i.i + 1) c.args.list.now)) on)
    ∙ c.loop-i.invariant
