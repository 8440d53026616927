use Rattle.std.proofs.Common.{◌∙◌, sym}
use Rattle.hub_core.proofs.Removing.{without-at, place-within, without-none}
use Rattle.hub_core.proofs.waiting.take_out.Goals as goal

pub returns-in-Some : goal.returns-in-Some
returns-in-Some c =
    let at = sym c.place_of.ensures ∙ c.in-Some.is in
    c.remove_at.ensures (place-within c.args.name.now c.args.waiting.now.items c.in-Some.place at)
    ∙ without-at c.args.name.now c.args.waiting.now.items c.in-Some.place at

pub returns-in-None : goal.returns-in-None
returns-in-None c = without-none c.args.name.now c.args.waiting.now.items (sym c.place_of.ensures ∙ c.in-None.is)
