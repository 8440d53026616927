use Rattle.std.proofs.Common.{◌∙◌, sym}
use Rattle.hub_core.proofs.Removing.{told-at, told-none}
use Rattle.hub_core.proofs.waiting.tell.Goals as goal

pub returns-in-Some : goal.returns-in-Some
returns-in-Some c =
    let (w, there, told) = told-at c.args.name.now c.args.waiting.now.items c.in-Some.place (sym c.place_of.ensures ∙ c.in-Some.is) in
    c.tell_at.ensures w there ∙ told

pub returns-in-None : goal.returns-in-None
returns-in-None c = told-none c.args.name.now c.args.waiting.now.items (sym c.place_of.ensures ∙ c.in-None.is)
