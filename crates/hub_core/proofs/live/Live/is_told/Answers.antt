use Rattle.std.proofs.Common.{◌≡◌, Some, ◌∙◌, ap, sym}
use Rattle.std.specs.Prelude.{option_map}
use Rattle.std.specs.Arc.{arc_value}
use Rattle.hub_core.specs.Setup.{Setup, texts_of, setup_of}
use Rattle.hub_core.specs.Mail.{LiveMail}
use Rattle.hub_core.proofs.Keeping.{told-inside}
use Rattle.hub_core.proofs.live.Live.is_told.Goals as goal

pub returns-in-Some : goal.returns-in-Some
returns-in-Some g c = λ limits.
    let setup : Setup = setup_of g.T.Planner.means limits in
    let texts = texts_of g.T.Planner.means in
    let has : c.args.self.now.org ≡ Some (texts (arc_value c.in-Some.org)) =
    sym (ap (λ (m : LiveMail). m.org) c.self.view_is) ∙ ap (option_map (λ o. texts (arc_value o))) c.in-Some.is in
    c.is_inside.ensures limits ∙ ap (λ org. setup.inside (texts org) c.args.sender.now) c.deref.ensures
    ∙ told-inside setup c.args.self.now.org (texts (arc_value c.in-Some.org)) c.args.sender.now c.args.tell c.in-Internal.is has
