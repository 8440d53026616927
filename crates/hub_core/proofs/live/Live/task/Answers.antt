use Rattle.std.proofs.Common.{◌≡◌, None, ◌∙◌, ap, sym, subst}
use Rattle.std.specs.Prelude.{option_map}
use Rattle.std.specs.Arc.{arc_value}
use Rattle.hub_core.specs.Setup.{texts_of}
use Rattle.hub_core.specs.Mail.{LiveMail, IsLive}
use Rattle.hub_core.proofs.Keeping.{none-waits}
use Rattle.hub_core.proofs.live.Live.task.Goals as goal

pub returns-in-None-clause-waits : goal.returns-in-None-clause-waits
returns-in-None-clause-waits g c =
    let texts = texts_of g.T.Planner.means in
    let has : c.args.self.now.org ≡ None = sym (ap (λ (m : LiveMail). m.org) c.self.view_is) ∙ ap (option_map (λ o. texts (arc_value o))) c.in-None.is in
    none-waits c.args.self.now c.args.release (subst IsLive c.self.view_is c.self.invariant) has
