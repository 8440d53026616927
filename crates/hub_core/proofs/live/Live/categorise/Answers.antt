use Rattle.std.proofs.Common.{◌≡◌, true, refl, sym, subst}
use Rattle.std.specs.Prelude.{option_map, slice_set}
use Rattle.std.specs.Arc.{arc_value}
use Rattle.std.proofs.lemmas.List.{length-set}
use Rattle.hub_core.specs.Setup.{texts_of}
use Rattle.hub_core.specs.Mail.{LiveMail, waits}
use Rattle.hub_core.proofs.Keeping.{free-live, waits-open}
use Rattle.hub_core.proofs.live.Live.categorise.Goals as goal

pub invariant_of-self : goal.invariant_of-self
invariant_of-self g c =
    let it = c.self.inside in
    let texts = texts_of g.T.Planner.means in
    let old : LiveMail = record { submission = arc_value it.submission; accepted_at = it.accepted_at; epoch = it.epoch; org = option_map (λ o. texts (arc_value o)) it.org; opened = it.opened.items; stages = it.stages.items } in
    let waiting : waits old c.args.release ≡ true = subst (λ (m : LiveMail). waits m c.args.release ≡ true) (sym c.self.view_is) c.requires in
    free-live (λ o. texts (arc_value o)) old it.org c.free.new.org (slice_set it.stages.items c.args.release c.categorise.new.self) c.deref.result.now refl c.self.invariant
    (length-set it.stages.items c.args.release c.categorise.new.self) (λ _. waits-open old c.args.release waiting) c.deref.ensures.value c.free.ensures
