use Rattle.std.proofs.Common.{List, length, refl, ap, ◌∙◌, sym}
use Rattle.std.specs.Prelude.{option_map}
use Rattle.std.specs.Arc.{arc_value}
use Rattle.std.specs.List.{list_any}
use Rattle.std.proofs.lemmas.List.{length-map}
use Rattle.hub_core.specs.Setup.{texts_of}
use Rattle.hub_core.specs.Approvals.{Stage, expired_stage, stage_open}
use Rattle.hub_core.specs.Mail.{LiveMail, freed, expired_mail}
use Rattle.hub_core.proofs.Keeping.{free-live, free-is, any-expired}
use Rattle.hub_core.proofs.live.Live.expire.Goals as goal

pub invariant_of-self : goal.invariant_of-self
invariant_of-self g c =
    let it = c.self.inside in
    let texts = texts_of g.T.Planner.means in
    let old : LiveMail = record { submission = arc_value it.submission; accepted_at = it.accepted_at; epoch = it.epoch; org = option_map (λ o. texts (arc_value o)) it.org; opened = it.opened.items; stages = it.stages.items } in
    let stages = c.expire_stages.new.stages.items in
    free-live (λ o. texts (arc_value o)) old it.org c.free.new.org stages c.deref.result.now refl c.self.invariant (ap length c.expire_stages.ensures ∙ length-map it.stages.items (expired_stage c.args.moment))
    (λ still. any-expired c.args.moment it.stages.items (sym (ap (list_any stage_open) c.expire_stages.ensures) ∙ still)) c.deref.ensures.value c.free.ensures

pub returns : goal.returns
returns g c =
    let it = c.self.inside in
    let texts = texts_of g.T.Planner.means in
    let old : LiveMail = record { submission = arc_value it.submission; accepted_at = it.accepted_at; epoch = it.epoch; org = option_map (λ o. texts (arc_value o)) it.org; opened = it.opened.items; stages = it.stages.items } in
    free-is (λ o. texts (arc_value o)) old it.org c.free.new.org c.expire_stages.new.stages.items c.deref.result.now refl c.deref.ensures.value c.free.ensures
    ∙ ap (λ (l : List Stage). freed (record old { stages = l })) c.expire_stages.ensures ∙ ap (expired_mail c.args.moment) c.self.view_is
