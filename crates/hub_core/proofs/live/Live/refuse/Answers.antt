use Rattle.std.proofs.Common.{◌≡◌, true, List, Some, refl, ap, ◌∙◌, sym, subst}
use Rattle.std.specs.Prelude.{option_map, slice_set}
use Rattle.std.specs.Arc.{arc_value}
use Rattle.std.proofs.lemmas.List.{length-set}
use Rattle.moderation.specs.declared.approval.Verdict.TheVariants as verdicts
use Rattle.hub_core.specs.Setup.{texts_of}
use Rattle.hub_core.specs.Approvals.{Stage, changed, decided_stage, stage_open}
use Rattle.hub_core.specs.Mail.{LiveMail, decision_in, is_taken, freed, decided_mail}
use Rattle.std.specs.List.{list_any}
use Rattle.hub_core.proofs.Changing.{changed-set}
use Rattle.hub_core.proofs.Keeping.{free-live, free-is, takes, asked-within, any-decided, refused-is}
use Rattle.hub_core.proofs.live.Live.refuse.Goals as goal

pub invariant_of-self : goal.invariant_of-self
invariant_of-self g c =
    let it = c.self.inside in
    let name = c.args.name.now in
    let texts = texts_of g.T.Planner.means in
    let old : LiveMail = record { submission = arc_value it.submission; accepted_at = it.accepted_at; epoch = it.epoch; org = option_map (λ o. texts (arc_value o)) it.org; opened = it.opened.items; stages = it.stages.items } in
    let taken : is_taken (decision_in (Some old) name c.args.by.now verdicts.Reject c.args.moment) ≡ true =
    subst (λ (m : LiveMail). is_taken (decision_in (Some m) name c.args.by.now verdicts.Reject c.args.moment) ≡ true) (sym c.self.view_is) c.requires in
    let is = takes old name c.args.by.now verdicts.Reject c.args.moment taken in
    let f = decided_stage name.gate c.args.by.now verdicts.Reject c.args.moment in
    let stages = slice_set it.stages.items name.release c.decide.new.self in
    let set_to : stages ≡ changed f name.release it.stages.items =
    changed-set f name.release it.stages.items c.index_mut.result.now c.decide.new.self (asked-within old name is.asking is.at) (c.decide.ensures ∙ ap f c.index_mut.ensures.value) in
    free-live (λ o. texts (arc_value o)) old it.org c.free.new.org stages c.deref.result.now refl c.self.invariant (length-set it.stages.items name.release c.decide.new.self)
    (λ still. any-decided name.gate c.args.by.now verdicts.Reject c.args.moment name.release it.stages.items (sym (ap (list_any stage_open) set_to) ∙ still)) c.deref.ensures.value c.free.ensures

pub returns : goal.returns
returns g c =
    let it = c.self.inside in
    let name = c.args.name.now in
    let texts = texts_of g.T.Planner.means in
    let old : LiveMail = record { submission = arc_value it.submission; accepted_at = it.accepted_at; epoch = it.epoch; org = option_map (λ o. texts (arc_value o)) it.org; opened = it.opened.items; stages = it.stages.items } in
    let taken : is_taken (decision_in (Some old) name c.args.by.now verdicts.Reject c.args.moment) ≡ true =
    subst (λ (m : LiveMail). is_taken (decision_in (Some m) name c.args.by.now verdicts.Reject c.args.moment) ≡ true) (sym c.self.view_is) c.requires in
    let is = takes old name c.args.by.now verdicts.Reject c.args.moment taken in
    let f = decided_stage name.gate c.args.by.now verdicts.Reject c.args.moment in
    let stages = slice_set it.stages.items name.release c.decide.new.self in
    let set_to : stages ≡ changed f name.release it.stages.items =
    changed-set f name.release it.stages.items c.index_mut.result.now c.decide.new.self (asked-within old name is.asking is.at) (c.decide.ensures ∙ ap f c.index_mut.ensures.value) in
    free-is (λ o. texts (arc_value o)) old it.org c.free.new.org stages c.deref.result.now refl c.deref.ensures.value c.free.ensures
    ∙ ap (λ (l : List Stage). freed (record old { stages = l })) set_to ∙ refused-is old name c.args.by.now c.args.moment is.asking is.at
    ∙ ap (decided_mail name c.args.by.now verdicts.Reject c.args.moment) c.self.view_is
