use Rattle.std.proofs.Common.{◌≡◌, true, Some, None, [], ◌∷◌, ◌++◌, ap, ◌∙◌, sym, subst}
use Rattle.std.specs.Prelude.{option_map, option_copied, slice_set}
use Rattle.std.specs.Arc.{arc_value}
use Rattle.moderation.specs.declared.approval.Verdict.TheVariants as verdicts
use Rattle.mail_plan.specs.Planning.{Opening}
use Rattle.hub_core.specs.Setup.{texts_of}
use Rattle.hub_core.specs.Approvals.{Stage, changed, decided_stage}
use Rattle.hub_core.specs.Mail.{LiveMail, IsLive, asking_at, decision_in, is_taken, decided_mail}
use Rattle.hub_core.proofs.Deciding.{pushed-ok}
use Rattle.hub_core.proofs.Keeping.{asked-within, decided-pushed, approved-live, approved-is}
use Rattle.hub_core.proofs.live.Live.approve.Goals as goal

pub invariant_of-self-2 : goal.invariant_of-self-2
invariant_of-self-2 g c =
    let it = c.self.inside in
    let name = c.args.name.now in
    let by = c.args.by.now in
    let moment = c.args.moment in
    let texts = texts_of g.T.Planner.means in
    let old : LiveMail = record { submission = arc_value it.submission; accepted_at = it.accepted_at; epoch = it.epoch; org = option_map (λ o. texts (arc_value o)) it.org; opened = it.opened.items; stages = it.stages.items } in
    let at : asking_at old name ≡ Some c.in-Some.asking.now = ap (λ (m : LiveMail). asking_at m name) c.self.view_is ∙ sym c.asking.ensures ∙ ap option_copied c.in-Some.is in
    let f = decided_stage name.gate by verdicts.Approve moment in
    let pushed : c.push-2.new.self.items ≡ it.stages.items ++ None ∷ [] =
    pushed-ok c.push-2.result c.is_err.result c.push-2.new.self.items (it.stages.items ++ c.waiting.result ∷ []) it.stages.items c.is_err.ensures.value c.if-is_err.false c.push-2.ensures.items ∙ ap (λ (s : Stage). it.stages.items ++ s ∷ []) c.waiting.ensures in
    let stages : slice_set c.push-2.new.self.items name.release c.decide.new.self ≡ changed f name.release it.stages.items ++ None ∷ [] =
    decided-pushed it.stages.items c.push-2.new.self.items name.gate by verdicts.Approve moment name.release c.index_mut.result.now c.decide.new.self pushed (asked-within old name c.in-Some.asking.now at)
    (c.decide.ensures ∙ ap f c.index_mut.ensures.value) in
    let opening : Opening = c.in_ok-opening-in-Some.opening in
    let opened : c.push.new.self.items ≡ it.opened.items ++ opening ∷ [] = c.in_ok-push.ensures.items in
    let taken : is_taken (decision_in (Some old) name by verdicts.Approve moment) ≡ true =
    subst (λ (m : LiveMail). is_taken (decision_in (Some m) name by verdicts.Approve moment) ≡ true) (sym c.self.view_is) c.requires.taken in
    let opened_back = sym opened in
    let stages_back = sym stages in
    subst (λ (m : LiveMail). IsLive m) (λ i. record old { opened = opened_back i; stages = stages_back i }) (approved-live old name by moment opening c.self.invariant taken)

pub returns-clause-ok : goal.returns-clause-ok
returns-clause-ok g c =
    let it = c.self.inside in
    let name = c.args.name.now in
    let by = c.args.by.now in
    let moment = c.args.moment in
    let texts = texts_of g.T.Planner.means in
    let old : LiveMail = record { submission = arc_value it.submission; accepted_at = it.accepted_at; epoch = it.epoch; org = option_map (λ o. texts (arc_value o)) it.org; opened = it.opened.items; stages = it.stages.items } in
    let at : asking_at old name ≡ Some c.in-Some.asking.now = ap (λ (m : LiveMail). asking_at m name) c.self.view_is ∙ sym c.asking.ensures ∙ ap option_copied c.in-Some.is in
    let f = decided_stage name.gate by verdicts.Approve moment in
    let pushed : c.push-2.new.self.items ≡ it.stages.items ++ None ∷ [] =
    pushed-ok c.push-2.result c.is_err.result c.push-2.new.self.items (it.stages.items ++ c.waiting.result ∷ []) it.stages.items c.is_err.ensures.value c.if-is_err.false c.push-2.ensures.items ∙ ap (λ (s : Stage). it.stages.items ++ s ∷ []) c.waiting.ensures in
    let stages : slice_set c.push-2.new.self.items name.release c.decide.new.self ≡ changed f name.release it.stages.items ++ None ∷ [] =
    decided-pushed it.stages.items c.push-2.new.self.items name.gate by verdicts.Approve moment name.release c.index_mut.result.now c.decide.new.self pushed (asked-within old name c.in-Some.asking.now at)
    (c.decide.ensures ∙ ap f c.index_mut.ensures.value) in
    let opening : Opening = c.in_ok-opening-in-Some.opening in
    let opened : c.push.new.self.items ≡ it.opened.items ++ opening ∷ [] = c.in_ok-push.ensures.items in
    let asked : Opening = record { gate = c.in-Some.asking.now.approval.gate; moment = moment } in
    let is : opening ≡ asked = c.in_ok-opening-in-Some.ensures ∙ (λ i. record { gate = c.gate.ensures i; moment = moment }) in
    let all_opened = opened ∙ ap (λ (o : Opening). it.opened.items ++ o ∷ []) is in
    let after : LiveMail = record old { opened = c.push.new.self.items; stages = slice_set c.push-2.new.self.items name.release c.decide.new.self } in
    let made : after ≡ record old { opened = it.opened.items ++ asked ∷ []; stages = changed f name.release it.stages.items ++ None ∷ [] } =
    λ i. record old { opened = all_opened i; stages = stages i } in
    made ∙ approved-is old name by moment c.in-Some.asking.now at ∙ ap (decided_mail name by verdicts.Approve moment) c.self.view_is
