use Rattle.std.proofs.Common.{ℕ, List, length, sym, ◌∙◌, ap}
use Rattle.rule_engine.specs.Run.{is_text}
use Rattle.rule_engine.proofs.Placing.{place-kept, place-added}
use Rattle.rule_engine.proofs.texts.Texts.place.Goals as goal

pub returns-in-Some-clause-place : goal.returns-in-Some-clause-place
returns-in-Some-clause-place c =
    place-kept c.deref.result.now c.args.self.now c.args.text.now c.in_ok-found.found (sym (c.deref.ensures.value ∙ c.self.view_is))
    c.in-Some.ensures.0 (c.in-Some.ensures.1 ∙ sym c.in_ok-found.ensures)

pub returns-clause-place : goal.returns-clause-place
returns-clause-place c =
    place-added c.args.self.now c.add.new.self c.args.text.now c.in_ok-of.field-0 c.in_ok-added.added c.in_ok-add.ensures (c.in_ok-of.ensures ∙ c.as_slice-2.ensures)
    (ap (λ (texts : List (List ℕ)). is_text texts c.args.text.now) (sym (c.deref.ensures.value ∙ c.self.view_is)) ∙ c.in_default.ensures)
    (c.in_ok-added.ensures ∙ c.len.ensures ∙ c.self.inside.texts.ok.0 ∙ ap (λ (texts : List (List ℕ)). length texts) c.self.view_is)
