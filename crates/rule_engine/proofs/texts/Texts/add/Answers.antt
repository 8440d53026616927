use Rattle.std.proofs.Common.{◌≡◌, ℕ, List, false, ◌∙◌, ap, sym, subst}
use Rattle.std.specs.Prelude.{bytes_eq}
use Rattle.sha2.specs.Sha256.{sha256}
use Rattle.rule_engine.specs.Run.{is_text}
use Rattle.rule_engine.specs.Index.{IsIndex, found_or, place_at}
use Rattle.rule_engine.proofs.Indexing.{index-pushed}
use Rattle.rule_engine.proofs.texts.Texts.add.Goals as goal

pub invariant_of-self-in_default : goal.invariant_of-self-in_default
invariant_of-self-in_default c =
    subst (λ (texts : List (List ℕ)). IsIndex c.note.new.index texts) (sym c.in_ok-push.ensures.items)
    (index-pushed c.self.inside.index c.note.new.index c.self.inside.texts.items c.args.text c.self.invariant
    (subst (λ (texts : List (List ℕ)). is_text texts c.args.text ≡ false) (sym c.self.view_is) c.requires.new)
    (λ digest.
    c.in_default.ensures.ok digest
    ∙ ap (λ (own : List ℕ). found_or (place_at c.self.inside.index digest) (bytes_eq own digest) c.len-place.result) c.requires.own
    ∙ ap (λ (place : ℕ). found_or (place_at c.self.inside.index digest) (bytes_eq (sha256 c.args.text) digest) place) (c.len-place.ensures ∙ c.self.inside.texts.ok.0)))
