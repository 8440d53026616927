use Rattle.std.proofs.Common.{rules, ◌≡◌, ℕ, ◌+◌, List, [], ◌∷◌, ◌++◌, fold, map, drop, arith, append_assoc, subst, ap, ◌∙◌}
use Rattle.std.proofs.lemmas.Grind.{common_steps}
use Rattle.std.proofs.lemmas.List.Sums.{fold-append}
use Rattle.rule_engine.specs.declared.recipient.MadeCopy.{MadeCopy}
use Rattle.rule_engine.specs.declared.leaves.SideCopy.{SideCopy}
use Rattle.rule_engine.specs.Run.{with_text, copy_text, place_of, placed_copy, placed_copies}
use Rattle.rule_engine.proofs.leaves.add_copies.Goals as goal

-- one copy more
more_copies : (into : List SideCopy) (texts : List (List ℕ)) (leaf : ℕ) (copied : MadeCopy) (rest : List MadeCopy) (target : List ℕ) (place : ℕ) (pushed whole : List SideCopy) →
    pushed ≡ into ++ record { leaf = leaf; target = target; text = place; rule = copied.rule } ∷ [] →
    target ≡ copied.target → place ≡ place_of texts copied.text →
    into ++ placed_copies texts leaf (copied ∷ rest) ≡ whole →
    pushed ++ placed_copies texts leaf rest ≡ whole
more_copies into texts leaf copied rest target place pushed whole p t e h =
    let one : pushed ≡ into ++ placed_copy texts leaf copied ∷ [] = cc in
    rw (one, append_assoc) h

pub loop-copied-preserved : goal.loop-copied-preserved
loop-copied-preserved c =
    let rest : List MadeCopy = drop (c.loop-copied.copied-index + 1) c.args.copies.now in
    let cut : drop c.loop-copied.copied-index c.args.copies.now ≡ c.copied-item.result ∷ rest = grind (arith, common_steps) in
    let texts : fold with_text c.place.new.self (map copy_text rest) ≡ fold with_text c.args.texts.now (map copy_text c.args.copies.now) =
    (let h = subst (λ (xs : List MadeCopy). fold with_text c.loop-copied.texts (map copy_text xs) ≡ fold with_text c.args.texts.now (map copy_text c.args.copies.now)) cut c.loop-copied.invariant.texts in
    let g : c.place.new.self ≡ with_text c.loop-copied.texts c.copied-item.result.text = search rules in rw g h) in
    record {
      texts = texts;
      copies = λ later.
          let all : List (List ℕ) = fold with_text (fold with_text c.args.texts.now (map copy_text c.args.copies.now)) later in
          let at : c.in_ok-text.text ≡ place_of (fold with_text c.place.new.self (map copy_text rest ++ later)) c.copied-item.result.text =
          c.in_ok-text.ensures.place (map copy_text rest ++ later)
          ∙ ap (λ (text : List ℕ). place_of (fold with_text c.place.new.self (map copy_text rest ++ later)) text) c.bytes.ensures in
          let split : fold with_text c.place.new.self (map copy_text rest ++ later) ≡ all =
          fold-append with_text c.place.new.self (map copy_text rest) later ∙ ap (λ texts. fold with_text texts later) texts in
          let here : c.in_ok-text.text ≡ place_of all c.copied-item.result.text = at ∙ ap (λ texts. place_of texts c.copied-item.result.text) split in
          let before = subst (λ (xs : List MadeCopy). c.loop-copied.into ++ placed_copies all c.args.leaf xs ≡ c.args.into.now ++ placed_copies all c.args.leaf c.args.copies.now) cut (c.loop-copied.invariant.copies later) in
          more_copies c.loop-copied.into all c.args.leaf c.copied-item.result rest c.in_ok-target.target c.in_ok-text.text c.push.new.self _
          c.in_ok-push.ensures.ok c.in_ok-target.ensures here before;
    }
