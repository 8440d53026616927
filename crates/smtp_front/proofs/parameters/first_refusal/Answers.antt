use Rattle.std.proofs.Common.{◌∙◌, ap, sym, subst, arith, length, drop, List, ℕ}
use Rattle.smtp_front.specs.Commands.{unspaced}
use Rattle.smtp_front.specs.Parameters.{words_of, first_refusal}
use Rattle.smtp_front.proofs.Parting.{Starts, words_of-unspaced, Starts-unspaced, some-length, refusal-here, refusal-later, shorter}
use Rattle.smtp_front.proofs.parameters.first_refusal.Goals as goal

pub loop-rest-init : goal.loop-rest-init
loop-rest-init c = record {
  same = ap (λ (xs : List ℕ). first_refusal (words_of xs)) c.unspaced-rest.ensures ∙ ap first_refusal (words_of-unspaced c.args.text.now);
  starts = subst (λ (xs : List ℕ). Starts xs) (sym c.unspaced-rest.ensures) (Starts-unspaced c.args.text.now);
}

pub returns-in-Some : goal.returns-in-Some
returns-in-Some c =
    let rest = c.loop-rest.rest.now in
    refusal-here rest c.before-word.result.now c.in-Some.line c.loop-rest.invariant.starts (some-length rest (sym c.loop-rest-test.ensures)) c.before-word.ensures c.in-Some.ensures
    ∙ c.loop-rest.invariant.same

pub loop-rest-smaller : goal.loop-rest-smaller
loop-rest-smaller c =
    let rest = c.loop-rest.rest.now in
    let word = c.before-word.result.now in
    let less = shorter rest word c.loop-rest.invariant.starts (some-length rest (sym c.loop-rest-test.ensures)) c.before-word.ensures in
    omega (arith, less, ap length (c.unspaced-rest-in-loop-rest.ensures ∙ ap unspaced c.beyond.ensures))

pub loop-rest-preserved : goal.loop-rest-preserved
loop-rest-preserved c =
    let rest = c.loop-rest.rest.now in
    let word = c.before-word.result.now in
    let new = c.unspaced-rest-in-loop-rest.ensures ∙ ap unspaced c.beyond.ensures in
    record {
      same = ap (λ (xs : List ℕ). first_refusal (words_of xs)) new
          ∙ ap first_refusal (words_of-unspaced (drop (length word) rest))
          ∙ refusal-later rest word c.loop-rest.invariant.starts (some-length rest (sym c.loop-rest-test.ensures)) c.before-word.ensures c.in-None.ensures
          ∙ c.loop-rest.invariant.same;
      starts = subst (λ (xs : List ℕ). Starts xs) (sym new) (Starts-unspaced (drop (length word) rest));
    }
