use Rattle.std.proofs.Common.{◌≡◌, ◌+◌, List, [], ◌∷◌, ◌++◌, drop, sym, ◌∙◌, ap, append_assoc, arith}
use Rattle.std.specs.Option.{option_copied}
use Rattle.std.proofs.lemmas.Grind.{common_steps}
use Rattle.group_expand.specs.declared.outcome.Leaf.{Leaf}
use Rattle.rule_match.specs.Applies.{Setting}
use Rattle.rule_engine.specs.declared.recipient.RuleOutcome.{RuleOutcome}
use Rattle.rule_engine.specs.Fate.{fate}
use Rattle.rule_engine.specs.Run.{outcomes}
use Rattle.categorizer.specs.declared.parts.Judged.{Judged}
use Rattle.categorizer.specs.Plan.{judged}
use Rattle.categorizer.proofs.planning.judged.Goals as goal

pub loop-leaf-preserved : goal.loop-leaf-preserved
loop-leaf-preserved c =
    let setting : Setting = record { directory = c.args.directory.now; sender = option_copied c.args.sender; moment = c.args.moment } in
    let rest : List Leaf = drop (c.loop-leaf.leaf-index + 1) c.args.leaves.now in
    let cut : drop c.loop-leaf.leaf-index c.args.leaves.now ≡ c.leaf-item.result ∷ rest = grind (arith, common_steps) in
    let first : RuleOutcome = fate c.args.rules.now setting c.args.message.now c.args.opened.now c.leaf-item.result.key in
    let others : List RuleOutcome = outcomes c.args.rules.now setting c.args.message.now c.args.opened.now rest in
    let one : Judged = record { leaf = c.leaf-item.result; outcome = first } in
    let front : c.loop-leaf.left.items ≡ first ∷ others
    = c.loop-leaf.invariant.left ∙ ap (λ (leaves : List Leaf). outcomes c.args.rules.now setting c.args.message.now c.args.opened.now leaves) cut in
    let added : (c.add_judged.new.left.items ≡ others) × (c.add_judged.new.all ≡ c.loop-leaf.all ++ one ∷ []) = c.in_ok-add_judged.ensures first others front in
    record {
      left = added.0;
      all = ap (λ (all : List Judged). all ++ judged c.args.rules.now setting c.args.message.now c.args.opened.now rest) added.1
          ∙ append_assoc c.loop-leaf.all (one ∷ []) (judged c.args.rules.now setting c.args.message.now c.args.opened.now rest)
          ∙ ap (λ (leaves : List Leaf). c.loop-leaf.all ++ judged c.args.rules.now setting c.args.message.now c.args.opened.now leaves) (sym cut)
          ∙ c.loop-leaf.invariant.all;
    }
