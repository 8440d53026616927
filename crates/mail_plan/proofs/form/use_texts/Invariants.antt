use Rattle.std.proofs.Common.{◌≡◌, ◌≤◌, drop}
use Rattle.mail_plan.specs.Planning.{use_texts}
use Rattle.mail_plan.proofs.form.use_texts.Given as goal

abbrev pub invariant-loop-item : goal.invariant-loop-item
invariant-loop-item l = record {
  rest : use_texts l.used l.count (drop l.item-index l.items) ≡ use_texts 0 l.count l.items;
  within : l.used ≤ l.item-index;
}
