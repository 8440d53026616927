use Rattle.std.proofs.Common.{◌≡◌, ◌++◌, length, take}
use Rattle.std.specs.List.{flat_map, AllByRecursion}
use Rattle.mail_plan.specs.Fits.{IsStep}
use Rattle.log_entry.specs.EntryText.{le32, form_step}
use Rattle.log_entry.proofs.text.put_steps.Given as goal

abbrev pub invariant-loop-value : goal.invariant-loop-value
invariant-loop-value l = record {
  text : l.into ≡ l.fn.into ++ (le32 (length l.values) ++ flat_map form_step (take l.value-index l.values));
  fits : AllByRecursion IsStep (take l.value-index l.values);
}
