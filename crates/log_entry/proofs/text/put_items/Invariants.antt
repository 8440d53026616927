use Rattle.std.proofs.Common.{◌≡◌, ◌++◌, length, take}
use Rattle.std.specs.List.{flat_map, AllByRecursion}
use Rattle.mail_plan.specs.Fits.{IsItem}
use Rattle.log_entry.specs.EntryText.{le32, form_item}
use Rattle.log_entry.proofs.text.put_items.Given as goal

abbrev pub invariant-loop-value : goal.invariant-loop-value
invariant-loop-value l = record {
  text : l.into ≡ l.fn.into ++ (le32 (length l.values) ++ flat_map form_item (take l.value-index l.values));
  fits : AllByRecursion IsItem (take l.value-index l.values);
}
