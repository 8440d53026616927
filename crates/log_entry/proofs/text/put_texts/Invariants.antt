use Rattle.std.proofs.Common.{◌≡◌, ◌++◌, length, take}
use Rattle.std.specs.List.{flat_map, AllByRecursion}
use Rattle.mail_submission.specs.Fits.{IsBytes}
use Rattle.log_entry.specs.EntryText.{le32, form_bytes}
use Rattle.log_entry.proofs.text.put_texts.Given as goal

abbrev pub invariant-loop-value : goal.invariant-loop-value
invariant-loop-value l = record {
  text : l.into ≡ l.fn.into ++ (le32 (length l.values) ++ flat_map form_bytes (take l.value-index l.values));
  fits : AllByRecursion IsBytes (take l.value-index l.values);
}
