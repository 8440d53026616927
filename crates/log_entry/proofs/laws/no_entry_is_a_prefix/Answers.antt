use Rattle.std.proofs.Common.{sym, ◌∙◌, []}
use Rattle.std.proofs.lemmas.List.{append-nil}
use Rattle.log_entry.specs.EntryText.{entry_text}
use Rattle.log_entry.proofs.Forms.{one_entry}
use Rattle.log_entry.proofs.laws.no_entry_is_a_prefix.Goals as goal

pub returns : goal.returns
returns c = λ a b rest here there same. (one_entry a b rest [] here there (same ∙ sym (append-nil (entry_text b)))).1
