use Rattle.std.proofs.Common.{◌≡◌, [], drop, Some}
use Rattle.org_directory.specs.Lines.{keys_from, parts_from}
use Rattle.org_directory.proofs.line.read_keys.Given as goal

abbrev pub invariant-loop-b : goal.invariant-loop-b
invariant-loop-b l = keys_from (Some l.keys) (parts_from l.part.items (drop l.b-index l.text)) ≡ keys_from (Some []) (parts_from [] l.text)
