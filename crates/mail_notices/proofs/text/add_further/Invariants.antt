use Rattle.std.proofs.Common.{◌≡◌, ◌++◌, take}
use Rattle.std.specs.List.{flat_map}
use Rattle.mail_notices.specs.Text.{further}
use Rattle.mail_notices.proofs.text.add_further.Given as goal

abbrev pub invariant-loop-key : goal.invariant-loop-key
invariant-loop-key l = l.text ≡ l.fn.text ++ flat_map further (take l.key-index l.keys)
