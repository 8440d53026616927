use Rattle.std.proofs.Common.{◌≡◌, take}
use Rattle.std.specs.List.{flat_map}
use Rattle.mail_message.specs.Lines.{ended}
use Rattle.mail_notices.proofs.text.ended_lines.Given as goal

abbrev pub invariant-loop-line : goal.invariant-loop-line
invariant-loop-line l = l.text ≡ flat_map (λ line. ended line.now) (take l.line-index l.lines)
