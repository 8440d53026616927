use Rattle.std.proofs.Common.{rules}
use Rattle.mail_names.proofs.LowerKeys.{lower_is_key}
use Rattle.mail_names.proofs.key.Key.read.Goals as goal

pub invariant_of-result : goal.invariant_of-result
invariant_of-result c = lower_is_key c.args.text.now c.in_ok-lowered.field-0 c.in_ok-lowered.ensures (search rules)
