use Rattle.std.proofs.Common.{◌≡◌, ◌++◌, drop}
use Rattle.rule_engine.specs.Sets.{merged}
use Rattle.rule_engine.proofs.sets.merged.Given as goal

abbrev pub invariant-loop-mark : goal.invariant-loop-mark
invariant-loop-mark l = l.all ++ merged (drop l.mark-index l.marks) l.firsts.items l.seconds.items ≡ merged l.marks l.fn.firsts l.fn.seconds
