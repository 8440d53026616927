use Rattle.std.proofs.Common.{◌+◌, ◌-◌, length}
use Rattle.org_directory.proofs.Seeking.{Seeking, unmarked}
use Rattle.org_directory.proofs.membership.is_led_to.Given as goal

abbrev pub invariant-loop-done : goal.invariant-loop-done
invariant-loop-done l = Seeking l.directory l.group l.key l.marks l.queue.items l.done

abbrev pub decreases-loop-done : goal.decreases-loop-done
decreases-loop-done l = unmarked l.marks + length l.queue.items - l.done
