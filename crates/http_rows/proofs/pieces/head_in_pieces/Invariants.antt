use Rattle.std.proofs.Common.{ℕ, List, ◌++◌, ◌-◌, length, take}
use Rattle.http_head.specs.Progress.{IsProgress}
use Rattle.http_rows.proofs.pieces.head_in_pieces.Given as goal

abbrev pub invariant-loop-end : goal.invariant-loop-end
invariant-loop-end l = (more : List ℕ) → IsProgress l.progress (take l.end l.text ++ more)

abbrev pub decreases-loop-end : goal.decreases-loop-end
decreases-loop-end l = length l.text - l.end
