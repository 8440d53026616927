use Rattle.std.proofs.Common.{ℕ, ◌≤◌, ◌-◌, List, ◌++◌, length, take}
use Rattle.std.specs.Io.KnownBytes.{Consumes}
use Rattle.http_head.specs.Progress.{IsProgress}
use Rattle.admin_http.proofs.head.take_head.Given as goal

-- What has come stands at the front of the buffer, and the head was looked at in it, whatever follows.
abbrev pub invariant-loop-head : goal.invariant-loop-head
invariant-loop-head g l = record {
  took : Consumes (g.S.Source.left l.fn.source) (g.S.Source.left l.source) (take l.count l.buffer);
  within : l.count ≤ length l.buffer;
  later : g.S.Source.faults l.fn.source ≤ g.S.Source.faults l.source;
  looked : (more : List ℕ) → IsProgress l.progress (take l.count l.buffer ++ more);
}

abbrev pub decreases-loop-head : goal.decreases-loop-head
decreases-loop-head g l = 20480 - l.count
