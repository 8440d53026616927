use Rattle.std.proofs.Common.{◌≡◌, ◌≤◌, ◌++◌, vec_len, ◌+◌}
use Rattle.std.specs.List.{flat_map}
use Rattle.worker_pool.specs.Planned.{items_in}
use Rattle.worker_pool.proofs.planning.shares_of.Given as goal

abbrev pub invariant-loop-left : goal.invariant-loop-left
invariant-loop-left g l = record {
  whole : flat_map items_in l.shares.items ++ l.rest.items ≡ l.fn.whole.items;
  count : vec_len l.shares + l.left ≤ l.fn.count;
  some : 1 ≤ l.left;
}

abbrev pub decreases-loop-left : goal.decreases-loop-left
decreases-loop-left g l = l.left
