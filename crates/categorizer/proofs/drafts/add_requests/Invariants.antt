use Rattle.std.proofs.Common.{◌≡◌, drop}
use Rattle.categorizer.specs.Releasing.{with_requests}
use Rattle.categorizer.proofs.drafts.add_requests.Given as goal

abbrev pub invariant-loop-i : goal.invariant-loop-i
invariant-loop-i l = with_requests l.letter l.drafts l.i (drop l.i l.holds) ≡ with_requests l.letter l.fn.drafts 0 l.holds
