use Rattle.std.proofs.Common.{rules, ◌≡◌, ◌++◌, Ok}
use Rattle.worker_pool.proofs.Parts.{one_more}
use Rattle.worker_pool.proofs.planning.joined.Goals as goal

pub loop-part-preserved : goal.loop-part-preserved
loop-part-preserved g c =
    let h = one_more c.loop-part.yielded c.loop-part.whole.items c.in_ok-part.part c.loop-part.invariant in
    let part : c.in-Some.part ≡ Ok c.in_ok-part.part = search rules in
    let items : c.append.new.self.items ≡ c.loop-part.whole.items ++ c.in_ok-part.part.items = search rules in
    rw (part, items) h
