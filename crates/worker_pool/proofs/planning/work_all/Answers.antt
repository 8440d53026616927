use Rattle.std.proofs.Common.{◌≡◌, ◌∙◌, length, map, ap, rules}
use Rattle.worker_pool.specs.Planned.{planned}
use Rattle.worker_pool.proofs.Parts.{whole_of, if_ok}
use Rattle.worker_pool.proofs.planning.work_all.Goals as goal

pub returns : goal.returns
returns g c =
    let f = planned {T = g.row.T.Denot} g.T.Planner.means in
    let shares = c.in_ok-shares.shares in
    let parts = c.in_ok-parts.parts in
    let same : length parts.items ≡ length shares.items = search rules in
    if_ok _ _ c.joined.result (λ whole h.
    whole_of f shares.items parts.items whole.items same (λ i share part within.
    let job = (c.in_ok-parts.ensures.each i part within).1 in let met = job.call.met in (job.job, job.job_is share, search rules)) h
    ∙ ap (map f) c.in_ok-shares.ensures.whole) c.joined.ensures
