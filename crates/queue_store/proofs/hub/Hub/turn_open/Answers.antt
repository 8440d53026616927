use Rattle.std.proofs.Common.{rules, ◌≡◌, inl, false, [], ◌∷◌, length, cond, ap, arith}
use Rattle.std.specs.Prelude.{nat_lt}
use Rattle.std.proofs.lemmas.Result.{on_ok_weaker}
use Rattle.hub_core.specs.Setup.{setup_of}
use Rattle.hub_core.specs.Standing.{state_after, any_pends}
use Rattle.queue_store.specs.Calls.{moment_entry, entries_trying, entries_turn}
use Rattle.queue_store.proofs.Adding.{adds-none, err_both}
use Rattle.queue_store.proofs.Runs.{turns-settled, off_settling}
use Rattle.queue_store.proofs.Turning.{idle, tried-none}
use Rattle.queue_store.proofs.hub.Hub.turn_open.Goals as goal

pub returns-then-not-pends-clause-turns : goal.returns-then-not-pends-clause-turns
returns-then-not-pends-clause-turns g c limits h t ready =
    let setup = setup_of g.T.Planner.means limits in
    let s0 = g.P.Plant.state c.args.plant.now in
    let s2 = g.P.Plant.state c.settle_open.new.plant in
    let hub = c.args.self.now in
    let s = hub.state in
    let empty : nat_lt 0 (length s.waiting) ≡ false = search rules in
    let quiet : any_pends s ≡ false = search rules in
    let none = idle _ _ empty quiet in
    let es = entries_turn setup s c.args.clock [] in
    let all = moment_entry s c.args.clock ∷ entries_trying setup (state_after setup s (moment_entry s c.args.clock)) [] in
    let adds = adds-none setup s0 hub h t es (ap (λ b. cond b all []) none) ready in
    let later = c.settle_open.ensures.stays.shelf_faults in
    on_ok_weaker c.settle_open.result (λ done. ([], turns-settled setup s0 s0 s2 hub c.settle_open.new.self h t es adds done (c.settle_open.ensures.any_moment setup h _ adds.ready), record { each = tried-none setup s c.args.clock none; missed = omega (arith, later) }))
    (c.settle_open.ensures.settles setup h _ adds.ready)

pub returns-then-not-pends-clause-stops : goal.returns-then-not-pends-clause-stops
returns-then-not-pends-clause-stops g c limits h t ready =
    let setup = setup_of g.T.Planner.means limits in
    let s0 = g.P.Plant.state c.args.plant.now in
    let s2 = g.P.Plant.state c.settle_open.new.plant in
    let hub = c.args.self.now in
    let s = hub.state in
    let empty : nat_lt 0 (length s.waiting) ≡ false = search rules in
    let quiet : any_pends s ≡ false = search rules in
    let none = idle _ _ empty quiet in
    let es = entries_turn setup s c.args.clock [] in
    let all = moment_entry s c.args.clock ∷ entries_trying setup (state_after setup s (moment_entry s c.args.clock)) [] in
    let adds = adds-none setup s0 hub h t es (ap (λ b. cond b all []) none) ready in
    let later = c.settle_open.ensures.stays.shelf_faults in
    err_both _ _ _ c.settle_open.result (λ e broken disk. ([], inl (disk, off_settling setup s0 s0 s2 hub c.settle_open.new.self h t es adds broken (c.settle_open.ensures.any_moment setup h _ adds.ready)), omega (arith, later)))
    (c.settle_open.ensures.failed setup h _ adds.ready) c.settle_open.ensures.disk
