use Rattle.std.proofs.Common.{◌≡◌, ◌+◌, ◌-◌, ◌<◌, List, ℕ, length, take, drop, length-drop, sym, ap, subst, ◌∙◌, arith}
use Rattle.std.proofs.lemmas.List.{take_all}
use Rattle.queue_disk.specs.View.{LogView}
use Rattle.queue_disk.specs.Log.{Frames, gate_left_out, IsOpen}
use Rattle.queue_disk.proofs.Pending.{add_moments, add_open}
use Rattle.queue_disk.proofs.log.Log.add.Goals as goal

pub returns-in_err-write_at-clause-any_moment : goal.returns-in_err-write_at-clause-any_moment
returns-in_err-write_at-clause-any_moment g c h t honest was =
    let s0 = g.P.Plant.state c.args.plant.now in
    let s1 = g.P.Plant.state c.write_at.new.self in
    let log : LogView = record { place = c.self.inside.place; pending = c.self.inside.pending; gate = c.self.inside.gate; most = c.self.inside.most; held = c.self.inside.ahead } in
    let here : IsOpen s0 log h t = subst (λ (v : LogView). IsOpen s0 v h t) (sym c.self.view_is) was in
    add_moments s0 s1 log h t _ _ here (ap (λ (n : ℕ). c.self.inside.place + n) c.gate_left_out-skip.ensures) (c.write_at.ensures.writes honest)

pub returns-clause-any_moment : goal.returns-clause-any_moment
returns-clause-any_moment g c h t honest was =
    let s0 = g.P.Plant.state c.args.plant.now in
    let s1 = g.P.Plant.state c.write_at.new.self in
    let log : LogView = record { place = c.self.inside.place; pending = c.self.inside.pending; gate = c.self.inside.gate; most = c.self.inside.most; held = c.self.inside.ahead } in
    let here : IsOpen s0 log h t = subst (λ (v : LogView). IsOpen s0 v h t) (sym c.self.view_is) was in
    add_moments s0 s1 log h t _ _ here (ap (λ (n : ℕ). c.self.inside.place + n) c.gate_left_out-skip.ensures) (c.write_at.ensures.writes honest)

pub returns-clause-added : goal.returns-clause-added
returns-clause-added g c h t entry frames honest was =
    let s0 = g.P.Plant.state c.args.plant.now in
    let s1 = g.P.Plant.state c.write_at.new.self in
    let log : LogView = record { place = c.self.inside.place; pending = c.self.inside.pending; gate = c.self.inside.gate; most = c.self.inside.most; held = c.self.inside.ahead } in
    let here : IsOpen s0 log h t = subst (λ (v : LogView). IsOpen s0 v h t) (sym c.self.view_is) was in
    let whole = c.as_slice-record.result.now in
    let same = c.as_slice-record.ensures ∙ c.framed.view_is in
    let framed : Frames whole entry = record { entry = frames.entry; text = same ∙ frames.text } in
    let some : 0 < length whole = subst (λ (l : List ℕ). 0 < length l) (sym same) c.requires.some in
    let skip = c.gate_left_out-skip.result in
    let bytes : take (length whole - skip) (drop skip whole) ≡ drop (gate_left_out c.self.inside.pending) whole =
    take_all (length whole - skip) (drop skip whole) (omega (arith, length-drop skip whole)) ∙ ap (λ (n : ℕ). drop n whole) c.gate_left_out-skip.ensures in
    add_open s0 s1 log _ h t entry whole _ _ here framed (ap (λ (n : ℕ). c.self.inside.place + n) c.gate_left_out-skip.ensures) bytes
    (c.write_at.ensures.writes honest) (c.in_ok-write_at.ensures.written honest) (omega (arith, some)) (omega (arith, some))
