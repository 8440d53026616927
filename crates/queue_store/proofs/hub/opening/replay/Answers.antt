use Rattle.std.proofs.Common.{rules, ◌≡◌, inr, [], ◌∷◌, ◌++◌, ◌+◌, length, drop, Option, Some, Ok, Err, sym, ◌∙◌, ap, subst}
use Rattle.plant_dev.specs.Disk.{Image}
use Rattle.plant_dev.proofs.Offered.{stays_honest, stays_more, reads_more}
use Rattle.log_entry.specs.declared.entry.Entry.{Entry}
use Rattle.log_entry.specs.EntryText.{entry_text}
use Rattle.queue_disk.specs.Reading.{IsHeld, IsRead, ReadsOn, NextAnswer}
use Rattle.hub_core.specs.declared.limits.Limits.{Limits}
use Rattle.hub_core.specs.Setup.{setup_of}
use Rattle.hub_core.specs.Standing.{Standing, state_after, is_lawful}
use Rattle.queue_store.proofs.Opening.{lawful_next, replayed_more, replayed_all, log_fault, memory_fault, walked_more, stopped, stopped_unlawful}
use Rattle.queue_disk.proofs.Offered.{ends_shut}
use Rattle.queue_store.proofs.Adding.{standing-limits}
use Rattle.queue_store.proofs.hub.opening.replay.Goals as goal

pub returns-in_err-entry-clause-never : goal.returns-in_err-entry-clause-never
returns-in_err-entry-clause-never g c h honest history read =
    let s0 = g.P.Plant.state c.args.plant.now in
    let s1 = g.P.Plant.state c.loop-state.plant in
    let inv = c.loop-state.invariant in
    let far = inv.read h honest read in
    let now = subst (λ (i : Image). IsRead i.file h far.done c.loop-state.log) (sym (inv.reads honest).image) far.read in
    log_fault s1.image.file h far.done c.next.new.self c.in_err-entry.field-0.0 _ c.from_residual-in_err-entry.ensures.1 (c.in_err-entry.ensures.reads_on h far.done (stays_honest s0 s1 inv.stays honest) now)

pub loop-state-preserved : goal.loop-state-preserved
loop-state-preserved g c =
    let s0 = g.P.Plant.state c.args.plant.now in
    let s1 = g.P.Plant.state c.loop-state.plant in
    let s2 = g.P.Plant.state c.next.new.plant in
    let inv = c.loop-state.invariant in
    record {
      stays = stays_more s0 s1 s2 inv.stays c.next.ensures.stays;
      most = (let kept : c.next.new.self.most ≡ c.loop-state.log.most = search rules in kept ∙ inv.most);
      pending = (let kept : c.next.new.self.pending ≡ c.loop-state.log.pending = search rules in kept ∙ inv.pending);
      reads = λ honest. reads_more s0 s1 s2 (inv.reads honest) (c.next.ensures.reads (stays_honest s0 s1 inv.stays honest));
      read = λ h honest read.
          let far = inv.read h honest read in
          let now = subst (λ (i : Image). IsRead i.file h far.done c.loop-state.log) (sym (inv.reads honest).image) far.read in
          let on = subst (λ (o : Option Entry). ReadsOn s1.image.file h far.done c.next.new.self (Ok o)) c.in-Some.is
          (c.in_ok-entry.ensures.reads_on h far.done (stays_honest s0 s1 inv.stays honest) now) in
          replayed_more (setup_of g.T.Planner.means c.args.limits) s0.image.file h c.loop-state.log c.next.new.self c.loop-state.state c.go_on.new.state c.in-Some.entry far
          (subst (λ (i : Image). IsRead i.file h (far.done ++ c.in-Some.entry ∷ []) c.next.new.self) (inv.reads honest).image on)
          (c.in_ok-go_on.ensures.goes
          ∙ ap (λ (l : Limits). state_after (setup_of g.T.Planner.means l) c.loop-state.state c.in-Some.entry) (ap (λ (s : Standing). s.limits) far.state ∙ standing-limits (setup_of g.T.Planner.means c.args.limits) far.done));
      walked = λ honest held begins.
          let w = inv.walked honest held begins in
          let log = c.loop-state.log in
          let next = c.next.new.self in
          let entry = c.in-Some.entry in
          let same = (inv.reads honest).image in
          let begun = stays_honest s0 s1 inv.stays honest in
          let now = subst (λ (i : Image). IsHeld i.file log) (sym same) w.held in
          let answer = subst (λ (o : Option Entry). NextAnswer (drop log.place s1.image.file) log.place (Ok o)) c.in-Some.is (c.in_ok-entry.ensures.answer begun now) in
          let there = subst (λ (i : Image). NextAnswer (drop log.place i.file) log.place (Ok (Some entry))) same answer in
          let kept = subst (λ (i : Image). IsHeld i.file next) same (c.next.ensures.held begun now) in
          let moved : next.place ≡ log.place + 9 + length (entry_text entry) = search rules in
          walked_more (setup_of g.T.Planner.means c.args.limits) s0.image.file log next c.loop-state.state c.go_on.new.state entry w there (c.in_ok-go_on.ensures.lawful_alone c.args.limits) moved kept
          (c.in_ok-go_on.ensures.goes
          ∙ ap (λ (l : Limits). state_after (setup_of g.T.Planner.means l) c.loop-state.state entry) (ap (λ (s : Standing). s.limits) w.state ∙ standing-limits (setup_of g.T.Planner.means c.args.limits) w.done));
    }

pub returns-in_err-go_on-clause-never : goal.returns-in_err-go_on-clause-never
returns-in_err-go_on-clause-never g c h honest history read =
    let s0 = g.P.Plant.state c.args.plant.now in
    let s1 = g.P.Plant.state c.loop-state.plant in
    let inv = c.loop-state.invariant in
    let far = inv.read h honest read in
    let now = subst (λ (i : Image). IsRead i.file h far.done c.loop-state.log) (sym (inv.reads honest).image) far.read in
    let on = subst (λ (o : Option Entry). ReadsOn s1.image.file h far.done c.next.new.self (Ok o)) c.in-Some.is
    (c.in_ok-entry.ensures.reads_on h far.done (stays_honest s0 s1 inv.stays honest) now) in
    let lawful = ap (λ (s : Standing). is_lawful (setup_of g.T.Planner.means c.args.limits) s c.in-Some.entry) far.state ∙ lawful_next (setup_of g.T.Planner.means c.args.limits) s1.image.file h far.done c.in-Some.entry _ history on in
    memory_fault _ _ c.from_residual-in_err-go_on.ensures.1 (c.in_err-go_on.ensures.lawful c.args.limits lawful)

pub returns-clause-state : goal.returns-clause-state
returns-clause-state g c h honest read =
    let s0 = g.P.Plant.state c.args.plant.now in
    let s1 = g.P.Plant.state c.loop-state.plant in
    let inv = c.loop-state.invariant in
    let far = inv.read h honest read in
    let now = subst (λ (i : Image). IsRead i.file h far.done c.loop-state.log) (sym (inv.reads honest).image) far.read in
    (replayed_all (setup_of g.T.Planner.means c.args.limits) _ h _ _ c.loop-state.state c.in_ok-entry.field-0 (record { done = far.done; read = now; state = far.state }) c.in_default.is (c.in_ok-entry.ensures.reads_on h far.done (stays_honest s0 s1 inv.stays honest) now)).0

pub returns-clause-end : goal.returns-clause-end
returns-clause-end g c h honest read =
    let s0 = g.P.Plant.state c.args.plant.now in
    let s1 = g.P.Plant.state c.loop-state.plant in
    let inv = c.loop-state.invariant in
    let far = inv.read h honest read in
    let now = subst (λ (i : Image). IsRead i.file h far.done c.loop-state.log) (sym (inv.reads honest).image) far.read in
    (replayed_all (setup_of g.T.Planner.means c.args.limits) _ h _ _ c.loop-state.state c.in_ok-entry.field-0 (record { done = far.done; read = now; state = far.state }) c.in_default.is (c.in_ok-entry.ensures.reads_on h far.done (stays_honest s0 s1 inv.stays honest) now)).1

pub returns-in_err-entry-clause-bad : goal.returns-in_err-entry-clause-bad
returns-in_err-entry-clause-bad g c honest held begins =
    let s0 = g.P.Plant.state c.args.plant.now in
    let s1 = g.P.Plant.state c.loop-state.plant in
    let inv = c.loop-state.invariant in
    let w = inv.walked honest held begins in
    let log = c.loop-state.log in
    let same = (inv.reads honest).image in
    let now = subst (λ (i : Image). IsHeld i.file log) (sym same) w.held in
    let e = c.in_err-entry.field-0.0 in
    stopped (setup_of g.T.Planner.means c.args.limits) s0.image.file log c.loop-state.state e _ c.from_residual-in_err-entry.ensures.1 w
    (subst (λ (i : Image). NextAnswer (drop log.place i.file) log.place (Err e)) same (c.in_err-entry.ensures.answer (stays_honest s0 s1 inv.stays honest) now))

pub returns-in_err-go_on-clause-bad : goal.returns-in_err-go_on-clause-bad
returns-in_err-go_on-clause-bad g c honest held begins =
    let s0 = g.P.Plant.state c.args.plant.now in
    let s1 = g.P.Plant.state c.loop-state.plant in
    let inv = c.loop-state.invariant in
    let w = inv.walked honest held begins in
    let log = c.loop-state.log in
    let entry = c.in-Some.entry in
    let same = (inv.reads honest).image in
    let now = subst (λ (i : Image). IsHeld i.file log) (sym same) w.held in
    let answer = subst (λ (o : Option Entry). NextAnswer (drop log.place s1.image.file) log.place (Ok o)) c.in-Some.is (c.in_ok-entry.ensures.answer (stays_honest s0 s1 inv.stays honest) now) in
    let there = subst (λ (i : Image). NextAnswer (drop log.place i.file) log.place (Ok (Some entry))) same answer in
    let here : c.gate.result ≡ log.place = search rules in
    stopped_unlawful (setup_of g.T.Planner.means c.args.limits) s0.image.file log c.loop-state.state entry c.gate.result c.in_err-go_on.field-0.0 _ c.from_residual-in_err-go_on.ensures.1 w there here
    (c.in_err-go_on.ensures.lawful c.args.limits) c.in_err-go_on.ensures.only

pub returns-clause-whole : goal.returns-clause-whole
returns-clause-whole g c honest held begins =
    let s0 = g.P.Plant.state c.args.plant.now in
    let s1 = g.P.Plant.state c.loop-state.plant in
    let inv = c.loop-state.invariant in
    let w = inv.walked honest held begins in
    let log = c.loop-state.log in
    let same = (inv.reads honest).image in
    let now = subst (λ (i : Image). IsHeld i.file log) (sym same) w.held in
    let answer = subst (λ (i : Image). NextAnswer (drop log.place i.file) log.place (Ok c.in_ok-entry.field-0)) same (c.in_ok-entry.ensures.answer (stays_honest s0 s1 inv.stays honest) now) in
    record { found = w.done; lawful = w.lawful; stands = inr (ends_shut s0.image.file w.done log.place c.in_ok-entry.field-0 w.begins c.in_default.is answer); state = w.state }
