use Rattle.std.proofs.Common.{◌⊎◌, ◌∙◌, [], ◌∷◌, inl, inr, refl, ap, arith, Err, sym, subst}
use Rattle.port_io.proofs.Offered.{Appends-nothing, Consumes-nothing}
use Rattle.plant_dev.specs.Disk.{Image, LeavesOnly}
use Rattle.plant_dev.proofs.Offered.{started, joins, weakens}
use Rattle.hub_core.specs.declared.limits.Limits.{Limits}
use Rattle.hub_core.specs.Setup.{setup_of}
use Rattle.categorizer.specs.Meaning.{hub_means}
use Rattle.queue_store.specs.Opening.{IsLogOf, OpenFault}
use Rattle.queue_store.specs.Stands.{Stands, MayStand, Settled}
use Rattle.queue_store.specs.Ready.{IsReady}
use Rattle.queue_store.proofs.Offered.{may_now}
use Rattle.mail_transport.specs.HubSetup.{hub_setup}
use Rattle.mail_transport.specs.Points.{Trace, RunsAt, sure, IsLeftAt, IsLeftWithin, IsLeftBetween}
use Rattle.mail_transport.proofs.Never.{ran_never, told_as, memory≢log, disk≢log}
use Rattle.mail_transport.proofs.Running.{ends_within, status_told, left_calm, calm_from, rose_by_from}
use Rattle.mail_transport.proofs.session.run_session.Goals as goal

pub returns-in-Err-clause-ran : goal.returns-in-Err-clause-ran
returns-in-Err-clause-ran g c start honest settled =
    let s0 = g.P.Plant.state c.args.plant.now in
    let s1 = g.P.Plant.state c.open_hub.new.plant in
    let by = subst (λ (l : Limits). Settled (setup_of hub_means l) s0 start.settled start.doubtful) (sym c.usual.ensures) settled in
    let fails = c.in-Err.ensures.settled start.settled start.doubtful honest by in
    let value = c.fault_status.ensures.value in
    inl (record {
      why = elim fails.0 [
        | inl disk ↦ inl (c.fault_status.ensures.disk_fault disk, c.in-Err.ensures.cause (ap Err disk))
        | inr memory ↦ inr (c.fault_status.ensures.memory memory)
      ];
      settled = subst (λ (l : Limits). Settled (setup_of hub_means l) s1 start.settled start.doubtful) c.usual.ensures fails.1;
      moments = subst (λ (l : Limits). LeavesOnly s0 s1 (MayStand (setup_of hub_means l) start.settled start.doubtful)) c.usual.ensures (c.open_hub.ensures.any_moment start.settled start.doubtful honest by);
      clock = λ k. refl;
      sink = Appends-nothing (g.K.Sink.taken c.args.sink.now);
      source = Consumes-nothing (g.S.Source.left c.args.source.now);
    })

pub returns-in-Ok-clause-ran : goal.returns-in-Ok-clause-ran
returns-in-Ok-clause-ran g c start honest settled =
    let s0 = g.P.Plant.state c.args.plant.now in
    let s1 = g.P.Plant.state c.open_hub.new.plant in
    let s2 = g.P.Plant.state c.converse-end.new.plant in
    let s3 = g.P.Plant.state c.follow.new.plant in
    let by = subst (λ (l : Limits). Settled (setup_of hub_means l) s0 start.settled start.doubtful) (sym c.usual.ensures) settled in
    let opened = c.in-Ok.ensures.ready start.settled start.doubtful honest by in
    let found = opened.0 in
    let ready = subst (λ (l : Limits). IsReady (setup_of hub_means l) s1 c.in-Ok.hub found []) c.usual.ensures opened.3 in
    let hub = c.in-Ok.hub in
    let begun : Trace = record { now = sure found; before = start ∷ []; faults = 0 } in
    let rise = c.open_hub.ensures.stays.disk_faults in
    let opening = subst (λ (l : Limits). LeavesOnly s0 s1 (MayStand (setup_of hub_means l) start.settled start.doubtful)) c.usual.ensures (c.open_hub.ensures.any_moment start.settled start.doubtful honest by) in
    let at : RunsAt s1 s1 c.in-Ok.hub begun = record {
      at = record { stands = inl ready; whole = λ whole. refl };
      calm = inl refl;
      later = omega arith;
      told = omega arith;
      moments = started s1 (IsLeftWithin begun) (λ image left. inl (may_now hub_setup s1 hub found [] (inl ready) image left));
    } in
    let talk = c.converse-end.ensures.spoke begun at in
    let trace = talk.0 in
    let here = talk.2.runs in
    let rest = c.follow.ensures.ends trace.now here.at in
    let last = rest.0 in
    let leaves = rest.2 in
    let shelf = c.open_hub.ensures.stays.shelf_faults in
    let shelf' = c.converse-end.ensures.stays.shelf_faults in
    let later = c.follow.ensures.stays.disk_faults in
    let talked = c.converse-end.ensures.stays.disk_faults in
    let within = λ (c : Image). IsLeftWithin trace c ⊎ IsLeftBetween trace.now last c in
    inr (record {
      found = found;
      is_found = opened.1;
      reads = subst (λ (l : Limits). Stands (setup_of hub_means l) s0.image found) c.usual.ensures opened.2;
      end = c.converse-end.result;
      trace = trace;
      then = g.C.Clock.moments c.converse-end.new.clock;
      spoke = talk.1;
      last = last;
      rest = ends_within c.converse-end.result trace.now last _ _ _ _ _ c.follow.result (omega (arith, shelf, shelf')) rest.1;
      settled = leaves.settled;
      calm = left_calm trace.now last c.follow.result s0.disk_faults s2.disk_faults s3.disk_faults (omega (arith, rise, talked)) later (calm_from trace.now.doubtful s0.disk_faults s1.disk_faults s2.disk_faults rise here.calm) leaves.calm c.follow.ensures.disk;
      moments = joins s0 s2 s3 within (weakens s0 s2 (IsLeftWithin trace) within (λ c left. inl left)
          (joins s0 s1 s2 (IsLeftWithin trace) (weakens s0 s1 (IsLeftAt start) (IsLeftWithin trace) (λ image may. talk.2.longer image (inr (inl may))) opening) here.moments))
          (weakens s2 s3 (λ c. IsLeftAt trace.now c ⊎ IsLeftBetween trace.now last c) within (λ c left. elim left [ inl at ↦ inl (inl at) | inr between ↦ inr between ]) leaves.moments);
      told = status_told c.follow.result trace.faults s0.disk_faults s2.disk_faults s3.disk_faults (rose_by_from trace.faults s0.disk_faults s1.disk_faults s2.disk_faults rise here.told) later c.follow.ensures.disk;
    })

pub returns-in-Err-clause-log : goal.returns-in-Err-clause-log
returns-in-Err-clause-log g c start honest settled is =
    let s0 = g.P.Plant.state c.args.plant.now in
    let by = subst (λ (l : Limits). Settled (setup_of hub_means l) s0 start.settled start.doubtful) (sym c.usual.ensures) settled in
    elim (c.in-Err.ensures.settled start.settled start.doubtful honest by).0 [
      | inl disk ↦ disk≢log (sym (c.fault_status.ensures.disk_fault disk) ∙ is)
      | inr memory ↦ memory≢log (sym (c.fault_status.ensures.memory memory) ∙ is)
    ]

pub returns-in-Ok-clause-log : goal.returns-in-Ok-clause-log
returns-in-Ok-clause-log g c start honest settled is =
    elim (returns-in-Ok-clause-ran g c start honest settled) [
      | inl none ↦ elim none.why [ inl disk ↦ disk≢log (sym disk.0 ∙ is) | inr memory ↦ memory≢log (sym memory ∙ is) ]
      | inr ran ↦ ran_never start _ _ _ _ _ _ _ _ _ is ran
    ]

pub returns-in-Err-clause-file : goal.returns-in-Err-clause-file
returns-in-Err-clause-file g c honest =
    let file = (g.P.Plant.state c.args.plant.now).image.file in
    inr (record {
      why = told_as file c.in-Err.fault c.fault_status.result c.fault_status.ensures.value (subst (λ (l : Limits). OpenFault (setup_of hub_means l) file c.in-Err.fault) c.usual.ensures (c.in-Err.ensures.bad honest));
      clock = λ k. refl;
      sink = Appends-nothing (g.K.Sink.taken c.args.sink.now);
      source = Consumes-nothing (g.S.Source.left c.args.source.now);
    })

pub returns-in-Ok-clause-file : goal.returns-in-Ok-clause-file
returns-in-Ok-clause-file g c honest =
    let file = (g.P.Plant.state c.args.plant.now).image.file in
    inl (c.in-Ok.hub.state, subst (λ (l : Limits). IsLogOf (setup_of hub_means l) file c.in-Ok.hub.state) c.usual.ensures (c.in-Ok.ensures.found honest))
