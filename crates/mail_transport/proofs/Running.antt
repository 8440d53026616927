-- What follows a session, told of the point that it leaves.
use Rattle.std.proofs.Common.{◌≡◌, ◌⊎◌, inl, inr, ℕ, ◌+◌, ◌≤◌, Bool, List, [], ◌∷◌, ◌++◌, Option, refl, ap, ◌∙◌, sym, subst, arith, append_assoc, append-nil}
use Rattle.port_io.specs.Causes.{Rose, RoseBy}
use Rattle.port_io.specs.Told.{Gave}
use Rattle.log_entry.specs.declared.entry.Entry.{Entry}
use Rattle.plant_dev.specs.Disk.{State, Image}
use Rattle.plant_dev.proofs.Offered.{started, weakens}
use Rattle.hub_core.specs.Standing.{Standing, standing}
use Rattle.queue_store.specs.declared.fault.HubFault.{HubFault}
use Rattle.queue_store.specs.declared.fault.HubFault.TheVariants as faults
use Rattle.queue_store.specs.Stands.{Stands}
use Rattle.queue_store.specs.Room.{Fits}
use Rattle.queue_store.specs.Calls.{misses, EachTried}
use Rattle.queue_store.specs.Ready.{Kept, IsReady, Before, Leaves as LogLeaves, MidBreak}
use Rattle.queue_store.specs.Turning.{MidRun, Done, NotOpened as HubNotOpened, Broke, Short, FailsOpened, FailsPartly}
use Rattle.queue_store.proofs.Offered.{before_may, behind_reached, settled_behind, may_now, tried_within}
use Rattle.smtp_front.specs.declared.session_end.SessionEnd.{SessionEnd}
use Rattle.smtp_front.specs.declared.session_end.SessionEnd.TheVariants as ends
use Rattle.mail_transport.specs.declared.status.Status.{Status}
use Rattle.mail_transport.specs.declared.status.Status.TheVariants as statuses
use Rattle.mail_transport.specs.HubSetup.{hub_setup}
use Rattle.mail_transport.specs.Points.{Point, StandsAt, sure, IsFound, IsLeftAt, IsLeftBetween}
use Rattle.mail_transport.specs.Run.{count_finish, entries_finish, CutShort, BrokeOff, Starved, Overfull, Finishes, Ends, Leaves, fault_status, fault_told, status_of}
use Rattle.mail_transport.proofs.Stepping.{opened_at, all_kept}

short_within : (p p' : Point) (then now : ℕ → Option ℕ) (f0 f1 f2 : ℕ) (Why : List Entry → List Entry → Type 0) → f0 ≤ f1 → CutShort p p' then now f1 f2 Why → CutShort p p' then now f0 f2 Why
short_within p p' then now f0 f1 f2 Why first t =
    let missed = t.missed in
    record { found = t.found; is_found = t.is_found; turn = t.turn; puts = t.puts; added = t.added; left = t.left; clock = t.clock; whole = t.whole; fits = t.fits; why = t.why; missed = omega (arith, first, missed); end = t.end }

broke_within : (p p' : Point) (then now : ℕ → Option ℕ) (f0 f1 f2 : ℕ) → f0 ≤ f1 → BrokeOff p p' then now f1 f2 → BrokeOff p p' then now f0 f2
broke_within p p' then now f0 f1 f2 first t =
    let missed = t.missed in
    record { found = t.found; is_found = t.is_found; turn = t.turn; puts = t.puts; added = t.added; lost = t.lost; clock = t.clock; settled = t.settled; whole = t.whole; missed = omega (arith, first, missed) }

finishes_within : (p p' : Point) (then now : ℕ → Option ℕ) (f0 f1 f2 : ℕ) (status : Status) → f0 ≤ f1 → Finishes p p' then now f1 f2 status → Finishes p p' then now f0 f2 status
finishes_within p p' then now f0 f1 f2 statuses.Done first t =
    record { found = t.found; is_found = t.is_found; turn = t.turn; puts = t.puts; clock = t.clock; fits = t.fits; tried = tried_within _ t.puts f0 f1 f2 first t.tried; end = t.end }
finishes_within p p' then now f0 f1 f2 statuses.NoMemory first (inl none) = inl none
finishes_within p p' then now f0 f1 f2 statuses.NoMemory first (inr t) = inr (short_within p p' then now f0 f1 f2 Starved first t)
finishes_within p p' then now f0 f1 f2 statuses.LogFull first t = short_within p p' then now f0 f1 f2 Overfull first t
finishes_within p p' then now f0 f1 f2 statuses.DiskFault first (inl none) = inl none
finishes_within p p' then now f0 f1 f2 statuses.DiskFault first (inr t) = inr (broke_within p p' then now f0 f1 f2 first t)
finishes_within p p' then now f0 f1 f2 statuses.NotALog first t = t
finishes_within p p' then now f0 f1 f2 statuses.Usage first t = t
finishes_within p p' then now f0 f1 f2 statuses.SourceFault first t = t
finishes_within p p' then now f0 f1 f2 statuses.SinkFault first t = t
finishes_within p p' then now f0 f1 f2 statuses.Cut first t = t
finishes_within p p' then now f0 f1 f2 statuses.TooLong first t = t
finishes_within p p' then now f0 f1 f2 statuses.BadOrganisation first t = t

-- what follows, counted from an earlier time
pub ends_within : (end : SessionEnd) (p p' : Point) (then now : ℕ → Option ℕ) (f0 f1 f2 : ℕ) (status : Status) → f0 ≤ f1 → Ends end p p' then now f1 f2 status → Ends end p p' then now f0 f2 status
ends_within ends.Quit p p' then now f0 f1 f2 status first t = finishes_within p p' then now f0 f1 f2 status first t
ends_within ends.EndOfInput p p' then now f0 f1 f2 status first t = finishes_within p p' then now f0 f1 f2 status first t
ends_within ends.Cut p p' then now f0 f1 f2 status first t = t
ends_within ends.SourceFault p p' then now f0 f1 f2 status first t = t
ends_within ends.SinkFault p p' then now f0 f1 f2 status first t = t
ends_within ends.NoMemory p p' then now f0 f1 f2 status first t = t
ends_within ends.LogFull p p' then now f0 f1 f2 status first t = t
ends_within (ends.NotALog at) p p' then now f0 f1 f2 status first t = t
ends_within ends.DeskFull p p' then now f0 f1 f2 status first t = t
ends_within ends.TooLong p p' then now f0 f1 f2 status first t = t

-- A disk fault that a status tells was counted.
pub status_told : (status : Status) (f a b c : ℕ) → RoseBy f a b → b ≤ c → (status ≡ statuses.DiskFault → Rose b c) → RoseBy (f + fault_told status) a c
status_told statuses.DiskFault f a b c told later cause = (let rose = cause refl in omega (arith, told, rose))
status_told statuses.Done f a b c told later cause = omega (arith, told, later)
status_told statuses.NoMemory f a b c told later cause = omega (arith, told, later)
status_told statuses.LogFull f a b c told later cause = omega (arith, told, later)
status_told statuses.NotALog f a b c told later cause = omega (arith, told, later)
status_told statuses.Usage f a b c told later cause = omega (arith, told, later)
status_told statuses.SourceFault f a b c told later cause = omega (arith, told, later)
status_told statuses.SinkFault f a b c told later cause = omega (arith, told, later)
status_told statuses.Cut f a b c told later cause = omega (arith, told, later)
status_told statuses.TooLong f a b c told later cause = omega (arith, told, later)
status_told statuses.BadOrganisation f a b c told later cause = omega (arith, told, later)

-- what was found goes on from what is settled
found_front : (p : Point) (kept : List Entry) → IsFound p kept → (rest : List Entry) × (kept ≡ p.settled ++ rest)
found_front p kept (inl same) = ([], same ∙ sym (append-nil p.settled))
found_front p kept (inr same) = (p.doubtful, same)

between : (p p' : Point) (kept rest behind reached : List Entry) (c : Image) → IsFound p kept → reached ≡ kept ++ rest → p'.settled ++ p'.doubtful ≡ reached ++ behind → Stands hub_setup c reached → IsLeftBetween p p' c
between p p' kept rest behind reached c found goes front stands =
    let first = found_front p kept found in
    record { reached = reached; added = first.0 ++ rest; behind = behind; begins = goes ∙ ap (λ (l : List Entry). l ++ rest) first.1 ∙ append_assoc p.settled first.0 rest; front = front; stands = stands }

module _ (s s' : State) (hub hub' : Kept) (p : Point) (at : StandsAt s hub p) (then now : ℕ → Option ℕ) (mid : Standing) (turn : ℕ) (puts : List Bool) (missed : RoseBy (misses puts) s.shelf_faults s'.shelf_faults) where
  abbrev es : Standing → List Entry
  es st = entries_finish st turn puts

  abbrev Within : Point → Image → Type 0
  Within p' c = IsLeftAt p c ⊎ IsLeftBetween p p' c

  -- an image of a moment of a run through all of these entries
  run_left : (kept pending added : List Entry) (c : Image) → IsFound p kept → pending ≡ [] → MidRun hub_setup hub.broken p.settled p.doubtful kept pending added c → Within (sure (kept ++ added)) c
  run_left kept pending added c found none (inl before) = inl (before_may hub_setup hub.broken p.settled p.doubtful c before)
  run_left kept pending added c found none (inr m) =
      let all = all_kept kept pending none in
      let goes = settled_behind kept pending added m.reached m.within in
      let front = behind_reached kept pending added m.reached m.within in
      inr (between p (sure (kept ++ added)) kept goes.0 front.0 m.reached c found goes.1 (append-nil (kept ++ added) ∙ ap (λ (l : List Entry). l ++ added) (sym all) ∙ front.1) m.stands)

  pub turned : EachTried (count_finish mid turn) puts s.shelf_faults s'.shelf_faults → Gave then now (turn ∷ []) → Done hub_setup hub.broken s s' hub' p.settled p.doubtful mid (es mid) →
      (p' : Point) × Finishes p p' then now s.shelf_faults s'.shelf_faults statuses.Done × Leaves p p' s s' statuses.Done
  turned tried clock d =
      let opened = opened_at hub.broken p.settled p.doubtful d.kept d.pending d.opened at.whole in
      let all = all_kept d.kept d.pending opened.1 in
      let state : mid ≡ standing hub_setup d.kept = d.state ∙ ap (standing hub_setup) all in
      let p' = sure (d.kept ++ es mid) in (
        p',
        record {
          found = d.kept;
          is_found = opened.0;
          turn = turn;
          puts = puts;
          clock = clock;
          fits = subst (λ (st : Standing). Fits hub_setup.limits.log d.kept (es st)) state (subst (λ (g : List Entry). Fits hub_setup.limits.log g (es mid)) all d.fits);
          tried = subst (λ (st : Standing). EachTried (count_finish st turn) puts s.shelf_faults s'.shelf_faults) state tried;
          end = ap (λ (st : Standing). sure (d.kept ++ es st)) state;
        },
        record {
          settled = may_now hub_setup s' hub' (d.kept ++ es mid) [] (inl (subst (λ (g : List Entry). IsReady hub_setup s' hub' (g ++ es mid) []) all d.ready));
          calm = inl refl;
          moments = weakens s s' (MidRun hub_setup hub.broken p.settled p.doubtful d.kept d.pending (es mid)) (Within p') (λ c m. run_left d.kept d.pending (es mid) c opened.0 opened.1 m) d.moments;
        },
      )

  break_left : (kept pending settled left : List Entry) (c : Image) → IsFound p kept → Before hub_setup hub.broken p.settled p.doubtful c ⊎ MidBreak hub_setup kept pending (es mid) (settled ++ left) c →
      Within (record { settled = settled; doubtful = left }) c
  break_left kept pending settled left c found (inl before) = inl (before_may hub_setup hub.broken p.settled p.doubtful c before)
  break_left kept pending settled left c found (inr m) =
      let goes = settled_behind kept pending (es mid) m.reached m.within in
      inr (between p (record { settled = settled; doubtful = left }) kept goes.0 m.behind m.reached c found goes.1 m.front m.stands)

  broke : Gave then now [] ⊎ Gave then now (turn ∷ []) → Broke hub_setup hub.broken s s' hub' p.settled p.doubtful mid (es mid) →
      (p' : Point) × Finishes p p' then now s.shelf_faults s'.shelf_faults statuses.DiskFault × Leaves p p' s s' statuses.DiskFault
  broke clock d =
      let opened = opened_at hub.broken p.settled p.doubtful d.kept d.pending d.opened at.whole in
      let all = all_kept d.kept d.pending opened.1 in
      let state : mid ≡ standing hub_setup d.kept = d.state ∙ ap (standing hub_setup) all in
      let goes = settled_behind d.kept d.pending (es mid) d.settled d.within in
      let p' : Point = record { settled = d.settled; doubtful = d.left } in (
        p',
        inr (record {
          found = d.kept;
          is_found = opened.0;
          turn = turn;
          puts = puts;
          added = goes.0;
          lost = d.lost;
          clock = clock;
          settled = goes.1;
          whole = (λ i. sym all i ++ es (sym state i)) ∙ d.whole;
          missed = missed;
        }),
        record {
          settled = d.still.settled;
          calm = inr (inr refl);
          moments = weakens s s' (λ c. Before hub_setup hub.broken p.settled p.doubtful c ⊎ MidBreak hub_setup d.kept d.pending (es mid) (d.settled ++ d.left) c) (Within p') (λ c m. break_left d.kept d.pending d.settled d.left c opened.0 m) d.moments;
        },
      )

  -- room or memory ran out
  short : (fault : HubFault) (status : Status) (Why : List Entry → List Entry → Type 0) (d : Short hub_setup hub.broken s s' hub' p.settled p.doubtful mid (es mid) fault) → Gave then now [] ⊎ Gave then now (turn ∷ []) →
      ((g left : List Entry) → LogLeaves hub_setup.limits.log g left fault → Why g left) → (p' : Point) × CutShort p p' then now s.shelf_faults s'.shelf_faults Why × Leaves p p' s s' status
  short fault status Why d clock why =
      let opened = opened_at hub.broken p.settled p.doubtful d.kept d.pending d.opened at.whole in
      let all = all_kept d.kept d.pending opened.1 in
      let state : mid ≡ standing hub_setup d.kept = d.state ∙ ap (standing hub_setup) all in
      let p' = sure (d.kept ++ d.added) in (
        p',
        record {
          found = d.kept;
          is_found = opened.0;
          turn = turn;
          puts = puts;
          added = d.added;
          left = d.left;
          clock = clock;
          whole = ap es (sym state) ∙ d.whole;
          fits = subst (λ (g : List Entry). Fits hub_setup.limits.log g d.added) all d.fits;
          why = why (d.kept ++ d.added) d.left (subst (λ (g : List Entry). LogLeaves hub_setup.limits.log (g ++ d.added) d.left fault) all d.why);
          missed = missed;
          end = refl;
        },
        record {
          settled = may_now hub_setup s' hub' (d.kept ++ d.added) [] (inl (subst (λ (g : List Entry). IsReady hub_setup s' hub' (g ++ d.added) []) all d.ready));
          calm = inl refl;
          moments = weakens s s' (MidRun hub_setup hub.broken p.settled p.doubtful d.kept d.pending d.added) (Within p') (λ c m. run_left d.kept d.pending d.added c opened.0 opened.1 m) d.moments;
        },
      )

  stopped : (fault : HubFault) → Gave then now [] ⊎ Gave then now (turn ∷ []) → Short hub_setup hub.broken s s' hub' p.settled p.doubtful mid (es mid) fault →
      (p' : Point) × Finishes p p' then now s.shelf_faults s'.shelf_faults (fault_status fault) × Leaves p p' s s' (fault_status fault)
  stopped faults.DiskFault clock d = absurd d.why
  stopped faults.NoMemory clock d = (let out = short faults.NoMemory statuses.NoMemory Starved d clock (λ g left why. tt) in (out.0, inr out.1, out.2))
  stopped (faults.QueueFull live bytes) clock d = absurd d.why
  stopped (faults.LogFull octets) clock d = short (faults.LogFull octets) statuses.LogFull Overfull d clock (λ g left why. (octets, why))
  stopped (faults.NotALog place) clock d = absurd d.why
  stopped (faults.Org fault) clock d = absurd d.why
  stopped (faults.EpochsFull live) clock d = absurd d.why
  stopped faults.NoSuchApproval clock d = absurd d.why

  -- categorising or the turn failed
  pub failed : (fault : HubFault) (status : Status) → status ≡ fault_status fault → Gave then now [] ⊎ Gave then now (turn ∷ []) → FailsOpened hub_setup hub.broken s s' hub' p.settled p.doubtful mid (es mid) fault →
      (p' : Point) × Finishes p p' then now s.shelf_faults s'.shelf_faults status × Leaves p p' s s' status
  failed fault status is clock (inl (disk, d)) =
      subst (λ (x : Status). (p' : Point) × Finishes p p' then now s.shelf_faults s'.shelf_faults x × Leaves p p' s s' x) (sym (is ∙ ap fault_status disk)) (broke clock d)
  failed fault status is clock (inr d) = subst (λ (x : Status). (p' : Point) × Finishes p p' then now s.shelf_faults s'.shelf_faults x × Leaves p p' s s' x) (sym is) (stopped fault clock d)

as_it_was : (s s' : State) (hub' : Kept) (p : Point) (broken : Bool) (fault : HubFault) (status : Status) → HubNotOpened hub_setup broken s s' hub' p.settled p.doubtful fault → Leaves p p s s' status
as_it_was s s' hub' p broken fault status none = record {
  settled = none.still.settled;
  calm = inr (inl refl);
  moments = weakens s s' (IsLeftAt p) (λ c. IsLeftAt p c ⊎ IsLeftBetween p p c) (λ c may. inl may) none.moments;
}

not_begun : (s s' : State) (hub' : Kept) (p : Point) (broken : Bool) (then now : ℕ → Option ℕ) (fault : HubFault) → Gave then now [] → HubNotOpened hub_setup broken s s' hub' p.settled p.doubtful fault →
    (p' : Point) × Finishes p p' then now s.shelf_faults s'.shelf_faults (fault_status fault) × Leaves p p' s s' (fault_status fault)
not_begun s s' hub' p broken then now fault clock none =
    elim none.why [
      | inl disk ↦ subst (λ (f : HubFault). (p' : Point) × Finishes p p' then now s.shelf_faults s'.shelf_faults (fault_status f) × Leaves p p' s s' (fault_status f)) (sym disk)
          (p, inl (record { clock = clock; end = refl }), as_it_was s s' hub' p broken fault statuses.DiskFault none)
      | inr memory ↦ subst (λ (f : HubFault). (p' : Point) × Finishes p p' then now s.shelf_faults s'.shelf_faults (fault_status f) × Leaves p p' s s' (fault_status f)) (sym memory)
          (p, inl (record { clock = clock; end = refl }), as_it_was s s' hub' p broken fault statuses.NoMemory none)
    ]

-- categorising failed
pub uncategorised : (s s' : State) (hub hub' : Kept) (p : Point) → StandsAt s hub p → (then now : ℕ → Option ℕ) (mid : Standing) (fault : HubFault) (status : Status) → s.shelf_faults ≤ s'.shelf_faults → status ≡ fault_status fault → Gave then now [] →
    FailsPartly hub_setup hub.broken s s' hub' p.settled p.doubtful mid (entries_finish mid 0 []) fault → (p' : Point) × Finishes p p' then now s.shelf_faults s'.shelf_faults status × Leaves p p' s s' status
uncategorised s s' hub hub' p at then now mid fault status later is clock (inl none) =
    subst (λ (x : Status). (p' : Point) × Finishes p p' then now s.shelf_faults s'.shelf_faults x × Leaves p p' s s' x) (sym is) (not_begun s s' hub' p hub.broken then now fault clock none)
uncategorised s s' hub hub' p at then now mid fault status later is clock (inr fails) = failed s s' hub hub' p at then now mid 0 [] (omega (arith, later)) fault status is (inl clock) fails

-- Nothing is in doubt where no disk fault was counted.
pub left_calm : (p p' : Point) (status : Status) (a b c : ℕ) → a ≤ b → b ≤ c → (p.doubtful ≡ []) ⊎ Rose a b → (p'.doubtful ≡ []) ⊎ ((p' ≡ p) ⊎ (status ≡ statuses.DiskFault)) → (status ≡ statuses.DiskFault → Rose b c) →
    (p'.doubtful ≡ []) ⊎ Rose a c
left_calm p p' status a b c first second calm (inl none) cause = inl none
left_calm p p' status a b c first second (inl none) (inr (inl same)) cause = inl (ap (λ (q : Point). q.doubtful) same ∙ none)
left_calm p p' status a b c first second (inr rose) (inr (inl same)) cause = inr (omega (arith, rose, second))
left_calm p p' status a b c first second calm (inr (inr disk)) cause = inr (let rose = cause disk in omega (arith, rose, first))

-- counted from an earlier time
pub calm_from : (doubt : List Entry) (a b c : ℕ) → a ≤ b → (doubt ≡ []) ⊎ Rose b c → (doubt ≡ []) ⊎ Rose a c
calm_from doubt a b c first (inl none) = inl none
calm_from doubt a b c first (inr rose) = inr (omega (arith, rose, first))

pub rose_by_from : (n a b c : ℕ) → a ≤ b → RoseBy n b c → RoseBy n a c
rose_by_from n a b c first told = omega (arith, told, first)

still_at : (s : State) (hub : Kept) (p : Point) → StandsAt s hub p → (status : Status) → Leaves p p s s status
still_at s hub p at status =
    let left = may_now hub_setup s hub p.settled p.doubtful at.stands in
    record { settled = left; calm = inr (inl refl); moments = started s (λ c. IsLeftAt p c ⊎ IsLeftBetween p p c) (λ c now. inl (left c now)) }

-- nothing follows
pub stays_at : (s : State) (hub : Kept) (p : Point) → StandsAt s hub p → (end : SessionEnd) → (end ≡ ends.Quit → ⊥) → (end ≡ ends.EndOfInput → ⊥) → (moments : ℕ → Option ℕ) (status : Status) → status ≡ status_of end →
    (p' : Point) × Ends end p p' moments moments s.shelf_faults s.shelf_faults status × Leaves p p' s s status
stays_at s hub p at ends.Quit quit end_of_input moments status is = absurd (quit refl)
stays_at s hub p at ends.EndOfInput quit end_of_input moments status is = absurd (end_of_input refl)
stays_at s hub p at ends.Cut quit end_of_input moments status is = (p, record { status_is = is; clock = λ k. refl; same = refl }, still_at s hub p at status)
stays_at s hub p at ends.SourceFault quit end_of_input moments status is = (p, record { status_is = is; clock = λ k. refl; same = refl }, still_at s hub p at status)
stays_at s hub p at ends.SinkFault quit end_of_input moments status is = (p, record { status_is = is; clock = λ k. refl; same = refl }, still_at s hub p at status)
stays_at s hub p at ends.NoMemory quit end_of_input moments status is = (p, record { status_is = is; clock = λ k. refl; same = refl }, still_at s hub p at status)
stays_at s hub p at ends.LogFull quit end_of_input moments status is = (p, record { status_is = is; clock = λ k. refl; same = refl }, still_at s hub p at status)
stays_at s hub p at (ends.NotALog place) quit end_of_input moments status is = (p, record { status_is = is; clock = λ k. refl; same = refl }, still_at s hub p at status)
stays_at s hub p at ends.DeskFull quit end_of_input moments status is = (p, record { status_is = is; clock = λ k. refl; same = refl }, still_at s hub p at status)
stays_at s hub p at ends.TooLong quit end_of_input moments status is = (p, record { status_is = is; clock = λ k. refl; same = refl }, still_at s hub p at status)
