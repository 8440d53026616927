-- Runs of calls that settle what they add.
use Rattle.std.proofs.Common.{◌≡◌, ◌⊎◌, inl, inr, Bool, true, List, [], ◌++◌, Result, Ok, Err, refl, ap, ◌∙◌, sym, subst, append_assoc, append-nil}
use Rattle.std.specs.Prelude.{fold, OnOk, IfErr}
use Rattle.std.proofs.lemmas.Grind.{fold-append}
use Rattle.log_entry.specs.declared.entry.Entry.{Entry}
use Rattle.plant_dev.specs.Disk.{State, Image, LeavesOnly}
use Rattle.plant_dev.proofs.Offered.{joins, weakens}
use Rattle.hub_core.specs.Setup.{Setup}
use Rattle.hub_core.specs.Standing.{Standing, start, standing, state_after}
use Rattle.queue_store.specs.declared.fault.HubFault.{HubFault}
use Rattle.queue_store.specs.Room.{Fits}
use Rattle.queue_store.specs.Stands.{Stands, MayStand}
use Rattle.queue_store.specs.Ready.{Kept, IsReady, IsBroken, Before, Mended, Adds, Breaks, Stops, Leaves, FailsBy, FailsLater, Reaches, MidCall, MidBreak, Turns, BreaksOff, TurnStops, FailsSettling, SettlesRest}
use Rattle.queue_store.specs.Calls.{after_entries}
use Rattle.queue_store.specs.Turning.{Done, Broke, FailsWhole, FailsPartly, Leads, LeadsSettled, LeadsOn}
use Rattle.queue_store.proofs.Adding.{fits-joined, leaves-more, grows}

-- What a moment of a call reaches, a moment of a longer one does.
pub reach-more : (h t xs ys k : List Entry) → Reaches h t xs k → Reaches h t (xs ++ ys) k
reach-more h t xs ys k (inl same) = inl same
reach-more h t xs ys k (inr (done, left, is, at)) = inr (done, left ++ ys, ap (λ (l : List Entry). l ++ ys) is ∙ append_assoc done left ys, at)

-- and what one reaches behind it
reach-then : (h t xs ys kept k : List Entry) → kept ≡ (h ++ t) ++ xs → Reaches kept [] ys k → Reaches h t (xs ++ ys) k
reach-then h t xs ys kept k all (inl same) = inr (xs, ys, refl, same ∙ all)
reach-then h t xs ys kept k all (inr (done, left, is, at)) = inr (
  xs ++ done,
  left,
  ap (λ (l : List Entry). xs ++ l) is ∙ sym (append_assoc xs done left),
  at ∙ ap (λ (l : List Entry). l ++ done) (append-nil kept ∙ all) ∙ append_assoc (h ++ t) xs done,
)

pub mid_of : (setup : Setup) (h t es : List Entry) (c : Image) → Stands setup c h → MidCall setup h t es c
mid_of setup h t es c stands = record { reached = h; within = inl refl; stands = stands }

mid_all : (setup : Setup) (h t es : List Entry) (c : Image) → MayStand setup h (t ++ es) c → MidCall setup h t es c
mid_all setup h t es c (inl stands) = mid_of setup h t es c stands
mid_all setup h t es c (inr stands) = record { reached = h ++ (t ++ es); within = inr (es, [], sym (append-nil es), sym (append_assoc h t es)); stands = stands }

pub mid-more : (setup : Setup) (h t xs ys : List Entry) (c : Image) → MidCall setup h t xs c → MidCall setup h t (xs ++ ys) c
mid-more setup h t xs ys c m = record { reached = m.reached; within = reach-more h t xs ys m.reached m.within; stands = m.stands }

mid-then : (setup : Setup) (h t xs ys : List Entry) (c : Image) → MidCall setup ((h ++ t) ++ xs) [] ys c → MidCall setup h t (xs ++ ys) c
mid-then setup h t xs ys c m = record { reached = m.reached; within = reach-then h t xs ys ((h ++ t) ++ xs) m.reached refl m.within; stands = m.stands }

-- entries were added, and then all was settled
settling-moments : (setup : Setup) (s0 s1 s2 : State) (h t es : List Entry) → LeavesOnly s0 s1 (λ c. Stands setup c h) → LeavesOnly s1 s2 (MayStand setup h (t ++ es)) → LeavesOnly s0 s2 (MidCall setup h t es)
settling-moments setup s0 s1 s2 h t es first second =
    joins s0 s1 s2 (MidCall setup h t es) (weakens s0 s1 (λ c. Stands setup c h) (MidCall setup h t es) (mid_of setup h t es) first)
    (weakens s1 s2 (MayStand setup h (t ++ es)) (MidCall setup h t es) (mid_all setup h t es) second)

pub turns-settled : (setup : Setup) (s0 s1 s2 : State) (hub hub' : Kept) (h t es : List Entry) → Adds setup s0 s1 hub h t es → IsReady setup s2 hub' (h ++ (t ++ es)) [] → LeavesOnly s1 s2 (MayStand setup h (t ++ es)) →
    Turns setup s0 s2 hub' h t es
turns-settled setup s0 s1 s2 hub hub' h t es adds ready run = record {
  ready = subst (λ (g : List Entry). IsReady setup s2 hub' g []) (sym (append_assoc h t es)) ready;
  fits = adds.fits;
  moments = settling-moments setup s0 s1 s2 h t es adds.moments run;
}

-- a moment of a call that was broken off
pub break_of : (setup : Setup) (h t es all : List Entry) (c : Image) → (rest : List Entry) × (all ≡ h ++ rest) → Stands setup c h → MidBreak setup h t es all c
break_of setup h t es all c front stands = record { reached = h; behind = front.0; within = inl refl; front = front.1; stands = stands }

break_all : (setup : Setup) (h t es : List Entry) (c : Image) → MayStand setup h (t ++ es) c → MidBreak setup h t es (h ++ (t ++ es)) c
break_all setup h t es c (inl stands) = break_of setup h t es (h ++ (t ++ es)) c (t ++ es, refl) stands
break_all setup h t es c (inr stands) = record {
  reached = h ++ (t ++ es);
  behind = [];
  within = inr (es, [], sym (append-nil es), sym (append_assoc h t es));
  front = sym (append-nil (h ++ (t ++ es)));
  stands = stands;
}

breaking-moments : (setup : Setup) (s0 s1 s2 : State) (h t es : List Entry) → LeavesOnly s0 s1 (λ c. Stands setup c h) → LeavesOnly s1 s2 (MayStand setup h (t ++ es)) → LeavesOnly s0 s2 (MidBreak setup h t es (h ++ (t ++ es)))
breaking-moments setup s0 s1 s2 h t es first second =
    let all = h ++ (t ++ es) in
    joins s0 s1 s2 (MidBreak setup h t es all) (weakens s0 s1 (λ c. Stands setup c h) (MidBreak setup h t es all) (λ c stands. break_of setup h t es all c (t ++ es, refl) stands) first)
    (weakens s1 s2 (MayStand setup h (t ++ es)) (MidBreak setup h t es all) (break_all setup h t es) second)

-- a disk fault while all is settled
pub off_settling : (setup : Setup) (s0 s1 s2 : State) (hub hub' : Kept) (h t es : List Entry) → Adds setup s0 s1 hub h t es → IsBroken setup s2 hub' h (t ++ es) → LeavesOnly s1 s2 (MayStand setup h (t ++ es)) →
    BreaksOff setup s0 s2 hub' h t es
off_settling setup s0 s1 s2 hub hub' h t es adds broken run = record {
  settled = h;
  left = t ++ es;
  lost = [];
  broken = broken;
  whole = append_assoc h t es ∙ sym (append-nil (h ++ (t ++ es)));
  within = inl refl;
  moments = breaking-moments setup s0 s1 s2 h t es adds.moments run;
}

-- or while one is added
pub off_adding : (setup : Setup) (s s' : State) (hub : Kept) (h t es : List Entry) → Breaks setup s s' hub h → BreaksOff setup s s' hub h t es
off_adding setup s s' hub h t es breaks = record {
  settled = h;
  left = [];
  lost = t ++ es;
  broken = breaks.broken;
  whole = append_assoc h t es ∙ ap (λ (l : List Entry). l ++ (t ++ es)) (sym (append-nil h));
  within = inl refl;
  moments = weakens s s' (λ c. Stands setup c h) (MidBreak setup h t es (h ++ [])) (λ c stands. break_of setup h t es (h ++ []) c ([], refl) stands) breaks.moments;
}

pub break_more : (setup : Setup) (h t xs ys all : List Entry) (c : Image) → MidBreak setup h t xs all c → MidBreak setup h t (xs ++ ys) all c
break_more setup h t xs ys all c m = record { reached = m.reached; behind = m.behind; within = reach-more h t xs ys m.reached m.within; front = m.front; stands = m.stands }

-- where more was to come
pub off_more : (setup : Setup) (s s' : State) (hub : Kept) (h t xs ys es : List Entry) → xs ++ ys ≡ es → BreaksOff setup s s' hub h t xs → BreaksOff setup s s' hub h t es
off_more setup s s' hub h t xs ys es same off =
    let all = off.settled ++ off.left in
    subst (λ (l : List Entry). BreaksOff setup s s' hub h t l) same (record {
      settled = off.settled;
      left = off.left;
      lost = off.lost ++ ys;
      broken = off.broken;
      whole = sym (append_assoc (h ++ t) xs ys) ∙ ap (λ (l : List Entry). l ++ ys) off.whole ∙ append_assoc all off.lost ys;
      within = reach-more h t xs ys off.settled off.within;
      moments = weakens s s' (MidBreak setup h t xs all) (MidBreak setup h t (xs ++ ys) all) (break_more setup h t xs ys all) off.moments;
    })

-- Entries weren't all added, and those that were are settled.
pub rests : (setup : Setup) (s0 s1 s2 : State) (hub hub' : Kept) (h t es : List Entry) (e answer : HubFault) (stops : Stops setup s0 s1 hub h t es e) →
    SettlesRest setup s2 hub' h (t ++ stops.added) e answer → LeavesOnly s1 s2 (MayStand setup h (t ++ stops.added)) → TurnStops setup s0 s2 hub' h t es answer
rests setup s0 s1 s2 hub hub' h t es e answer stops (inl (same, ready)) run = inr (record {
  added = stops.added;
  left = stops.left;
  whole = stops.whole;
  turns = turns-settled setup s0 s1 s2 hub hub' h t stops.added stops.adds ready run;
  why = subst (λ (f : HubFault). Leaves setup.limits.log ((h ++ t) ++ stops.added) stops.left f) (sym same) stops.why;
})
rests setup s0 s1 s2 hub hub' h t es e answer stops (inr (disk, broken)) run =
    inl (disk, off_more setup s0 s2 hub' h t stops.added stops.left es (sym stops.whole) (off_settling setup s0 s1 s2 hub hub' h t stops.added stops.adds broken run))

-- the same where the disk had failed already
pub rests_later : (setup : Setup) (s0 s1 s2 : State) (hub hub' : Kept) (h t es : List Entry) (e answer : HubFault) → FailsLater setup s0 s1 hub h t es e →
    (hub.broken ≡ true → (answer ≡ e) × (hub' ≡ hub) × (s2 ≡ s1)) → ((left : List Entry) → IsReady setup s1 hub h left → SettlesRest setup s2 hub' h left e answer) →
    ((left : List Entry) → IsReady setup s1 hub h left → LeavesOnly s1 s2 (MayStand setup h left)) → TurnStops setup s0 s2 hub' h t es answer
rests_later setup s0 s1 s2 hub hub' h t es e answer (inl (disk, breaks)) broken settles run =
    let (same, hubs, states) = broken breaks.broken.broken in
    inl (same ∙ disk, subst (λ (k : Kept). BreaksOff setup s0 s2 k h t es) (sym hubs) (subst (λ (s : State). BreaksOff setup s0 s hub h t es) (sym states) (off_adding setup s0 s1 hub h t es breaks)))
rests_later setup s0 s1 s2 hub hub' h t es e answer (inr stops) broken settles run =
    let ready = stops.adds.ready in
    rests setup s0 s1 s2 hub hub' h t es e answer stops (settles (t ++ stops.added) ready) (run (t ++ stops.added) ready)

-- one settled run behind another
pub turns-joined : (setup : Setup) (s0 s1 s2 : State) (hub hub' : Kept) (h t xs ys : List Entry) → Turns setup s0 s1 hub h t xs → Turns setup s1 s2 hub' ((h ++ t) ++ xs) [] ys → Turns setup s0 s2 hub' h t (xs ++ ys)
turns-joined setup s0 s1 s2 hub hub' h t xs ys first second =
    let g = (h ++ t) ++ xs in record {
      ready = subst (λ (k : List Entry). IsReady setup s2 hub' k []) (ap (λ (l : List Entry). l ++ ys) (append-nil g) ∙ append_assoc (h ++ t) xs ys) second.ready;
      fits = fits-joined setup.limits.log (h ++ t) xs ys first.fits (subst (λ (k : List Entry). Fits setup.limits.log k ys) (append-nil g) second.fits);
      moments = joins s0 s1 s2 (MidCall setup h t (xs ++ ys)) (weakens s0 s1 (MidCall setup h t xs) (MidCall setup h t (xs ++ ys)) (mid-more setup h t xs ys) first.moments)
          (weakens s1 s2 (MidCall setup g [] ys) (MidCall setup h t (xs ++ ys)) (mid-then setup h t xs ys) second.moments);
    }

-- what is behind what a call reached, and what a call behind one has settled
pub behind_reached : (h t xs k : List Entry) → Reaches h t xs k → (rest : List Entry) × ((h ++ t) ++ xs ≡ k ++ rest)
behind_reached h t xs k (inl same) = (t ++ xs, append_assoc h t xs ∙ ap (λ (l : List Entry). l ++ (t ++ xs)) (sym same))
behind_reached h t xs k (inr (done, left, is, at)) = (
  left,
  ap (λ (l : List Entry). (h ++ t) ++ l) is ∙ sym (append_assoc (h ++ t) done left) ∙ ap (λ (l : List Entry). l ++ left) (sym at),
)

pub settled_behind : (h t ys k : List Entry) → Reaches h t ys k → (rest : List Entry) × (k ≡ h ++ rest)
settled_behind h t ys k (inl same) = ([], same ∙ sym (append-nil h))
settled_behind h t ys k (inr (done, left, is, at)) = (t ++ done, at ∙ append_assoc h t done)

-- a moment of the first of two calls, where the second was broken off
break_before : (setup : Setup) (h t xs ys settled left : List Entry) (c : Image) → Reaches ((h ++ t) ++ xs) [] ys settled → MidCall setup h t xs c → MidBreak setup h t (xs ++ ys) (settled ++ left) c
break_before setup h t xs ys settled left c within m =
    let first = behind_reached h t xs m.reached m.within in
    let second = settled_behind ((h ++ t) ++ xs) [] ys settled within in
    record {
      reached = m.reached;
      behind = first.0 ++ (second.0 ++ left);
      within = reach-more h t xs ys m.reached m.within;
      front =
          ap (λ (l : List Entry). l ++ left) (second.1 ∙ ap (λ (l : List Entry). l ++ second.0) first.1 ∙ append_assoc m.reached first.0 second.0)
          ∙ append_assoc m.reached (first.0 ++ second.0) left ∙ ap (λ (l : List Entry). m.reached ++ l) (append_assoc first.0 second.0 left);
      stands = m.stands;
    }

break_then : (setup : Setup) (h t xs ys all : List Entry) (c : Image) → MidBreak setup ((h ++ t) ++ xs) [] ys all c → MidBreak setup h t (xs ++ ys) all c
break_then setup h t xs ys all c m = record { reached = m.reached; behind = m.behind; within = reach-then h t xs ys ((h ++ t) ++ xs) m.reached refl m.within; front = m.front; stands = m.stands }

-- one that stopped behind another
pub turn-stops-joined : (setup : Setup) (s0 s1 s2 : State) (hub hub' : Kept) (h t xs ys : List Entry) (e : HubFault) → Turns setup s0 s1 hub h t xs → TurnStops setup s1 s2 hub' ((h ++ t) ++ xs) [] ys e →
    TurnStops setup s0 s2 hub' h t (xs ++ ys) e
turn-stops-joined setup s0 s1 s2 hub hub' h t xs ys e first (inl (disk, second)) =
    let g = (h ++ t) ++ xs in
    let all = second.settled ++ second.left in
    inl (
      disk,
      record {
        settled = second.settled;
        left = second.left;
        lost = second.lost;
        broken = second.broken;
        whole = sym (append_assoc (h ++ t) xs ys) ∙ ap (λ (l : List Entry). l ++ ys) (sym (append-nil g)) ∙ second.whole;
        within = reach-then h t xs ys g second.settled refl second.within;
        moments = joins s0 s1 s2 (MidBreak setup h t (xs ++ ys) all)
            (weakens s0 s1 (MidCall setup h t xs) (MidBreak setup h t (xs ++ ys) all) (λ c m. break_before setup h t xs ys second.settled second.left c second.within m) first.moments)
            (weakens s1 s2 (MidBreak setup g [] ys all) (MidBreak setup h t (xs ++ ys) all) (break_then setup h t xs ys all) second.moments);
      },
    )
turn-stops-joined setup s0 s1 s2 hub hub' h t xs ys e first (inr second) =
    let g = (h ++ t) ++ xs in
    inr (record {
      added = xs ++ second.added;
      left = second.left;
      whole = ap (λ (l : List Entry). xs ++ l) second.whole ∙ sym (append_assoc xs second.added second.left);
      turns = turns-joined setup s0 s1 s2 hub hub' h t xs second.added first second.turns;
      why = subst (λ (k : List Entry). Leaves setup.limits.log k second.left e) (ap (λ (l : List Entry). l ++ second.added) (append-nil g) ∙ append_assoc (h ++ t) xs second.added) second.why;
    })

-- one that stopped, where more was to come
pub turn-stops-more : (setup : Setup) (s s' : State) (hub : Kept) (h t xs ys : List Entry) (e : HubFault) → TurnStops setup s s' hub h t xs e → TurnStops setup s s' hub h t (xs ++ ys) e
turn-stops-more setup s s' hub h t xs ys e (inl (disk, off)) = inl (disk, off_more setup s s' hub h t xs ys (xs ++ ys) refl off)
turn-stops-more setup s s' hub h t xs ys e (inr stops) = inr (record {
  added = stops.added;
  left = stops.left ++ ys;
  whole = ap (λ (l : List Entry). l ++ ys) stops.whole ∙ append_assoc stops.added stops.left ys;
  turns = stops.turns;
  why = leaves-more setup.limits.log ((h ++ t) ++ stops.added) stops.left ys e stops.why;
})

pub turns-along : (setup : Setup) (s s' : State) (hub : Kept) (h t es es' : List Entry) → es ≡ es' → Turns setup s s' hub h t es → Turns setup s s' hub h t es'
turns-along setup s s' hub h t es es' same turns = subst (λ (xs : List Entry). Turns setup s s' hub h t xs) same turns

pub turn-stops-along : (setup : Setup) (s s' : State) (hub : Kept) (h t es es' : List Entry) (e : HubFault) → es ≡ es' → TurnStops setup s s' hub h t es e → TurnStops setup s s' hub h t es' e
turn-stops-along setup s s' hub h t es es' e same stops = subst (λ (xs : List Entry). TurnStops setup s s' hub h t xs e) same stops

pub state-turns : (setup : Setup) (s s' : State) (hub hub' : Kept) (h t es : List Entry) → IsReady setup s hub h t → IsReady setup s' hub' ((h ++ t) ++ es) [] → hub'.state ≡ after_entries setup hub.state es
state-turns setup s s' hub hub' h t es before after =
    after.state ∙ ap (standing setup) (append-nil ((h ++ t) ++ es)) ∙ fold-append (state_after setup) (start setup) (h ++ t) es ∙ ap (λ (st : Standing). fold (state_after setup) st es) (sym before.state)

-- the log was opened where it was broken off, and then came a call
run-moments : (setup : Setup) (s0 s1 s2 : State) (broken : Bool) (h t : List Entry) (P : Image → Type 0) → LeavesOnly s0 s1 (Before setup broken h t) → LeavesOnly s1 s2 P → LeavesOnly s0 s2 (λ c. Before setup broken h t c ⊎ P c)
run-moments setup s0 s1 s2 broken h t P first second =
    joins s0 s1 s2 (λ c. Before setup broken h t c ⊎ P c) (weakens s0 s1 (Before setup broken h t) (λ c. Before setup broken h t c ⊎ P c) (λ c may. inl may) first)
    (weakens s1 s2 P (λ c. Before setup broken h t c ⊎ P c) (λ c mid. inr mid) second)

pub done : (setup : Setup) (s0 s1 s2 : State) (hub hub' : Kept) (h t es : List Entry) (broken : Bool) (m : Mended setup broken s1 hub h t) → LeavesOnly s0 s1 (Before setup broken h t) →
    Turns setup s1 s2 hub' m.kept m.pending es → Done setup broken s0 s2 hub' h t hub.state es
done setup s0 s1 s2 hub hub' h t es broken m first turns = record {
  kept = m.kept;
  pending = m.pending;
  opened = m.opened;
  state = m.ready.state;
  ready = turns.ready;
  fits = turns.fits;
  moments = run-moments setup s0 s1 s2 broken h t (MidCall setup m.kept m.pending es) first turns.moments;
}

broke : (setup : Setup) (s0 s1 s2 : State) (hub hub' : Kept) (h t es : List Entry) (broken : Bool) (m : Mended setup broken s1 hub h t) → LeavesOnly s0 s1 (Before setup broken h t) →
    BreaksOff setup s1 s2 hub' m.kept m.pending es → Broke setup broken s0 s2 hub' h t hub.state es
broke setup s0 s1 s2 hub hub' h t es broken m first off = record {
  kept = m.kept;
  pending = m.pending;
  opened = m.opened;
  state = m.ready.state;
  settled = off.settled;
  left = off.left;
  lost = off.lost;
  still = off.broken;
  whole = off.whole;
  within = off.within;
  moments = run-moments setup s0 s1 s2 broken h t (MidBreak setup m.kept m.pending es (off.settled ++ off.left)) first off.moments;
}

pub partly : (setup : Setup) (s0 s1 s2 : State) (hub hub' : Kept) (h t es : List Entry) (e : HubFault) (broken : Bool) (m : Mended setup broken s1 hub h t) → LeavesOnly s0 s1 (Before setup broken h t) →
    TurnStops setup s1 s2 hub' m.kept m.pending es e → FailsPartly setup broken s0 s2 hub' h t hub.state es e
partly setup s0 s1 s2 hub hub' h t es e broken m first (inl (disk, off)) = inr (inl (disk, broke setup s0 s1 s2 hub hub' h t es broken m first off))
partly setup s0 s1 s2 hub hub' h t es e broken m first (inr stops) = inr (inr (record {
  kept = m.kept;
  pending = m.pending;
  opened = m.opened;
  state = m.ready.state;
  added = stops.added;
  left = stops.left;
  whole = stops.whole;
  ready = stops.turns.ready;
  fits = stops.turns.fits;
  why = stops.why;
  moments = run-moments setup s0 s1 s2 broken h t (MidCall setup m.kept m.pending stops.added) first stops.turns.moments;
}))

wholly : (setup : Setup) (s0 s1 s2 : State) (hub hub' : Kept) (h t es : List Entry) (Why : List Entry → HubFault → Type 0) (e : HubFault) (broken : Bool) (m : Mended setup broken s1 hub h t) → LeavesOnly s0 s1 (Before setup broken h t) →
    FailsSettling setup s1 s2 hub' m.kept m.pending es (Why (m.kept ++ m.pending)) e → FailsWhole setup broken s0 s2 hub' h t hub.state es Why e
wholly setup s0 s1 s2 hub hub' h t es Why e broken m first (inl (disk, off)) = inr (inl (disk, broke setup s0 s1 s2 hub hub' h t es broken m first off))
wholly setup s0 s1 s2 hub hub' h t es Why e broken m first (inr declined) = inr (inr (record {
  kept = m.kept;
  pending = m.pending;
  opened = m.opened;
  state = m.ready.state;
  ready = declined.ready;
  why = declined.why;
  moments = run-moments setup s0 s1 s2 broken h t (λ c. Stands setup c m.kept) first declined.moments;
}))

pub leads_settled : {T : Type 0} (setup : Setup) (s0 s1 s2 : State) (hub hub' : Kept) (h t es : List Entry) (Why : List Entry → HubFault → Type 0) (result : Result T HubFault) (broken : Bool) (m : Mended setup broken s1 hub h t) → LeavesOnly s0 s1 (Before setup broken h t) →
    OnOk result (Turns setup s1 s2 hub' m.kept m.pending es) → IfErr result (FailsSettling setup s1 s2 hub' m.kept m.pending es (Why (m.kept ++ m.pending))) → LeadsSettled setup broken s0 s2 hub' h t hub.state es Why result
leads_settled setup s0 s1 s2 hub hub' h t es Why (Ok answer) broken m first turns fails = done setup s0 s1 s2 hub hub' h t es broken m first turns
leads_settled setup s0 s1 s2 hub hub' h t es Why (Err e) broken m first turns fails = wholly setup s0 s1 s2 hub hub' h t es Why e broken m first fails

-- a run of a call that added some entries
pub leads_on : {T : Type 0} (setup : Setup) (s0 s1 s2 : State) (hub hub' : Kept) (h t es : List Entry) (result : Result T HubFault) (broken : Bool) (m : Mended setup broken s1 hub h t) → LeavesOnly s0 s1 (Before setup broken h t) →
    OnOk result (Adds setup s1 s2 hub' m.kept m.pending es) → IfErr result (TurnStops setup s1 s2 hub' m.kept m.pending es) → LeadsOn setup broken s0 s2 hub' h t hub.state es result
leads_on setup s0 s1 s2 hub hub' h t es (Ok answer) broken m first adds fails = grows setup s0 s1 s2 hub hub' h t es es broken m first refl adds
leads_on setup s0 s1 s2 hub hub' h t es (Err e) broken m first adds fails = partly setup s0 s1 s2 hub hub' h t es e broken m first fails

-- where nothing was settled yet
pub settling_by : (setup : Setup) (s s' : State) (hub : Kept) (h t es : List Entry) (Why : HubFault → Type 0) (e : HubFault) → FailsBy setup s s' hub h t Why e → FailsSettling setup s s' hub h t es Why e
settling_by setup s s' hub h t es Why e (inl (disk, breaks)) = inl (disk, off_adding setup s s' hub h t es breaks)
settling_by setup s s' hub h t es Why e (inr declined) = inr declined

-- a call that adds its entries or none
pub leads : {T : Type 0} (setup : Setup) (s0 s1 s2 : State) (hub hub' : Kept) (h t es : List Entry) (Why : List Entry → HubFault → Type 0) (result : Result T HubFault) (broken : Bool) (m : Mended setup broken s1 hub h t) → LeavesOnly s0 s1 (Before setup broken h t) →
    OnOk result (Adds setup s1 s2 hub' m.kept m.pending es) → IfErr result (FailsBy setup s1 s2 hub' m.kept m.pending (Why (m.kept ++ m.pending))) → Leads setup broken s0 s2 hub' h t hub.state es Why result
leads setup s0 s1 s2 hub hub' h t es Why (Ok answer) broken m first adds fails = grows setup s0 s1 s2 hub hub' h t es es broken m first refl adds
leads setup s0 s1 s2 hub hub' h t es Why (Err e) broken m first adds fails =
    wholly setup s0 s1 s2 hub hub' h t es Why e broken m first (settling_by setup s1 s2 hub' m.kept m.pending es (Why (m.kept ++ m.pending)) e fails)
