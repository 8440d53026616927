-- Calls one behind another: entries that are pending, and then a run that settles all.
use Rattle.std.proofs.Common.{◌≡◌, ◌⊎◌, inl, inr, Bool, true, false, List, [], ◌++◌, ap, ◌∙◌, sym, subst, append_assoc}
use Rattle.log_entry.specs.declared.entry.Entry.{Entry}
use Rattle.plant_dev.specs.Disk.{State, Image, LeavesOnly}
use Rattle.plant_dev.proofs.Offered.{joins, weakens}
use Rattle.hub_core.specs.Setup.{Setup}
use Rattle.hub_core.specs.Standing.{Standing}
use Rattle.queue_store.specs.declared.fault.HubFault.{HubFault}
use Rattle.queue_store.specs.Room.{Fits}
use Rattle.queue_store.specs.Stands.{Stands}
use Rattle.queue_store.specs.Ready.{Kept, IsReady, Before, Grows, Leaves, Reaches, MidCall, MidBreak, Turns, BreaksOff, StopsShort, TurnStops}
use Rattle.queue_store.specs.Turning.{MidRun, Done, Broke, Short, FailsOpened, FailsPartly}
use Rattle.queue_store.proofs.Adding.{fits-joined, leaves-more}
use Rattle.queue_store.proofs.Runs.{reach-more, mid_of, break_of, break_more, settled_behind}

-- a moment of a call that found the log open
run_mid : (setup : Setup) (h t es : List Entry) (c : Image) → MidRun setup false h t h t es c → MidCall setup h t es c
run_mid setup h t es c (inl stands) = mid_of setup h t es c stands
run_mid setup h t es c (inr mid) = mid

run_moments : (setup : Setup) (s s' : State) (h t kept pending es : List Entry) → kept ≡ h → pending ≡ t → LeavesOnly s s' (MidRun setup false h t kept pending es) → LeavesOnly s s' (MidCall setup h t es)
run_moments setup s s' h t kept pending es at behind run =
    weakens s s' (MidRun setup false h t h t es) (MidCall setup h t es) (run_mid setup h t es)
    (subst (λ (k : List Entry). LeavesOnly s s' (MidRun setup false h t k t es)) at (subst (λ (p : List Entry). LeavesOnly s s' (MidRun setup false h t kept p es)) behind run))

-- what such a call did
done_turns : (setup : Setup) (s s' : State) (hub : Kept) (h t : List Entry) (mid : Standing) (es : List Entry) → Done setup false s s' hub h t mid es → Turns setup s s' hub h t es
done_turns setup s s' hub h t mid es d =
    let both : d.kept ++ d.pending ≡ h ++ t = λ i. d.opened.0 i ++ d.opened.1 i in
    record {
      ready = subst (λ (g : List Entry). IsReady setup s' hub (g ++ es) []) both d.ready;
      fits = subst (λ (g : List Entry). Fits setup.limits.log g es) both d.fits;
      moments = run_moments setup s s' h t d.kept d.pending es d.opened.0 d.opened.1 d.moments;
    }

short_stops : (setup : Setup) (s s' : State) (hub : Kept) (h t : List Entry) (mid : Standing) (es : List Entry) (fault : HubFault) → Short setup false s s' hub h t mid es fault → StopsShort setup s s' hub h t es fault
short_stops setup s s' hub h t mid es fault d =
    let both : d.kept ++ d.pending ≡ h ++ t = λ i. d.opened.0 i ++ d.opened.1 i in
    record {
      added = d.added;
      left = d.left;
      whole = d.whole;
      turns = record {
        ready = subst (λ (g : List Entry). IsReady setup s' hub (g ++ d.added) []) both d.ready;
        fits = subst (λ (g : List Entry). Fits setup.limits.log g d.added) both d.fits;
        moments = run_moments setup s s' h t d.kept d.pending d.added d.opened.0 d.opened.1 d.moments;
      };
      why = subst (λ (g : List Entry). Leaves setup.limits.log (g ++ d.added) d.left fault) both d.why;
    }

off_mid : (setup : Setup) (h t es settled left : List Entry) (c : Image) → Reaches h t es settled → Stands setup c h ⊎ MidBreak setup h t es (settled ++ left) c → MidBreak setup h t es (settled ++ left) c
off_mid setup h t es settled left c within (inl stands) =
    let front = settled_behind h t es settled within in
    break_of setup h t es (settled ++ left) c (front.0 ++ left, ap (λ (l : List Entry). l ++ left) front.1 ∙ append_assoc h front.0 left) stands
off_mid setup h t es settled left c within (inr mid) = mid

broke_off : (setup : Setup) (s s' : State) (hub : Kept) (h t : List Entry) (mid : Standing) (es : List Entry) → Broke setup false s s' hub h t mid es → BreaksOff setup s s' hub h t es
broke_off setup s s' hub h t mid es d =
    let both : d.kept ++ d.pending ≡ h ++ t = λ i. d.opened.0 i ++ d.opened.1 i in
    let all = d.settled ++ d.left in
    let within = subst (λ (k : List Entry). Reaches k t es d.settled) d.opened.0 (subst (λ (p : List Entry). Reaches d.kept p es d.settled) d.opened.1 d.within) in
    record {
      settled = d.settled;
      left = d.left;
      lost = d.lost;
      broken = d.still;
      whole = ap (λ (g : List Entry). g ++ es) (sym both) ∙ d.whole;
      within = within;
      moments = weakens s s' (λ c. Stands setup c h ⊎ MidBreak setup h t es all c) (MidBreak setup h t es all) (λ c m. off_mid setup h t es d.settled d.left c within m)
          (subst (λ (k : List Entry). LeavesOnly s s' (λ c. Stands setup c h ⊎ MidBreak setup k t es all c)) d.opened.0
          (subst (λ (p : List Entry). LeavesOnly s s' (λ c. Stands setup c h ⊎ MidBreak setup d.kept p es all c)) d.opened.1 d.moments));
    }

open_fails : false ≡ true → ⊥
open_fails same = cc same

pub partly_stops : (setup : Setup) (s s' : State) (hub : Kept) (h t : List Entry) (mid : Standing) (es : List Entry) (fault : HubFault) → FailsPartly setup false s s' hub h t mid es fault → TurnStops setup s s' hub h t es fault
partly_stops setup s s' hub h t mid es fault (inl none) = absurd (open_fails none.was)
partly_stops setup s s' hub h t mid es fault (inr (inl (disk, broke))) = inl (disk, broke_off setup s s' hub h t mid es broke)
partly_stops setup s s' hub h t mid es fault (inr (inr short)) = inr (short_stops setup s s' hub h t mid es fault short)

-- what such a run reaches, and an image of a moment of it, from where the entries before it were pending
reach_behind : (kept pending cs es k : List Entry) → Reaches kept (pending ++ cs) es k → Reaches kept pending (cs ++ es) k
reach_behind kept pending cs es k (inl same) = inl same
reach_behind kept pending cs es k (inr (done, left, is, at)) = inr (
  cs ++ done,
  left,
  ap (λ (l : List Entry). cs ++ l) is ∙ sym (append_assoc cs done left),
  at ∙ ap (λ (l : List Entry). l ++ done) (sym (append_assoc kept pending cs)) ∙ append_assoc (kept ++ pending) cs done,
)

mid_behind : (setup : Setup) (kept pending cs es : List Entry) (c : Image) → MidCall setup kept (pending ++ cs) es c → MidCall setup kept pending (cs ++ es) c
mid_behind setup kept pending cs es c m = record { reached = m.reached; within = reach_behind kept pending cs es m.reached m.within; stands = m.stands }

break_behind : (setup : Setup) (kept pending cs es all : List Entry) (c : Image) → MidBreak setup kept (pending ++ cs) es all c → MidBreak setup kept pending (cs ++ es) all c
break_behind setup kept pending cs es all c m = record { reached = m.reached; behind = m.behind; within = reach_behind kept pending cs es m.reached m.within; front = m.front; stands = m.stands }

behind_moments : (setup : Setup) (broken : Bool) (s0 s1 s2 : State) (h t : List Entry) (P Q : Image → Type 0) → ((c : Image) → P c → Q c) → LeavesOnly s0 s1 (Before setup broken h t) → LeavesOnly s1 s2 P → LeavesOnly s0 s2 (λ c. Before setup broken h t c ⊎ Q c)
behind_moments setup broken s0 s1 s2 h t P Q to first second =
    joins s0 s1 s2 (λ c. Before setup broken h t c ⊎ Q c) (weakens s0 s1 (Before setup broken h t) (λ c. Before setup broken h t c ⊎ Q c) (λ c may. inl may) first)
    (weakens s1 s2 P (λ c. Before setup broken h t c ⊎ Q c) (λ c m. inr (to c m)) second)

-- A call left entries pending, and a run behind it added more and settled all.
pub done_behind : (setup : Setup) (broken : Bool) (s0 s1 s2 : State) (hub hub' : Kept) (h t : List Entry) (mid mid' : Standing) (cs es : List Entry) (g : Grows setup broken s0 s1 hub h t mid cs) →
    Done setup false s1 s2 hub' g.kept (g.pending ++ cs) mid' es → Done setup broken s0 s2 hub' h t mid (cs ++ es)
done_behind setup broken s0 s1 s2 hub hub' h t mid mid' cs es g d =
    let all : g.kept ++ (g.pending ++ cs) ≡ (g.kept ++ g.pending) ++ cs = sym (append_assoc g.kept g.pending cs) in
    let turns = done_turns setup s1 s2 hub' g.kept (g.pending ++ cs) mid' es d in
    record {
      kept = g.kept;
      pending = g.pending;
      opened = g.opened;
      state = g.state;
      ready = subst (λ (l : List Entry). IsReady setup s2 hub' l []) (ap (λ (l : List Entry). l ++ es) all ∙ append_assoc (g.kept ++ g.pending) cs es) turns.ready;
      fits = fits-joined setup.limits.log (g.kept ++ g.pending) cs es g.fits (subst (λ (l : List Entry). Fits setup.limits.log l es) all turns.fits);
      moments = behind_moments setup broken s0 s1 s2 h t (MidCall setup g.kept (g.pending ++ cs) es) (MidCall setup g.kept g.pending (cs ++ es)) (mid_behind setup g.kept g.pending cs es) g.moments turns.moments;
    }

-- The run behind it stopped.
stops_behind : (setup : Setup) (broken : Bool) (s0 s1 s2 : State) (hub hub' : Kept) (h t : List Entry) (mid : Standing) (cs es : List Entry) (fault : HubFault) (g : Grows setup broken s0 s1 hub h t mid cs) →
    TurnStops setup s1 s2 hub' g.kept (g.pending ++ cs) es fault → FailsOpened setup broken s0 s2 hub' h t mid (cs ++ es) fault
stops_behind setup broken s0 s1 s2 hub hub' h t mid cs es fault g (inl (disk, off)) =
    let all = off.settled ++ off.left in
    inl (
      disk,
      record {
        kept = g.kept;
        pending = g.pending;
        opened = g.opened;
        state = g.state;
        settled = off.settled;
        left = off.left;
        lost = off.lost;
        still = off.broken;
        whole = sym (append_assoc (g.kept ++ g.pending) cs es) ∙ ap (λ (l : List Entry). l ++ es) (append_assoc g.kept g.pending cs) ∙ off.whole;
        within = reach_behind g.kept g.pending cs es off.settled off.within;
        moments = behind_moments setup broken s0 s1 s2 h t (MidBreak setup g.kept (g.pending ++ cs) es all) (MidBreak setup g.kept g.pending (cs ++ es) all) (break_behind setup g.kept g.pending cs es all) g.moments off.moments;
      },
    )
stops_behind setup broken s0 s1 s2 hub hub' h t mid cs es fault g (inr stops) =
    let all : g.kept ++ (g.pending ++ cs) ≡ (g.kept ++ g.pending) ++ cs = sym (append_assoc g.kept g.pending cs) in
    let end : (g.kept ++ (g.pending ++ cs)) ++ stops.added ≡ (g.kept ++ g.pending) ++ (cs ++ stops.added) =
    ap (λ (l : List Entry). l ++ stops.added) all ∙ append_assoc (g.kept ++ g.pending) cs stops.added in
    inr (record {
      kept = g.kept;
      pending = g.pending;
      opened = g.opened;
      state = g.state;
      added = cs ++ stops.added;
      left = stops.left;
      whole = ap (λ (l : List Entry). cs ++ l) stops.whole ∙ sym (append_assoc cs stops.added stops.left);
      ready = subst (λ (l : List Entry). IsReady setup s2 hub' l []) end stops.turns.ready;
      fits = fits-joined setup.limits.log (g.kept ++ g.pending) cs stops.added g.fits (subst (λ (l : List Entry). Fits setup.limits.log l stops.added) all stops.turns.fits);
      why = subst (λ (l : List Entry). Leaves setup.limits.log l stops.left fault) end stops.why;
      moments = behind_moments setup broken s0 s1 s2 h t (MidCall setup g.kept (g.pending ++ cs) stops.added) (MidCall setup g.kept g.pending (cs ++ stops.added)) (mid_behind setup g.kept g.pending cs stops.added) g.moments stops.turns.moments;
    })

pub partly_behind : (setup : Setup) (broken : Bool) (s0 s1 s2 : State) (hub hub' : Kept) (h t : List Entry) (mid mid' : Standing) (cs es : List Entry) (fault : HubFault) (g : Grows setup broken s0 s1 hub h t mid cs) →
    FailsPartly setup false s1 s2 hub' g.kept (g.pending ++ cs) mid' es fault → FailsOpened setup broken s0 s2 hub' h t mid (cs ++ es) fault
partly_behind setup broken s0 s1 s2 hub hub' h t mid mid' cs es fault g fails =
    stops_behind setup broken s0 s1 s2 hub hub' h t mid cs es fault g (partly_stops setup s1 s2 hub' g.kept (g.pending ++ cs) mid' es fault fails)

more_run : (setup : Setup) (broken : Bool) (h t kept pending cs ts all : List Entry) (c : Image) → Before setup broken h t c ⊎ MidBreak setup kept pending cs all c → Before setup broken h t c ⊎ MidBreak setup kept pending (cs ++ ts) all c
more_run setup broken h t kept pending cs ts all c (inl before) = inl before
more_run setup broken h t kept pending cs ts all c (inr m) = inr (break_more setup kept pending cs ts all c m)

-- one that stopped, where more was to come
pub partly_more : (setup : Setup) (broken : Bool) (s s' : State) (hub : Kept) (h t : List Entry) (mid : Standing) (cs ts : List Entry) (fault : HubFault) → FailsPartly setup broken s s' hub h t mid cs fault →
    FailsPartly setup broken s s' hub h t mid (cs ++ ts) fault
partly_more setup broken s s' hub h t mid cs ts fault (inl none) = inl none
partly_more setup broken s s' hub h t mid cs ts fault (inr (inl (disk, d))) =
    let all = d.settled ++ d.left in
    inr (inl (
      disk,
      record {
        kept = d.kept;
        pending = d.pending;
        opened = d.opened;
        state = d.state;
        settled = d.settled;
        left = d.left;
        lost = d.lost ++ ts;
        still = d.still;
        whole = sym (append_assoc (d.kept ++ d.pending) cs ts) ∙ ap (λ (l : List Entry). l ++ ts) d.whole ∙ append_assoc all d.lost ts;
        within = reach-more d.kept d.pending cs ts d.settled d.within;
        moments = weakens s s' (λ c. Before setup broken h t c ⊎ MidBreak setup d.kept d.pending cs all c) (λ c. Before setup broken h t c ⊎ MidBreak setup d.kept d.pending (cs ++ ts) all c) (more_run setup broken h t d.kept d.pending cs ts all) d.moments;
      },
    ))
partly_more setup broken s s' hub h t mid cs ts fault (inr (inr d)) = inr (inr (record {
  kept = d.kept;
  pending = d.pending;
  opened = d.opened;
  state = d.state;
  added = d.added;
  left = d.left ++ ts;
  whole = ap (λ (l : List Entry). l ++ ts) d.whole ∙ append_assoc d.added d.left ts;
  ready = d.ready;
  fits = d.fits;
  why = leaves-more setup.limits.log ((d.kept ++ d.pending) ++ d.added) d.left ts fault d.why;
  moments = d.moments;
}))
