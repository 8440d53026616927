-- Runs of calls: categorising release by release, and trying item by item.
use Rattle.std.proofs.Common.{◌≡◌, ℕ, ◌+◌, ◌<◌, ◌≤◌, cond, Bool, true, false, List, [], ◌∷◌, ◌++◌, length, get_or, drop, refl, ap, ◌∙◌, sym, subst, arith, append_assoc, append-nil, length-append, Result, Ok, Err}
use Rattle.std.specs.Prelude.{◌||◌, fold, not, OnOk, IfErr}
use Rattle.std.proofs.lemmas.List.{drop_more}
use Rattle.std.proofs.lemmas.Grind.{fold-append}
use Rattle.mail_names.specs.declared.name.ItemName.{ItemName}
use Rattle.log_entry.specs.declared.entry.Entry.{Entry}
use Rattle.port_io.specs.Causes.{Rose, RoseBy}
use Rattle.plant_dev.specs.Disk.{State, LeavesOnly}
use Rattle.hub_core.specs.Setup.{Setup}
use Rattle.hub_core.specs.Standing.{Standing, start, standing, state_after}
use Rattle.queue_store.specs.declared.fault.HubFault.{HubFault}
use Rattle.queue_store.specs.Ready.{Kept, Before, Mended, Grows, Turns, TurnStops}
use Rattle.queue_store.specs.Turning.{LeadsTurn, Done, FailsOpened, FailsPartly}
use Rattle.queue_store.proofs.Finishing.{done_behind, partly_behind}
use Rattle.queue_store.proofs.Runs.{done, partly}
use Rattle.log_entry.specs.declared.entry.Entry.TheVariants as entries
use Rattle.std.specs.Prelude.{nat_lt}
use Rattle.hub_core.specs.declared.live.TaskName.{TaskName}
use Rattle.hub_core.specs.Standing.{now_of, any_pends}
use Rattle.queue_store.specs.Calls.{after_entries, count_tried, entries_at, entries_all, entries_try, entries_tries, entries_trying, entries_turn, moment_entry, misses, names_waiting, EachTried}

-- one release more was categorised
pub all_more : (setup : Setup) (names : List TaskName) (i : ℕ) (d name : TaskName) (s s' : Standing) (done es whole : List Entry) → i < length names → name ≡ get_or names i d →
    es ≡ entries_at setup s name → s' ≡ after_entries setup s es → done ++ entries_all setup s (drop i names) ≡ whole → (done ++ es) ++ entries_all setup s' (drop (i + 1) names) ≡ whole
all_more setup names i d name s s' done es whole below at is state so_far =
    let left : drop i names ≡ name ∷ drop (i + 1) names = drop_more names i d below ∙ ap (λ n. n ∷ drop (i + 1) names) (sym at) in
    append_assoc done es (entries_all setup s' (drop (i + 1) names))
    ∙ ap (λ st. done ++ (es ++ entries_all setup st (drop (i + 1) names))) state
    ∙ ap (λ (xs : List Entry). done ++ (xs ++ entries_all setup (after_entries setup s xs) (drop (i + 1) names))) is
    ∙ ap (λ ns. done ++ entries_all setup s ns) (sym left) ∙ so_far

-- stopped at a release
pub all_stopped : (setup : Setup) (names : List TaskName) (i : ℕ) (d name : TaskName) (s : Standing) (done es whole : List Entry) → i < length names → name ≡ get_or names i d →
    es ≡ entries_at setup s name → done ++ entries_all setup s (drop i names) ≡ whole → done ++ (es ++ entries_all setup (after_entries setup s es) (drop (i + 1) names)) ≡ whole
all_stopped setup names i d name s done es whole below at is so_far =
    let left : drop i names ≡ name ∷ drop (i + 1) names = drop_more names i d below ∙ ap (λ n. n ∷ drop (i + 1) names) (sym at) in
    ap (λ (xs : List Entry). done ++ (xs ++ entries_all setup (after_entries setup s xs) (drop (i + 1) names))) is
    ∙ ap (λ ns. done ++ entries_all setup s ns) (sym left) ∙ so_far

-- A front of the names was tried: what is left goes on from there.
pub record Tried (setup : Setup) (s : Standing) (names : List ItemName) (puts : List Bool) (done : List Entry) (s' : Standing) (left : List ItemName) : Type 0 where
  pub log : (more : List Bool) → entries_tries setup s names (puts ++ more) ≡ done ++ entries_tries setup s' left more
  pub count : length names ≡ length puts + length left

pub Tried-none : (setup : Setup) (s : Standing) (names : List ItemName) → Tried setup s names [] [] s names
Tried-none setup s names = record { log = λ more. refl; count = omega arith }

pub Tried-more : (setup : Setup) (s : Standing) (names : List ItemName) (puts : List Bool) (done : List Entry) (s' : Standing) (i : ℕ) (d name : ItemName) (put : Bool) (s'' : Standing) →
    i < length names → name ≡ get_or names i d → Tried setup s names puts done s' (drop i names) → s'' ≡ after_entries setup s' (entries_try s' name put) →
    Tried setup s names (puts ++ put ∷ []) (done ++ entries_try s' name put) s'' (drop (i + 1) names)
Tried-more setup s names puts done s' i d name put s'' below is tried state =
    let es = entries_try s' name put in
    let left : drop i names ≡ name ∷ drop (i + 1) names = drop_more names i d below ∙ ap (λ n. n ∷ drop (i + 1) names) (sym is) in
    record {
      log = λ more.
          ap (entries_tries setup s names) (append_assoc puts (put ∷ []) more) ∙ tried.log (put ∷ more)
          ∙ ap (λ ns. done ++ entries_tries setup s' ns (put ∷ more)) left
          ∙ ap (λ st. done ++ (es ++ entries_tries setup st (drop (i + 1) names) more)) (sym state)
          ∙ sym (append_assoc done es (entries_tries setup s'' (drop (i + 1) names) more));
      count = let so_far = tried.count in let one = ap length left in let more = length-append puts (put ∷ []) in omega (arith, so_far, one, more);
    }

pub Tried-all : (setup : Setup) (s : Standing) (names : List ItemName) (puts : List Bool) (done : List Entry) (s' : Standing) (left : List ItemName) →
    left ≡ [] → Tried setup s names puts done s' left → done ≡ entries_tries setup s names puts
Tried-all setup s names puts done s' left none tried =
    sym (tried.log [] ∙ ap (λ ns. done ++ entries_tries setup s' ns []) none ∙ append-nil done) ∙ ap (entries_tries setup s names) (append-nil puts)

-- and each of them had its put
pub Tried-each : (setup : Setup) (s : Standing) (names : List ItemName) (puts : List Bool) (done : List Entry) (s' : Standing) (left : List ItemName) →
    left ≡ [] → Tried setup s names puts done s' left → length puts ≡ length names
Tried-each setup s names puts done s' left none tried = let all = tried.count in let rest = ap length none in omega (arith, all, rest)

tries-end : (setup : Setup) (s : Standing) (names : List ItemName) → entries_tries setup s names [] ≡ []
tries-end setup s [] = refl
tries-end setup s (name ∷ names) = refl

-- stopped at a name, whose put would have been the last
pub Tried-stopped : (setup : Setup) (s : Standing) (names : List ItemName) (puts : List Bool) (done : List Entry) (s' : Standing) (i : ℕ) (d name : ItemName) →
    i < length names → name ≡ get_or names i d → Tried setup s names puts done s' (drop i names) →
    done ++ (entries_try s' name true ++ []) ≡ entries_tries setup s names (puts ++ true ∷ [])
Tried-stopped setup s names puts done s' i d name below is tried =
    let es = entries_try s' name true in
    let left : drop i names ≡ name ∷ drop (i + 1) names = drop_more names i d below ∙ ap (λ n. n ∷ drop (i + 1) names) (sym is) in
    ap (λ (xs : List Entry). done ++ (es ++ xs)) (sym (tries-end setup (after_entries setup s' es) (drop (i + 1) names)))
    ∙ sym (tried.log (true ∷ []) ∙ ap (λ ns. done ++ entries_tries setup s' ns (true ∷ [])) left)

-- a put more: the count of faults rose where it failed
pub misses-more : (puts : List Bool) (put : Bool) (before mid now : ℕ) → RoseBy (misses puts) before mid → mid ≤ now → (put ≡ false → Rose mid now) → RoseBy (misses (puts ++ put ∷ [])) before now
misses-more puts true before mid now so_far later rose =
    let more : misses (puts ++ true ∷ []) ≡ misses puts + 0 = fold-append (λ a x. a + cond (not x) 1 0) 0 puts (true ∷ []) in omega (arith, more, so_far, later)
misses-more puts false before mid now so_far later rose =
    let more : misses (puts ++ false ∷ []) ≡ misses puts + 1 = fold-append (λ a x. a + cond (not x) 1 0) 0 puts (false ∷ []) in omega (arith, more, so_far, rose refl)

pub idle : (waits pend : Bool) → waits ≡ false → pend ≡ false → (waits || pend) ≡ false
idle waits pend first second = ap (λ w. w || pend) first ∙ second

-- a turn's first entry, and then its tries
pub turn-entries : (setup : Setup) (s mid : Standing) (clock moment : ℕ) (puts : List Bool) → (nat_lt 0 (length s.waiting) || any_pends s) ≡ true → moment ≡ now_of s clock →
    mid ≡ after_entries setup s (entries.Moment moment ∷ []) → (entries.Moment moment ∷ []) ++ entries_trying setup mid puts ≡ entries_turn setup s clock puts
turn-entries setup s mid clock moment puts some at state =
    let all = moment_entry s clock ∷ entries_trying setup (state_after setup s (moment_entry s clock)) puts in
    ap (λ st. entries.Moment moment ∷ entries_trying setup st puts) state
    ∙ ap (λ m. entries.Moment m ∷ entries_trying setup (state_after setup s (entries.Moment m)) puts) at
    ∙ sym (ap (λ t. cond t all []) some)

-- counted from an earlier time
pub tried_within : (count : ℕ) (puts : List Bool) (before mid now : ℕ) → before ≤ mid → EachTried count puts mid now → EachTried count puts before now
tried_within count puts before mid now later tried = record { each = tried.each; missed = let rose = tried.missed in omega (arith, rose, later) }

-- of as many items
pub tried_along : (count count' : ℕ) (puts : List Bool) (before now : ℕ) → count ≡ count' → EachTried count puts before now → EachTried count' puts before now
tried_along count count' puts before now same tried = record { each = tried.each ∙ same; missed = tried.missed }

-- and up to a later time
pub tried_until : (count : ℕ) (puts : List Bool) (before mid now : ℕ) → EachTried count puts before mid → mid ≤ now → EachTried count puts before now
tried_until count puts before mid now tried later = record { each = tried.each; missed = let rose = tried.missed in omega (arith, rose, later) }

-- what is tried behind a turn's moment
pub tried-behind : (setup : Setup) (s mid : Standing) (clock moment : ℕ) → (nat_lt 0 (length s.waiting) || any_pends s) ≡ true → moment ≡ now_of s clock →
    mid ≡ after_entries setup s (entries.Moment moment ∷ []) → length (names_waiting mid) ≡ count_tried setup s clock
tried-behind setup s mid clock moment some at state =
    let all = length (names_waiting (state_after setup s (moment_entry s clock))) in
    ap (λ st. length (names_waiting st)) state ∙ ap (λ m. length (names_waiting (state_after setup s (entries.Moment m)))) at ∙ sym (ap (λ t. cond t all 0) some)

-- nothing is tried where nothing waits and no approval pends
pub tried-none : (setup : Setup) (s : Standing) (clock : ℕ) → (nat_lt 0 (length s.waiting) || any_pends s) ≡ false → 0 ≡ count_tried setup s clock
tried-none setup s clock none = sym (ap (λ t. cond t (length (names_waiting (state_after setup s (moment_entry s clock)))) 0) none)

-- the log was opened where it was broken off, and then came a turn
pub leads_turn : {T : Type 0} (setup : Setup) (s0 s1 s2 : State) (hub hub' : Kept) (h t : List Entry) (clock : ℕ) (result : Result T HubFault) (broken : Bool) (m : Mended setup broken s1 hub h t) → s0.shelf_faults ≤ s1.shelf_faults → LeavesOnly s0 s1 (Before setup broken h t) →
    OnOk result ((puts : List Bool) × Turns setup s1 s2 hub' m.kept m.pending (entries_turn setup hub.state clock puts) × EachTried (count_tried setup hub.state clock) puts s1.shelf_faults s2.shelf_faults) →
    IfErr result (λ e. (puts : List Bool) × TurnStops setup s1 s2 hub' m.kept m.pending (entries_turn setup hub.state clock puts) e × RoseBy (misses puts) s1.shelf_faults s2.shelf_faults) →
    LeadsTurn setup broken s0 s2 hub' h t hub.state clock result
leads_turn {T} setup s0 s1 s2 hub hub' h t clock (Ok answer) broken m later first turns stops =
    (turns.0, tried_within _ turns.0 s0.shelf_faults s1.shelf_faults s2.shelf_faults later turns.2, done setup s0 s1 s2 hub hub' h t (entries_turn setup hub.state clock turns.0) broken m first turns.1)
leads_turn {T} setup s0 s1 s2 hub hub' h t clock (Err e) broken m later first turns stops =
    let rose = stops.2 in
    (stops.0, omega (arith, rose, later), partly setup s0 s1 s2 hub hub' h t (entries_turn setup hub.state clock stops.0) e broken m first stops.1)

-- the state behind entries that are pending
pub grown_state : (setup : Setup) (broken : Bool) (s s' : State) (hub : Kept) (h t : List Entry) (mid : Standing) (cs : List Entry) → Grows setup broken s s' hub h t mid cs → hub.state ≡ after_entries setup mid cs
grown_state setup broken s s' hub h t mid cs g =
    g.ready.state ∙ ap (standing setup) (sym (append_assoc g.kept g.pending cs)) ∙ fold-append (state_after setup) (start setup) (g.kept ++ g.pending) cs
    ∙ ap (λ (st : Standing). fold (state_after setup) st cs) (sym g.state)

-- All was categorised, and behind it came a turn.
pub finished : (setup : Setup) (broken : Bool) (s0 s1 s2 : State) (hub hub' : Kept) (h t : List Entry) (mid mid' : Standing) (cs : List Entry) (clock : ℕ) (puts : List Bool) (g : Grows setup broken s0 s1 hub h t mid cs) → mid' ≡ hub.state →
    Done setup hub.broken s1 s2 hub' g.kept (g.pending ++ cs) mid' (entries_turn setup mid' clock puts) → Done setup broken s0 s2 hub' h t mid (cs ++ entries_turn setup (after_entries setup mid cs) clock puts)
finished setup broken s0 s1 s2 hub hub' h t mid mid' cs clock puts g is turned =
    let same : mid' ≡ after_entries setup mid cs = is ∙ grown_state setup broken s0 s1 hub h t mid cs g in
    let done = subst (λ (b : Bool). Done setup b s1 s2 hub' g.kept (g.pending ++ cs) mid' (entries_turn setup mid' clock puts)) g.ready.whole turned in
    subst (λ (m : Standing). Done setup broken s0 s2 hub' h t mid (cs ++ entries_turn setup m clock puts)) same (done_behind setup broken s0 s1 s2 hub hub' h t mid mid' cs (entries_turn setup mid' clock puts) g done)

-- The turn failed.
pub unfinished : (setup : Setup) (broken : Bool) (s0 s1 s2 : State) (hub hub' : Kept) (h t : List Entry) (mid mid' : Standing) (cs : List Entry) (clock : ℕ) (puts : List Bool) (fault : HubFault) (g : Grows setup broken s0 s1 hub h t mid cs) →
    mid' ≡ hub.state → FailsPartly setup hub.broken s1 s2 hub' g.kept (g.pending ++ cs) mid' (entries_turn setup mid' clock puts) fault → FailsOpened setup broken s0 s2 hub' h t mid (cs ++ entries_turn setup (after_entries setup mid cs) clock puts) fault
unfinished setup broken s0 s1 s2 hub hub' h t mid mid' cs clock puts fault g is turned =
    let same : mid' ≡ after_entries setup mid cs = is ∙ grown_state setup broken s0 s1 hub h t mid cs g in
    let ts = entries_turn setup mid' clock puts in
    let fails = subst (λ (b : Bool). FailsPartly setup b s1 s2 hub' g.kept (g.pending ++ cs) mid' ts fault) g.ready.whole turned in
    subst (λ (m : Standing). FailsOpened setup broken s0 s2 hub' h t mid (cs ++ entries_turn setup m clock puts) fault) same (partly_behind setup broken s0 s1 s2 hub hub' h t mid mid' cs ts fault g fails)
