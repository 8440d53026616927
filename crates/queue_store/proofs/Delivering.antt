-- Deliveries that are pending, and puts behind them.
use Rattle.std.proofs.Common.{◌≡◌, inl, inr, ℕ, Bool, true, false, List, [], ◌∷◌, ◌++◌, Option, Some, None, Result, ap, ◌∙◌, sym, subst, append_assoc, append-nil}
use Rattle.std.specs.Prelude.{fold, find}
use Rattle.std.specs.List.{AllByRecursion}
use Rattle.std.proofs.lemmas.Grind.{fold-append}
use Rattle.mail_names.specs.declared.name.ItemName.{ItemName}
use Rattle.log_entry.specs.declared.entry.Entry.{Entry}
use Rattle.log_entry.specs.declared.entry.Entry.TheVariants as entries
use Rattle.plant_dev.specs.declared.plant.Stored.{Stored}
use Rattle.plant_dev.specs.declared.plant.ShelfFault.{ShelfFault}
use Rattle.plant_dev.specs.Disk.{State, images, Stays, Shelves, LeavesOnly}
use Rattle.plant_dev.specs.Shelf.{PutBy, Puts}
use Rattle.plant_dev.proofs.Offered.{started, goes_on, joins, stays_honest}
use Rattle.queue_disk.specs.View.{LogView}
use Rattle.queue_disk.specs.Log.{Shut, Staged, log_of, payloads, staged, IsOpen}
use Rattle.hub_core.specs.declared.queue.QueuedItem.{QueuedItem}
use Rattle.hub_core.specs.Setup.{Setup}
use Rattle.hub_core.specs.declared.waiting.WaitingItem.{WaitingItem}
use Rattle.hub_core.specs.Waiting.{is_named}
use Rattle.hub_core.specs.Standing.{Standing, start, standing, state_after, told_by, is_lawful}
use Rattle.hub_core.specs.Items.{past, past_after, no_past, items_of, notices_from, items, Among}
use Rattle.hub_core.proofs.Offered.{found_named, older, prescribed}
use Rattle.queue_store.specs.declared.fault.HubFault.{HubFault}
use Rattle.queue_store.specs.Stands.{Stands, stored_of}
use Rattle.queue_store.specs.Ready.{Kept, IsReady, Follows, Adds, FailsBy, EachHas}
use Rattle.queue_store.specs.Calls.{IsDelivery, entries_put, entries_try}
use Rattle.queue_store.proofs.Growing.{shelf-put-by, has-put}
use Rattle.queue_store.proofs.Settling.{stands_now}

-- Deliveries prescribe no item.
notices-push : (setup : Setup) (s : Standing) (h : List Entry) (e : Entry) → notices_from setup s (h ++ e ∷ []) ≡ notices_from setup s h ++ told_by setup (fold (state_after setup) s h) e
notices-push setup s [] e = append-nil (told_by setup s e)
notices-push setup s (x ∷ h) e =
    ap (λ (rest : List QueuedItem). told_by setup s x ++ rest) (notices-push setup (state_after setup s x) h e)
    ∙ sym (append_assoc (told_by setup s x) (notices_from setup (state_after setup s x) h) (told_by setup (fold (state_after setup) (state_after setup s x) h) e))

items-delivered : (setup : Setup) (h : List Entry) (name : ItemName) → items setup (h ++ entries.Delivered name ∷ []) ≡ items setup h
items-delivered setup h name =
    let same : past setup (h ++ entries.Delivered name ∷ []) ≡ past setup h = fold-append (past_after setup) no_past h (entries.Delivered name ∷ []) in
    let told : notices_from setup (start setup) (h ++ entries.Delivered name ∷ []) ≡ notices_from setup (start setup) h =
    notices-push setup (start setup) h (entries.Delivered name) ∙ append-nil (notices_from setup (start setup) h) in
    λ i. items_of setup 1 (same i).accepted ++ told i

pub items-deliveries : (setup : Setup) (h t : List Entry) → AllByRecursion IsDelivery t → items setup (h ++ t) ≡ items setup h
items-deliveries setup h [] all = ap (items setup) (append-nil h)
items-deliveries setup h (entries.Delivered name ∷ t) all =
    ap (items setup) (sym (append_assoc h (entries.Delivered name ∷ []) t)) ∙ items-deliveries setup (h ++ entries.Delivered name ∷ []) t all.1 ∙ items-delivered setup h name
items-deliveries setup h (entries.Organised directory rules ∷ t) all = absurd all.0
items-deliveries setup h (entries.Accepted moment submission ∷ t) all = absurd all.0
items-deliveries setup h (entries.Categorised number release plan ∷ t) all = absurd all.0
items-deliveries setup h (entries.Decided name by verdict moment ∷ t) all = absurd all.0
items-deliveries setup h (entries.Moment moment ∷ t) all = absurd all.0
items-deliveries setup h (entries.Delayed name ∷ t) all = absurd all.0
items-deliveries setup h (entries.Ended name ∷ t) all = absurd all.0
items-deliveries setup h (entries.Forgot number ∷ t) all = absurd all.0

among_all : (setup : Setup) (h t : List Entry) (x : QueuedItem) → Among x (items setup h) → Among x (items setup (h ++ t))
among_all setup h [] x among = subst (λ (g : List Entry). Among x (items setup g)) (sym (append-nil h)) among
among_all setup h (e ∷ t) x among = subst (λ (g : List Entry). Among x (items setup g)) (append_assoc h (e ∷ []) t) (among_all setup (h ++ e ∷ []) t x (older setup h e x among))

put_deliveries : (name : ItemName) (item : Option WaitingItem) (put : Bool) → AllByRecursion IsDelivery (entries_put name item put)
put_deliveries name None put = tt
put_deliveries name (Some item) true = (tt, tt)
put_deliveries name (Some item) false = tt

pub try_deliveries : (s : Standing) (name : ItemName) (put : Bool) → AllByRecursion IsDelivery (entries_try s name put)
try_deliveries s name put = put_deliveries name (find (is_named name) s.waiting) put

pub deliveries_both : (xs ys : List Entry) → AllByRecursion IsDelivery xs → AllByRecursion IsDelivery ys → AllByRecursion IsDelivery (xs ++ ys)
deliveries_both [] ys each more = more
deliveries_both (x ∷ xs) ys each more = (each.0, deliveries_both xs ys each.1 more)

open_put : (step : List Stored → List Stored → Type 0) (s s' : State) (log : LogView) (h t : List Entry) → Shelves step s s' → IsOpen s log h t → IsOpen s' log h t
open_put step s s' log h t puts was = record {
  entries = was.entries;
  more = was.more;
  file = subst (λ (f : List ℕ). Staged (log_of h) (staged (payloads t)) f) (sym puts.image.file) was.file;
  closed = λ c left. (let (d, old, moved) = puts.crash c left in subst (λ (f : List ℕ). Shut (log_of h) f) (sym moved.file) (was.closed d old));
  pending = was.pending;
  at = was.at;
}

-- a prescribed item was put, or wasn't
pub ready-put : (setup : Setup) (result : Result (Unit {0}) ShelfFault) (s s' : State) (hub : Kept) (h t : List Entry) (item : QueuedItem) → IsReady setup s hub h t → Among item (items setup h) → Stays s s' →
    Shelves (PutBy result (stored_of item)) s s' → images s' s'.image → IsReady setup s' hub h t
ready-put setup result s s' hub h t item ready among stays puts image = record {
  honest = stays_honest s s' stays ready.honest;
  whole = ready.whole;
  state = ready.state;
  most = ready.most;
  log = open_put (PutBy result (stored_of item)) s s' hub.log h t puts ready.log;
  now = λ c left. (let (d, was, moved) = puts.crash c left in shelf-put-by setup result h item d.shelf c.shelf (ready.now d was) among moved.shelf);
  then = λ c left. (let (d, was, moved) = puts.crash c left in shelf-put-by setup result (h ++ t) item d.shelf c.shelf (ready.then d was) (among_all setup h t item among) moved.shelf);
  image = image;
}

-- and at each moment
pub put-moments : (setup : Setup) (result : Result (Unit {0}) ShelfFault) (s s' : State) (hub : Kept) (h t : List Entry) (item : QueuedItem) → IsReady setup s hub h t → IsReady setup s' hub h t →
    Shelves (PutBy result (stored_of item)) s s' → LeavesOnly s s' (λ c. Stands setup c h)
put-moments setup result s s' hub h t item ready ready' puts =
    goes_on s s s' (λ c. Stands setup c h) (started s (λ c. Stands setup c h) (stands_now setup s hub h t ready)) puts.time (stands_now setup s' hub h t ready')

-- after a put that succeeded each image has the item
pub each-put : (s s' : State) (item : Stored) → Shelves (Puts item) s s' → EachHas item.folder item.name s'
each-put s s' item puts c left = (let (d, was, moved) = puts.crash c left in has-put item d.shelf c.shelf moved.shelf)

-- an item that is found waits, and is prescribed by what is settled
pub found_prescribed : (setup : Setup) (s : State) (hub : Kept) (h t : List Entry) (name : ItemName) (w : WaitingItem) → AllByRecursion IsDelivery t → IsReady setup s hub h t →
    find (is_named name) hub.state.waiting ≡ Some w → Among w.item (items setup h) × (w.item.name ≡ name)
found_prescribed setup s hub h t name w all ready found =
    let f = found_named name (standing setup (h ++ t)).waiting w (ap (λ (st : Standing). find (is_named name) st.waiting) (sym ready.state) ∙ found) in
    let there = prescribed setup (h ++ t) (ready.then s.image ready.image).history w.item f.0 in
    (subst (λ (xs : List QueuedItem). Among w.item xs) (items-deliveries setup h t all) there, f.1)

-- the delivery of an item that each image has can be told
pub delivered_follows : (setup : Setup) (s : State) (hub : Kept) (h t : List Entry) (name : ItemName) (item : QueuedItem) → IsReady setup s hub h t → Among item (items setup h) → item.name ≡ name →
    is_lawful setup hub.state (entries.Delivered name) ≡ true → EachHas item.folder item.name s → Follows setup s (h ++ t) (entries.Delivered name)
delivered_follows setup s hub h t name item ready among named lawful there = record {
  step = (ap (λ (st : Standing). is_lawful setup st (entries.Delivered name)) (sym ready.state) ∙ lawful, tt);
  told = λ c left. record { item = item; among = among_all setup h t item among; named = named; there = there c left };
}

-- a call behind a put
pub adds_behind : (setup : Setup) (s0 s1 s2 : State) (hub : Kept) (h t es : List Entry) → LeavesOnly s0 s1 (λ c. Stands setup c h) → Adds setup s1 s2 hub h t es → Adds setup s0 s2 hub h t es
adds_behind setup s0 s1 s2 hub h t es first adds = record { ready = adds.ready; fits = adds.fits; moments = joins s0 s1 s2 (λ c. Stands setup c h) first adds.moments }

pub fails_behind : (setup : Setup) (s0 s1 s2 : State) (hub : Kept) (h t : List Entry) (Why : HubFault → Type 0) (e : HubFault) → LeavesOnly s0 s1 (λ c. Stands setup c h) → FailsBy setup s1 s2 hub h t Why e → FailsBy setup s0 s2 hub h t Why e
fails_behind setup s0 s1 s2 hub h t Why e first (inl (disk, breaks)) = inl (disk, record { broken = breaks.broken; moments = joins s0 s1 s2 (λ c. Stands setup c h) first breaks.moments })
fails_behind setup s0 s1 s2 hub h t Why e first (inr declined) = inr (record { ready = declined.ready; why = declined.why; moments = joins s0 s1 s2 (λ c. Stands setup c h) first declined.moments })
