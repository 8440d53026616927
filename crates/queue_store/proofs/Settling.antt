-- What a hub stands for over calls that add entries, settle them, or open the log.
use Rattle.std.proofs.Common.{◌≡◌, inl, inr, ℕ, IsTrue, true, false, List, [], ◌∷◌, ◌++◌, length, refl, ap, ◌∙◌, sym, subst, arith, append_assoc, append-nil}
use Rattle.log_entry.specs.declared.entry.Entry.{Entry}
use Rattle.plant_dev.specs.declared.plant.Stored.{Stored}
use Rattle.plant_dev.specs.Disk.{State, Image, images, OnFile, From, Follows as Comes, LeavesOnly, Durable}
use Rattle.plant_dev.proofs.Offered.{started, weakens}
use Rattle.queue_disk.specs.Log.{FileOf, LogOf, log_of, AllOrNone, KeepsEntries, IsOpen}
use Rattle.queue_disk.proofs.Offered.{file_of}
use Rattle.hub_core.specs.Setup.{Setup}
use Rattle.hub_core.specs.Standing.{Standing, standing, state_after}
use Rattle.hub_core.proofs.Offered.{standing-push}
use Rattle.queue_store.specs.Stands.{Stands, MayStand, Settled, IsShelfOf, IsOneOf}
use Rattle.queue_store.specs.Ready.{Kept, IsReady, IsBroken, HubStands, IsOpened, Breaks, Follows}
use Rattle.queue_store.proofs.Growing.{shelf-push}

-- each image stands for what is settled
pub stands_now : (setup : Setup) (s : State) (hub : Kept) (h t : List Entry) → IsReady setup s hub h t → (c : Image) → images s c → Stands setup c h
stands_now setup s hub h t ready c left = record { file = file_of s hub.log h t ready.log c left; shelf = ready.now c left }

pub still : (setup : Setup) (s : State) (hub : Kept) (h t : List Entry) → IsReady setup s hub h t → LeavesOnly s s (λ c. Stands setup c h)
still setup s hub h t ready = started s (λ c. Stands setup c h) (stands_now setup s hub h t ready)

-- an image with another file
stands_with : (setup : Setup) (h : List Entry) (d c : Image) → IsShelfOf setup h d.shelf → c.shelf ≡ d.shelf → FileOf c.file h → Stands setup c h
stands_with setup h d c shelf same file = record { file = file; shelf = subst (λ (sh : List Stored). IsShelfOf setup h sh) (sym same) shelf }

pub add_moments : (setup : Setup) (s0 s1 : State) (hub : Kept) (h t : List Entry) → IsReady setup s0 hub h t → LeavesOnly s0 s1 (From s0 (OnFile (λ _ file. FileOf file h))) → LeavesOnly s0 s1 (λ c. Stands setup c h)
add_moments setup s0 s1 hub h t ready run =
    weakens s0 s1 _ (λ c. Stands setup c h) (λ c (d, was, step). stands_with setup h d c (ready.now d was) step.shelf step.file) run

-- one entry more is pending
pub ready_added : (setup : Setup) (s0 s1 : State) (hub hub' : Kept) (h t : List Entry) (e : Entry) → IsReady setup s0 hub h t → IsTrue s1.honest → hub'.broken ≡ false → hub'.state ≡ state_after setup hub.state e →
    hub'.log.most ≡ hub.log.most → IsOpen s1 hub'.log h (t ++ e ∷ []) → images s1 s1.image → Follows setup s0 (h ++ t) e → LeavesOnly s0 s1 (From s0 (OnFile (λ _ file. FileOf file h))) →
    IsReady setup s1 hub' h (t ++ e ∷ [])
ready_added setup s0 s1 hub hub' h t e ready honest whole state most log image follows run = record {
  honest = honest;
  whole = whole;
  state = state ∙ ap (λ (s : Standing). state_after setup s e) ready.state ∙ sym (standing-push setup (h ++ t) e) ∙ ap (standing setup) (append_assoc h t (e ∷ []));
  most = most ∙ ready.most;
  log = log;
  now = λ c left. (let (d, was, step) = run.now c left in subst (λ (sh : List Stored). IsShelfOf setup h sh) (sym step.shelf) (ready.now d was));
  then = λ c left. (let (d, was, step) = run.now c left in
      subst (λ (g : List Entry). IsShelfOf setup g c.shelf) (append_assoc h t (e ∷ []))
      (subst (λ (sh : List Stored). IsShelfOf setup ((h ++ t) ++ e ∷ []) sh) (sym step.shelf) (shelf-push setup (h ++ t) e d.shelf (ready.then d was) follows.step (follows.told d was))));
  image = image;
}

-- a fault while an entry is added
pub broken_adding : (setup : Setup) (s0 s1 : State) (hub hub' : Kept) (h t : List Entry) → IsReady setup s0 hub h t → IsTrue s1.honest → hub'.broken ≡ true → hub'.state.limits ≡ setup.limits →
    LeavesOnly s0 s1 (From s0 (OnFile (λ _ file. FileOf file h))) → Breaks setup s0 s1 hub' h
broken_adding setup s0 s1 hub hub' h t ready honest broken limits run =
    let moments = add_moments setup s0 s1 hub h t ready run in
    record { broken = record { honest = honest; broken = broken; limits = limits; settled = λ c left. inl (moments.now c left) }; moments = moments }

may_stand : (setup : Setup) (s : State) (hub : Kept) (h t : List Entry) → IsReady setup s hub h t → (d c : Image) → images s d → c.shelf ≡ d.shelf → AllOrNone h t c.file → MayStand setup h t c
may_stand setup s hub h t ready d c was same (inl file) = inl (stands_with setup h d c (ready.now d was) same file)
may_stand setup s hub h t ready d c was same (inr file) = inr (stands_with setup (h ++ t) d c (ready.then d was) same file)

pub settle_moments : (setup : Setup) (s0 s1 : State) (hub : Kept) (h t : List Entry) → IsReady setup s0 hub h t → LeavesOnly s0 s1 (From s0 (OnFile (λ _ file. AllOrNone h t file))) → LeavesOnly s0 s1 (MayStand setup h t)
settle_moments setup s0 s1 hub h t ready run =
    weakens s0 s1 _ (MayStand setup h t) (λ c (d, was, step). may_stand setup s0 hub h t ready d c was step.shelf step.file) run

-- all that was pending is settled
pub ready_settled : (setup : Setup) (s0 s1 : State) (hub hub' : Kept) (h t : List Entry) → IsReady setup s0 hub h t → IsTrue s1.honest → hub'.broken ≡ false → hub'.state ≡ hub.state → hub'.log.most ≡ hub.log.most →
    IsOpen s1 hub'.log (h ++ t) [] → images s1 s1.image → LeavesOnly s0 s1 (From s0 (OnFile (λ _ file. AllOrNone h t file))) → IsReady setup s1 hub' (h ++ t) []
ready_settled setup s0 s1 hub hub' h t ready honest whole state most log image run = record {
  honest = honest;
  whole = whole;
  state = state ∙ ready.state ∙ ap (standing setup) (sym (append-nil (h ++ t)));
  most = most ∙ ready.most;
  log = log;
  now = λ c left. (let (d, was, step) = run.now c left in subst (λ (sh : List Stored). IsShelfOf setup (h ++ t) sh) (sym step.shelf) (ready.then d was));
  then = λ c left. (let (d, was, step) = run.now c left in
      subst (λ (g : List Entry). IsShelfOf setup g c.shelf) (sym (append-nil (h ++ t))) (subst (λ (sh : List Stored). IsShelfOf setup (h ++ t) sh) (sym step.shelf) (ready.then d was)));
  image = image;
}

-- a fault while what is pending is settled
pub broken_settling : (setup : Setup) (s0 s1 : State) (hub hub' : Kept) (h t : List Entry) → IsReady setup s0 hub h t → IsTrue s1.honest → hub'.broken ≡ true → hub'.state.limits ≡ setup.limits →
    LeavesOnly s0 s1 (From s0 (OnFile (λ _ file. AllOrNone h t file))) → IsBroken setup s1 hub' h t
broken_settling setup s0 s1 hub hub' h t ready honest broken limits run =
    let moments = settle_moments setup s0 s1 hub h t ready run in
    record { honest = honest; broken = broken; limits = limits; settled = moments.now }

-- each image of a hub that stands for a history, at this moment
pub may_now : (setup : Setup) (s : State) (hub : Kept) (h t : List Entry) → HubStands setup s hub h t → (c : Image) → images s c → MayStand setup h t c
may_now setup s hub h t (inl ready) c left = inl (stands_now setup s hub h t ready c left)
may_now setup s hub h t (inr broken) c left = broken.settled c left

pub untouched : (setup : Setup) (s : State) (hub : Kept) (h t : List Entry) → HubStands setup s hub h t → LeavesOnly s s (MayStand setup h t)
untouched setup s hub h t stands = started s (MayStand setup h t) (may_now setup s hub h t stands)

-- which of the two histories an image stands for
pub pick : (setup : Setup) (h t : List Entry) (d : Image) → MayStand setup h t d → (k : List Entry) × Stands setup d k × IsOneOf h t k
pick setup h t d (inl stands) = (h, stands, inl refl)
pick setup h t d (inr stands) = (h ++ t, stands, inr refl)

-- while a log is opened, each image stands for what it stood for
kept_may : (setup : Setup) (h t : List Entry) (d c : Image) → OnFile KeepsEntries d c → MayStand setup h t d → MayStand setup h t c
kept_may setup h t d c step (inl stands) = inl (stands_with setup h d c stands.shelf step.shelf (step.file h stands.file))
kept_may setup h t d c step (inr stands) = inr (stands_with setup (h ++ t) d c stands.shelf step.shelf (step.file (h ++ t) stands.file))

pub open_moments : (setup : Setup) (s0 s1 : State) (h t : List Entry) → Settled setup s0 h t → LeavesOnly s0 s1 (From s0 (OnFile KeepsEntries)) → LeavesOnly s0 s1 (MayStand setup h t)
open_moments setup s0 s1 h t settled run = weakens s0 s1 _ (MayStand setup h t) (λ c (d, was, step). kept_may setup h t d c step (settled d was)) run

-- Each image behind the opening stands for the history that was read.
pub opened_stands : (setup : Setup) (s0 s1 : State) (h t found : List Entry) → Settled setup s0 h t → ((k : List Entry) → FileOf s0.image.file k → LogOf s1.image.file k) → ((k : List Entry) → LogOf s1.image.file k → k ≡ found) →
    Comes (λ d c. (d.file ≡ s0.image.file) × (c.shelf ≡ d.shelf)) s0 s1 → Durable s1 → (c : Image) → images s1 c → Stands setup c found
opened_stands setup s0 s1 h t found settled stands one kept durable c left =
    let (d, was, (file, shelf)) = kept c left in
    let (k, stood, which) = pick setup h t d (settled d was) in
    let log = stands k (subst (λ (f : List ℕ). FileOf f k) file stood.file) in
    let here = stands_with setup k d c stood.shelf shelf (inr (subst (λ (f : List ℕ). LogOf f k) (sym (durable c left)) log)) in
    subst (λ (g : List Entry). Stands setup c g) (one k log) here

pub opened_ready : (setup : Setup) (s : State) (hub : Kept) (found : List Entry) → IsTrue s.honest → hub.broken ≡ false → hub.state ≡ standing setup found → hub.log.most ≡ setup.limits.log → hub.log.pending ≡ 0 →
    hub.log.place ≡ length (log_of found) → LogOf s.image.file found → Durable s → images s s.image → ((c : Image) → images s c → Stands setup c found) → IsReady setup s hub found []
opened_ready setup s hub found honest whole state most none place log durable image each = record {
  honest = honest;
  whole = whole;
  state = state ∙ ap (standing setup) (sym (append-nil found));
  most = most;
  log = record {
    entries = log.entries;
    more = tt;
    file = record { gate = log.text.gate; rest = log.text.rest; text = log.text.text; shut = log.text.shut };
    closed = λ c left. (subst (λ (f : List ℕ). LogOf f found) (sym (durable c left)) log).text;
    pending = none;
    at = omega (arith, place, none);
  };
  now = λ c left. (each c left).shelf;
  then = λ c left. subst (λ (g : List Entry). IsShelfOf setup g c.shelf) (sym (append-nil found)) (each c left).shelf;
  image = image;
}

-- one of the two histories was read
pub opened_one : (h t k : List Entry) → IsOneOf h t k → IsOpened true h t k []
opened_one h t k one = (one, refl)

-- by whether the log is broken off
pub is_ready : (setup : Setup) (s : State) (hub : Kept) (h t : List Entry) → HubStands setup s hub h t → hub.broken ≡ false → IsReady setup s hub h t
is_ready setup s hub h t (inl ready) whole = ready
is_ready setup s hub h t (inr broken) whole = (let both : true ≡ false = sym broken.broken ∙ whole in absurd (cc both))

pub is_broken : (setup : Setup) (s : State) (hub : Kept) (h t : List Entry) → HubStands setup s hub h t → hub.broken ≡ true → IsBroken setup s hub h t
is_broken setup s hub h t (inl ready) broken = (let both : true ≡ false = sym broken ∙ ready.whole in absurd (cc both))
is_broken setup s hub h t (inr broken) is = broken
