-- How a run of calls goes on.
use Rattle.std.proofs.Common.{inl, inr, ⊎_elim, Bool, IsTrue, arith, refl, sym, ◌∙◌, ap, subst}
use Rattle.plant_dev.specs.Disk.{State, Image, images, Elapses, LeavesOnly, Stays, Reads, Durable}

-- before the first call
pub started : (s : State) (P : Image → Type 0) → ((c : Image) → images s c → P c) → LeavesOnly s s P
started s P here = record { later = omega arith; each = here; now = here; before = λ t c le left. inl left }

-- one call more, after which an image has P
pub goes_on : (old mid after : State) (P : Image → Type 0) → LeavesOnly old mid P → Elapses mid after → ((c : Image) → images after c → P c) → LeavesOnly old after P
goes_on old mid after P so_far time here = record {
  later = omega (arith, so_far.later, time.later);
  each = λ c left. ⊎_elim (so_far.each c) (here c) (time.nothing_else old.moment c so_far.later left);
  now = here;
  before = λ t c le left. ⊎_elim (so_far.before t c le) (λ now. inr (here c now)) (time.nothing_else t c (omega (arith, le, so_far.later)) left);
}

-- one run behind another
pub joins : (old mid after : State) (P : Image → Type 0) → LeavesOnly old mid P → LeavesOnly mid after P → LeavesOnly old after P
joins old mid after P first second = record {
  later = omega (arith, first.later, second.later);
  each = λ c left. ⊎_elim (first.each c) (λ p. p) (second.before old.moment c first.later left);
  now = second.now;
  before = λ t c le left. ⊎_elim (first.before t c le) (λ p. inr p) (second.before t c (omega (arith, le, first.later)) left);
}

pub weakens : (old after : State) (P Q : Image → Type 0) → ((c : Image) → P c → Q c) → LeavesOnly old after P → LeavesOnly old after Q
weakens old after P Q to run = record {
  later = run.later;
  each = λ c left. to c (run.each c left);
  now = λ c at. to c (run.now c at);
  before = λ t c le left. ⊎_elim (λ l. inl l) (λ p. inr (to c p)) (run.before t c le left);
}

pub stays_honest : (old after : State) → Stays old after → IsTrue old.honest → IsTrue after.honest
stays_honest old after stays honest = subst (λ (b : Bool). IsTrue b) (sym stays.honest) honest

-- a call that leaves what is read
pub reads_on : (old mid after : State) (P : Image → Type 0) → LeavesOnly old mid P → Reads mid after → LeavesOnly old after P
reads_on old mid after P run reads = record {
  later = omega (arith, run.later, reads.later);
  each = λ c left. run.each c (reads.nothing_new old.moment c run.later left);
  now = λ c at. run.now c (reads.crash c at);
  before = λ t c le left. run.before t c le (reads.nothing_new t c (omega (arith, le, run.later)) left);
}

pub reads_not : (s : State) → Reads s s
reads_not s = record { image = refl; crash = λ c left. left; later = omega arith; nothing_new = λ t c le left. left; keeps = λ t c le left. left }

pub reads_more : (old mid after : State) → Reads old mid → Reads mid after → Reads old after
reads_more old mid after first second = record {
  image = second.image ∙ first.image;
  crash = λ c left. first.crash c (second.crash c left);
  later = omega (arith, first.later, second.later);
  nothing_new = λ t c le left. first.nothing_new t c le (second.nothing_new t c (omega (arith, le, first.later)) left);
  keeps = λ t c le left. second.keeps t c (omega (arith, le, first.later)) (first.keeps t c le left);
}

pub stays_not : (s : State) → Stays s s
stays_not s = record { honest = refl; disk_faults = omega arith; shelf_faults = omega arith }

pub stays_more : (old mid after : State) → Stays old mid → Stays mid after → Stays old after
stays_more old mid after first second = record {
  honest = second.honest ∙ first.honest;
  disk_faults = omega (arith, first.disk_faults, second.disk_faults);
  shelf_faults = omega (arith, first.shelf_faults, second.shelf_faults);
}

pub durable_reads : (old after : State) → Durable old → Reads old after → Durable after
durable_reads old after durable reads c left = durable c (reads.crash c left) ∙ sym (ap (λ (i : Image). i.file) reads.image)
