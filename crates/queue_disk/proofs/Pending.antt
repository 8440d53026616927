-- Entries that are pending behind a closed gate.
use Rattle.std.proofs.Common.{◌≡◌, ◌⊎◌, inl, inr, ℕ, ◌+◌, ◌<◌, List, [], ◌∷◌, ◌++◌, length, drop, refl, sym, ◌∙◌, ap, subst, arith, append_assoc, append-nil, length-append}
use Rattle.std.specs.Prelude.{codes}
use Rattle.std.specs.List.{AllByRecursion}
use Rattle.std.proofs.lemmas.List.{map-append}
use Rattle.plant_dev.specs.Disk.{State, Image, images, Torn, Holds, OnFile, Writes, LeavesOnly, From, Durable}
use Rattle.plant_dev.proofs.Offered.{started, goes_on, joins, weakens}
use Rattle.log_entry.specs.declared.entry.Entry.{Entry}
use Rattle.log_entry.specs.Entries.{IsEntry}
use Rattle.log_entry.specs.EntryText.{le64, entry_text}
use Rattle.log_entry.proofs.Offered.{length-le64}
use Rattle.queue_disk.specs.View.{LogView}
use Rattle.queue_disk.specs.Log.{records, log_text, payloads, log_of, frame, Frames, gate_left_out, beyond, staged, Shut, Staged, Opened, LogOf, FileOf, IsOpen, AllOrNone}
use Rattle.queue_disk.proofs.Entries.{records-push, payloads-push, all-push}
use Rattle.queue_disk.proofs.Gate.{kept_shut, written}

pub records-append : (ps qs : List (List ℕ)) → records (ps ++ qs) ≡ records ps ++ records qs
records-append [] qs = refl
records-append (p ∷ ps) qs =
    ap (λ (l : List ℕ). 1 ∷ (le64 (length p) ++ (p ++ l))) (records-append ps qs)
    ∙ ap (λ (l : List ℕ). 1 ∷ (le64 (length p) ++ l)) (sym (append_assoc p (records ps) (records qs)))
    ∙ ap (λ (l : List ℕ). 1 ∷ l) (sym (append_assoc (le64 (length p)) (p ++ records ps) (records qs)))

pub log_of-append : (h t : List Entry) → log_of (h ++ t) ≡ log_of h ++ records (payloads t)
log_of-append h t =
    ap log_text (map-append entry_text h t) ∙ ap (λ (l : List ℕ). codes "MAILHUB1" ++ l) (records-append (payloads h) (payloads t))
    ∙ sym (append_assoc (codes "MAILHUB1") (records (payloads h)) (records (payloads t)))

pub all-append : {X : Type 0} (P : X → Type 0) (xs ys : List X) → AllByRecursion P xs → AllByRecursion P ys → AllByRecursion P (xs ++ ys)
all-append P [] ys each more = more
all-append P (x ∷ xs) ys each more = (each.0, all-append P xs ys each.1 more)

-- what is pending is its records without the first gate, and a closed gate
staged_beyond : (p : List ℕ) (ps : List (List ℕ)) → staged (p ∷ ps) ≡ beyond (p ∷ ps) ++ 0 ∷ []
staged_beyond p ps =
    ap (λ (l : List ℕ). le64 (length p) ++ l) (sym (append_assoc p (records ps) (0 ∷ []))) ∙ sym (append_assoc (le64 (length p)) (p ++ records ps) (0 ∷ []))

-- one more
pub staged-push : (ps : List (List ℕ)) (q : List ℕ) → staged (ps ++ q ∷ []) ≡ beyond ps ++ drop (gate_left_out (length (records ps))) (frame q)
staged-push [] q = refl
staged-push (p ∷ ps) q =
    let last : records (ps ++ q ∷ []) ++ 0 ∷ [] ≡ records ps ++ frame q =
    ap (λ (l : List ℕ). l ++ 0 ∷ []) (records-push ps q) ∙ append_assoc (records ps) (1 ∷ (le64 (length q) ++ q)) (0 ∷ [])
    ∙ ap (λ (l : List ℕ). records ps ++ 1 ∷ l) (append_assoc (le64 (length q)) q (0 ∷ [])) in
    ap (λ (l : List ℕ). le64 (length p) ++ (p ++ l)) last ∙ ap (λ (l : List ℕ). le64 (length p) ++ l) (sym (append_assoc p (records ps) (frame q)))
    ∙ sym (append_assoc (le64 (length p)) (p ++ records ps) (frame q))

pub length-beyond : (ps : List (List ℕ)) → length (records ps) + gate_left_out (length (records ps)) ≡ 1 + length (beyond ps)
length-beyond [] = refl
length-beyond (p ∷ ps) = omega arith

pub length-frame : (payload : List ℕ) → length (frame payload) ≡ length payload + 10
length-frame payload = omega (arith, length-append (le64 (length payload)) (payload ++ 0 ∷ []), length-append payload (0 ∷ []), length-le64 (length payload))

pub length-records-push : (ps : List (List ℕ)) (q : List ℕ) → length (records (ps ++ q ∷ [])) ≡ length (records ps) + length q + 9
length-records-push ps q =
    omega (arith, ap length (records-push ps q), length-append (records ps) (1 ∷ (le64 (length q) ++ q)), length-append (le64 (length q)) q, length-le64 (length q))

-- what stands behind the closed gate, up to the last gate
front_part : (front : List ℕ) (ps : List (List ℕ)) (file : List ℕ) (s : Staged front (staged ps) file) → (rest : List ℕ) × (file ≡ front ++ s.gate ∷ (beyond ps ++ rest))
front_part front [] file s = (s.rest, s.text)
front_part front (p ∷ ps) file s = (
  0 ∷ s.rest,
  s.text ∙ ap (λ (l : List ℕ). front ++ s.gate ∷ l) (ap (λ (l : List ℕ). l ++ s.rest) (staged_beyond p ps) ∙ append_assoc (beyond (p ∷ ps)) (0 ∷ []) s.rest),
)

-- a record more was written
pub staged_more : (front : List ℕ) (ps : List (List ℕ)) (q bytes file c : List ℕ) (at : ℕ) → Staged front (staged ps) file → at ≡ length front + length (records ps) + gate_left_out (length (records ps)) →
    bytes ≡ drop (gate_left_out (length (records ps))) (frame q) → Torn at (length bytes) file c → Holds at bytes c → Staged front (staged (ps ++ q ∷ [])) c
staged_more front ps q bytes file c at s here is torn holds =
    let (rest, text) = front_part front ps file s in
    let more = drop (length bytes) (drop at c) in
    let put = written front (beyond ps) rest bytes file c s.gate at text (omega (arith, here, length-beyond ps)) torn holds in
    record {
      gate = s.gate;
      rest = more;
      text = put ∙ ap (λ (l : List ℕ). front ++ s.gate ∷ (l ++ more)) (ap (λ (l : List ℕ). beyond ps ++ l) is ∙ sym (staged-push ps q));
      shut = s.shut;
    }

-- behind an open gate all that was pending stands
pub opened_all : (h : List Entry) (x : Entry) (t : List Entry) (file : List ℕ) → AllByRecursion IsEntry h → AllByRecursion IsEntry (x ∷ t) → Opened (log_of h) (staged (payloads (x ∷ t))) file → LogOf file (h ++ x ∷ t)
opened_all h x t file each more opened = record {
  entries = all-append IsEntry h (x ∷ t) each more;
  text = record {
    gate = 0;
    rest = opened.rest;
    text =
        opened.text
        ∙ ap (λ (l : List ℕ). log_of h ++ 1 ∷ (l ++ opened.rest)) (staged_beyond (entry_text x) (payloads t))
        ∙ ap (λ (l : List ℕ). log_of h ++ 1 ∷ l) (append_assoc (beyond (payloads (x ∷ t))) (0 ∷ []) opened.rest)
        ∙ sym (append_assoc (log_of h) (records (payloads (x ∷ t))) (0 ∷ opened.rest))
        ∙ ap (λ (l : List ℕ). l ++ 0 ∷ opened.rest) (sym (log_of-append h (x ∷ t)));
    shut = λ e. omega (arith, e);
  };
}

pub all_or_none : (h : List Entry) (x : Entry) (t : List Entry) (file : List ℕ) → AllByRecursion IsEntry h → AllByRecursion IsEntry (x ∷ t) →
    Shut (log_of h) file ⊎ Opened (log_of h) (staged (payloads (x ∷ t))) file → AllOrNone h (x ∷ t) file
all_or_none h x t file each more (inl shut) = inl (inr (record { entries = each; text = shut }))
all_or_none h x t file each more (inr opened) = inr (inr (opened_all h x t file each more opened))

-- where nothing is pending
pub idle_open : (s : State) (log : LogView) (h t : List Entry) → log.pending ≡ 0 → IsOpen s log h t → IsOpen s log (h ++ t) []
idle_open s log h [] none was = subst (λ (g : List Entry). IsOpen s log g []) (sym (append-nil h)) was
idle_open s log h (x ∷ t) none was = absurd (omega (arith, none, was.pending))

pub idle_moments : (s : State) (log : LogView) (h t : List Entry) → IsOpen s log h t → LeavesOnly s s (From s (OnFile (λ _ file. AllOrNone h t file)))
idle_moments s log h t was =
    started s (From s (OnFile (λ _ file. AllOrNone h t file))) (λ d now. (d, now, record { file = inl (inr (record { entries = was.entries; text = was.closed d now })); shelf = refl }))

-- the clause of the three calls that open a gate
pub settle_moments : (s0 s1 : State) (log : LogView) (h t : List Entry) → (log.pending ≡ 0 → ⊥) → IsOpen s0 log h t →
    LeavesOnly s0 s1 (From s0 (OnFile (λ _ file. Shut (log_of h) file ⊎ Opened (log_of h) (staged (payloads t)) file))) →
    LeavesOnly s0 s1 (From s0 (OnFile (λ _ file. AllOrNone h t file)))
settle_moments s0 s1 log h [] some was run = absurd (some was.pending)
settle_moments s0 s1 log h (x ∷ t) some was run =
    weakens s0 s1 _ (From s0 (OnFile (λ _ file. AllOrNone h (x ∷ t) file)))
    (λ c (d, left, step). (d, left, record { file = all_or_none h x t c.file was.entries was.more step.file; shelf = step.shelf })) run

-- all that was pending is settled
pub settled_open : (s0 s1 : State) (log next : LogView) (h t : List Entry) → (log.pending ≡ 0 → ⊥) → next.place ≡ log.place → next.pending ≡ 0 → IsOpen s0 log h t →
    Durable s1 × Opened (log_of h) (staged (payloads t)) s1.image.file → IsOpen s1 next (h ++ t) []
settled_open s0 s1 log next h [] some place none was done = absurd (some was.pending)
settled_open s0 s1 log next h (x ∷ t) some place none was done =
    let log_file = opened_all h x t s1.image.file was.entries was.more done.1 in
    let closed = log_file.text in
    record {
      entries = log_file.entries;
      more = tt;
      file = record { gate = closed.gate; rest = closed.rest; text = closed.text; shut = closed.shut };
      closed = λ c left. subst (λ (f : List ℕ). Shut (log_of (h ++ x ∷ t)) f) (sym (done.0 c left)) closed;
      pending = none;
      at = omega (arith, place, none, was.at, was.pending, ap length (log_of-append h (x ∷ t)), length-append (log_of h) (records (payloads (x ∷ t))));
    }

-- where a record is written, it is behind the closed gate
below : (s : State) (log : LogView) (h t : List Entry) (at : ℕ) → IsOpen s log h t → at ≡ log.place + gate_left_out log.pending → length (log_of h) < at
below s log h t at was here = omega (arith, here, was.at, was.pending, ap gate_left_out was.pending, length-beyond (payloads t))

pub add_moments : (s0 s1 : State) (log : LogView) (h t : List Entry) (bytes : List ℕ) (at : ℕ) → IsOpen s0 log h t → at ≡ log.place + gate_left_out log.pending → Writes at bytes s0 s1 →
    LeavesOnly s0 s1 (From s0 (OnFile (λ _ file. FileOf file h)))
add_moments s0 s1 log h t bytes at was here writes =
    let P = From s0 (OnFile (λ _ file. FileOf file h)) in
    goes_on s0 s0 s1 P (started s0 P (λ d now. (d, now, record { file = inr (record { entries = was.entries; text = was.closed d now }); shelf = refl }))) writes.time
    (λ c left. (let (d, old, step) = writes.crash c left in (
      d,
      old,
      record {
        file = inr (record { entries = was.entries; text = kept_shut (log_of h) d.file c.file at (length bytes) (was.closed d old) (below s0 log h t at was here) step.file });
        shelf = step.shelf;
      },
    )))

-- one entry more is pending
pub add_open : (s0 s1 : State) (log next : LogView) (h t : List Entry) (entry : Entry) (whole bytes : List ℕ) (at : ℕ) → IsOpen s0 log h t → Frames whole entry → at ≡ log.place + gate_left_out log.pending →
    bytes ≡ drop (gate_left_out log.pending) whole → Writes at bytes s0 s1 → Holds at bytes s1.image.file → next.place + 1 ≡ log.place + length whole → next.pending + 1 ≡ log.pending + length whole →
    IsOpen s1 next h (t ++ entry ∷ [])
add_open s0 s1 log next h t entry whole bytes at was frames here is writes holds place pending =
    let left_out = ap gate_left_out was.pending in
    let grown = ap (λ (ps : List (List ℕ)). length (records ps)) (payloads-push t entry) in
    let text : bytes ≡ drop (gate_left_out (length (records (payloads t)))) (frame (entry_text entry)) =
    is ∙ ap (λ (n : ℕ). drop n whole) left_out ∙ ap (λ (l : List ℕ). drop (gate_left_out (length (records (payloads t)))) l) frames.text in
    record {
      entries = was.entries;
      more = all-push IsEntry t entry was.more frames.entry;
      file = subst (λ (ps : List (List ℕ)). Staged (log_of h) (staged ps) s1.image.file) (sym (payloads-push t entry))
          (staged_more (log_of h) (payloads t) (entry_text entry) bytes s0.image.file s1.image.file at was.file (omega (arith, here, was.at, was.pending, left_out)) text writes.image.file holds);
      closed = λ c left. (let (d, old, step) = writes.crash c left in kept_shut (log_of h) d.file c.file at (length bytes) (was.closed d old) (below s0 log h t at was here) step.file);
      pending = omega (arith, pending, was.pending, grown, ap length frames.text, length-frame (entry_text entry), length-records-push (payloads t) (entry_text entry));
      at = omega (arith, place, pending, was.at);
    }

-- a step on the file behind another
pub from_earlier : (s0 s1 s2 : State) (P Q : List ℕ → Type 0) → LeavesOnly s0 s1 (From s0 (OnFile (λ _ file. P file))) → LeavesOnly s1 s2 (From s1 (OnFile (λ _ file. Q file))) →
    LeavesOnly s1 s2 (From s0 (OnFile (λ _ file. Q file)))
from_earlier s0 s1 s2 P Q first second =
    weakens s1 s2 _ (From s0 (OnFile (λ _ file. Q file)))
    (λ c (d, was, step). (let (d0, was0, step0) = first.now d was in (d0, was0, record { file = step.file; shelf = step.shelf ∙ step0.shelf }))) second

pub none_moments : (s : State) (h t : List Entry) → ((c : Image) → images s c → FileOf c.file h) → LeavesOnly s s (From s (OnFile (λ _ file. AllOrNone h t file)))
none_moments s h t each = started s (From s (OnFile (λ _ file. AllOrNone h t file))) (λ d now. (d, now, record { file = inl (each d now); shelf = refl }))

pub file_of : (s : State) (log : LogView) (h t : List Entry) → IsOpen s log h t → (c : Image) → images s c → FileOf c.file h
file_of s log h t was c left = inr (record { entries = was.entries; text = was.closed c left })

pub first_moments : (s0 s1 : State) (h t : List Entry) → LeavesOnly s0 s1 (From s0 (OnFile (λ _ file. FileOf file h))) → LeavesOnly s0 s1 (From s0 (OnFile (λ _ file. AllOrNone h t file)))
first_moments s0 s1 h t run =
    weakens s0 s1 _ (From s0 (OnFile (λ _ file. AllOrNone h t file))) (λ c (d, was, step). (d, was, record { file = inl step.file; shelf = step.shelf })) run

pub both_moments : (s0 s1 s2 : State) (h t : List Entry) → LeavesOnly s0 s1 (From s0 (OnFile (λ _ file. FileOf file h))) → LeavesOnly s1 s2 (From s1 (OnFile (λ _ file. AllOrNone h t file))) →
    LeavesOnly s0 s2 (From s0 (OnFile (λ _ file. AllOrNone h t file)))
both_moments s0 s1 s2 h t first second =
    joins s0 s1 s2 (From s0 (OnFile (λ _ file. AllOrNone h t file))) (first_moments s0 s1 h t first) (from_earlier s0 s1 s2 (λ file. FileOf file h) (AllOrNone h t) first second)

-- the log's place is that of the gate behind all entries
pub place_of : (s : State) (log : LogView) (h t : List Entry) → IsOpen s log h t → log.place ≡ length (log_of (h ++ t))
place_of s log h t was = omega (arith, was.at, was.pending, ap length (log_of-append h t), length-append (log_of h) (records (payloads t)))
