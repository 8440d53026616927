-- A log is read entry by entry, to its closed gate.
use Rattle.std.proofs.Common.{◌≡◌, ◌≢◌, inl, inr, ℕ, ◌+◌, ◌<◌, ◌^◌, List, [], ◌∷◌, ◌++◌, length, take, drop, Option, Result, Ok, Err, refl, sym, ◌∙◌, ap, subst, arith, append_assoc, length-append, length-drop}
use Rattle.std.specs.Prelude.{◌⊎◌, IsErrAnd, IfErr}
use Rattle.std.specs.List.{AllByRecursion}
use Rattle.std.proofs.lemmas.List.{append-nil, take_at, drop_at, drop-drop}
use Rattle.log_entry.specs.declared.entry.Entry.{Entry}
use Rattle.log_entry.specs.EntryText.{le64, entry_text}
use Rattle.log_entry.specs.Entries.{IsEntry}
use Rattle.log_entry.proofs.Offered.{length-le64, le64_same, one_entry}
use Rattle.queue_disk.specs.declared.fault.LogFault.{LogFault}
use Rattle.queue_disk.specs.declared.fault.LogFault.TheVariants.{DiskFault, NotALog, NoMemory, LogFull}
use Rattle.queue_disk.specs.Log.{records, payloads, log_of, LogOf}
use Rattle.queue_disk.specs.View.{LogView}
use Rattle.queue_disk.specs.Reading.{Recorded, ShutGate, IsBad, NoEntry, RecordAnswer, PlaceAnswer, IsHeld, IsRead, ReadsOn}
use Rattle.queue_disk.proofs.Entries.{length-push}

-- two records that stand first in the same bytes are one
module _ (x e after more : List ℕ) (small : length x < 2 ^ 64) (also : length e < 2 ^ 64) (same : le64 (length x) ++ (x ++ after) ≡ le64 (length e) ++ (e ++ more)) where
  sizes : length x ≡ length e
  sizes = le64_same (length x) (length e) small also
      (sym (take_at (le64 (length x)) (x ++ after) 8 (length-le64 (length x))) ∙ ap (λ (l : List ℕ). take 8 l) same ∙ take_at (le64 (length e)) (e ++ more) 8 (length-le64 (length e)))

  pub tails : x ++ after ≡ e ++ more
  tails = sym (drop_at (le64 (length x)) (x ++ after) 8 (length-le64 (length x))) ∙ ap (λ (l : List ℕ). drop 8 l) same ∙ drop_at (le64 (length e)) (e ++ more) 8 (length-le64 (length e))

  pub one_payload : x ≡ e
  one_payload = sym (take_at x after (length x) refl) ∙ ap (λ (l : List ℕ). take (length x) l) tails ∙ take_at e more (length x) (sym sizes)

pub same_payload : (x e rest : List ℕ) → Recorded x rest → Recorded e rest → x ≡ e
same_payload x e rest r q = one_payload x e r.more q.more r.small q.small (ap (λ (l : List ℕ). drop 1 l) (sym r.text ∙ q.text))

-- where no whole record stands, none of an entry does
pub no_record : (rest : List ℕ) → IsBad rest → NoEntry rest
no_record rest (inl empty) = inl empty
no_record rest (inr (gate, never)) = inr (gate, λ entry is r. never (entry_text entry) r)

-- nor where a record stands whose payload is no entry's text
pub no_text : (payload rest : List ℕ) → Recorded payload rest → ((entry : Entry) → IsEntry entry → payload ≡ entry_text entry → ⊥) → NoEntry rest
no_text payload rest r none = inr (
  r.text ∙ ap (λ (l : List ℕ). 1 ∷ l) (sym (ap (λ (l : List ℕ). drop 1 l) r.text)),
  λ entry is q. none entry is (same_payload payload (entry_text entry) rest r q),
)

module _ (file : List ℕ) (h done : List Entry) (place gate : ℕ) (more : List ℕ) (at : place ≡ length (log_of done)) (shut : gate ≢ 1) (bound : length file < 2 ^ 64) where
  abbrev Rest : List Entry → Type 0
  Rest later = drop place file ≡ records (payloads later) ++ gate ∷ more

  -- the record of the first entry that is left
  first_record : (x : Entry) (later : List Entry) → Rest (x ∷ later) → Recorded (entry_text x) (drop place file)
  first_record x later text =
      let t = entry_text x in
      let after = records (payloads later) ++ gate ∷ more in
      let whole : drop place file ≡ 1 ∷ (le64 (length t) ++ (t ++ after)) =
      text ∙ ap (λ (l : List ℕ). 1 ∷ l) (append_assoc (le64 (length t)) (t ++ records (payloads later)) (gate ∷ more) ∙ ap (λ (l : List ℕ). le64 (length t) ++ l) (append_assoc t (records (payloads later)) (gate ∷ more))) in
      record {
        more = after;
        text = whole;
        small = omega (arith, bound, ap length whole, length-drop place file, length-append (le64 (length t)) (t ++ after), length-append t after);
      }

  some : (later : List Entry) (entry : Entry) (next : LogView) → h ≡ done ++ later → AllByRecursion IsEntry later → Rest later → IsEntry entry → Recorded (entry_text entry) (drop place file)
      → next.place ≡ place + 9 + length (entry_text entry) → IsHeld file next → IsRead file h (done ++ entry ∷ []) next
  unfolding first_record
  some [] entry next all each text is r moved held = let both : gate ∷ more ≡ 1 ∷ (le64 (length (entry_text entry)) ++ (entry_text entry ++ r.more)) = sym text ∙ r.text in let one : gate ≡ 1 = cc both in absurd (shut one)
  some (x ∷ later) entry next all each text is r moved held =
      let t = entry_text x in
      let after = records (payloads later) ++ gate ∷ more in
      let first = first_record x later text in
      let texts : t ≡ entry_text entry = same_payload t (entry_text entry) (drop place file) first r in
      let same : x ≡ entry = (one_entry x entry [] [] each.0 is (ap (λ (l : List ℕ). l ++ []) texts)).0 in
      record {
        later = later;
        gate = gate;
        more = more;
        all = all ∙ sym (append_assoc done (x ∷ []) later) ∙ ap (λ (y : Entry). (done ++ y ∷ []) ++ later) same;
        entries = each.1;
        at = omega (arith, moved, at, length-push done entry);
        held = held;
        text =
            ap (λ (n : ℕ). drop n file) (let e : next.place ≡ place + (9 + length t) = omega (arith, moved, ap length texts) in e)
            ∙ sym (drop-drop (9 + length t) place file)
            ∙ ap (λ (l : List ℕ). drop (9 + length t) l) (first.text ∙ ap (λ (l : List ℕ). 1 ∷ l) (sym (append_assoc (le64 (length t)) t first.more)))
            ∙ drop_at (1 ∷ (le64 (length t) ++ t)) first.more (9 + length t) (omega (arith, length-append (le64 (length t)) t, length-le64 (length t)));
        shut = shut;
        small = bound;
      }

  none : (later : List Entry) → h ≡ done ++ later → Rest later → ShutGate (drop place file) → h ≡ done
  none [] all text s = all ∙ append-nil done
  none (x ∷ later) all text s = let both : s.gate ∷ s.more ≡ 1 ∷ (le64 (length (entry_text x)) ++ (entry_text x ++ (first_record x later text).more)) = sym s.text ∙ (first_record x later text).text in let one : s.gate ≡ 1 = cc both in absurd (s.shut one)

  bad : (later : List Entry) → AllByRecursion IsEntry later → Rest later → NoEntry (drop place file) → ⊥
  bad [] each text (inl empty) = let both : [] ≡ gate ∷ more = sym empty ∙ text in cc both
  bad [] each text (inr (first, never)) = let both : gate ∷ more ≡ 1 ∷ drop 1 (drop place file) = sym text ∙ first in let one : gate ≡ 1 = cc both in shut one
  bad (x ∷ later) each text (inl empty) = let both : [] ≡ 1 ∷ (le64 (length (entry_text x)) ++ (entry_text x ++ (first_record x later text).more)) = sym empty ∙ (first_record x later text).text in cc both
  bad (x ∷ later) each text (inr (first, never)) = never x each.0 (first_record x later text)

-- the next answer, of a log that has been read so far
pub read_some : (file : List ℕ) (h done : List Entry) (log next : LogView) (entry : Entry) → IsRead file h done log → IsEntry entry × Recorded (entry_text entry) (drop log.place file) →
    next.place ≡ log.place + 9 + length (entry_text entry) → IsHeld file next → IsRead file h (done ++ entry ∷ []) next
read_some file h done log next entry r (is, rec) moved held =
    some file h done log.place r.gate r.more r.at r.shut r.small r.later entry next r.all r.entries r.text is rec moved held

pub read_none : (file : List ℕ) (h done : List Entry) (log : LogView) → IsRead file h done log → ShutGate (drop log.place file) → (h ≡ done) × (log.place ≡ length (log_of h))
read_none file h done log r s =
    let all = none file h done log.place r.gate r.more r.at r.shut r.small r.later r.all r.text s in
    (all, r.at ∙ ap (λ (es : List Entry). length (log_of es)) (sym all))

err_on : (file : List ℕ) (h done : List Entry) (log next : LogView) (e : LogFault) → IsRead file h done log → PlaceAnswer (drop log.place file) log.place (Err e) → ReadsOn file h done next (Err e)
err_on file h done log next DiskFault r answer = tt
err_on file h done log next NoMemory r answer = tt
err_on file h done log next (NotALog at) r answer = bad file h done log.place r.gate r.more r.at r.shut r.small r.later r.entries r.text answer.1
err_on file h done log next (LogFull length) r answer = answer

-- a fault is none of the file
pub read_err : (file : List ℕ) (h done : List Entry) (log next : LogView) (e : LogFault) (result : Result (Option Entry) LogFault) → IsErrAnd result (λ f. f ≡ e) → IsRead file h done log → PlaceAnswer (drop log.place file) log.place (Err e) → ReadsOn file h done next result
read_err file h done log next e (Ok found) same r answer = absurd same
read_err file h done log next e (Err f) same r answer =
    subst (λ (g : LogFault). ReadsOn file h done next (Err g)) (sym same) (err_on file h done log next e r answer)

fault_on : (file : List ℕ) (h done : List Entry) (next : LogView) (e : LogFault) → ReadsOn file h done next (Err e) → (e ≡ DiskFault) ⊎ (e ≡ NoMemory)
fault_on file h done next DiskFault on = inl refl
fault_on file h done next NoMemory on = inr refl
fault_on file h done next (NotALog at) on = absurd on
fault_on file h done next (LogFull length) on = absurd on

pub fault_is : {T : Type 0} (file : List ℕ) (h done : List Entry) (next : LogView) (e : LogFault) (result : Result T LogFault) → IsErrAnd result (λ f. f ≡ e) → ReadsOn file h done next (Err e) → IfErr result (λ f. (f ≡ DiskFault) ⊎ (f ≡ NoMemory))
fault_is file h done next e (Ok found) same on = tt
fault_is file h done next e (Err f) same on = subst (λ (g : LogFault). (g ≡ DiskFault) ⊎ (g ≡ NoMemory)) (sym same) (fault_on file h done next e on)

place_err : (rest : List ℕ) (place : ℕ) (e : LogFault) → RecordAnswer rest place (Err e) → PlaceAnswer rest place (Err e)
place_err rest place DiskFault answer = tt
place_err rest place NoMemory answer = tt
place_err rest place (NotALog at) answer = (answer.0, no_record rest answer.1)
place_err rest place (LogFull length) answer = answer

pub fault_at : (rest : List ℕ) (place : ℕ) (e : LogFault) (result : Result (Option (Entry × ℕ)) LogFault) → IsErrAnd result (λ f. f ≡ e) → RecordAnswer rest place (Err e) → PlaceAnswer rest place result
fault_at rest place e (Ok found) same answer = absurd same
fault_at rest place e (Err f) same answer = subst (λ (g : LogFault). PlaceAnswer rest place (Err g)) (sym same) (place_err rest place e answer)

-- The log of entries is that of no others.
records_same : (h k : List Entry) (gate other : ℕ) (more rest : List ℕ) → gate ≢ 1 → other ≢ 1 → AllByRecursion IsEntry h → AllByRecursion IsEntry k →
    length (records (payloads h) ++ gate ∷ more) < 2 ^ 64 → records (payloads h) ++ gate ∷ more ≡ records (payloads k) ++ other ∷ rest → h ≡ k
records_same [] [] gate other more rest shut closed each all small same = refl
records_same [] (y ∷ k) gate other more rest shut closed each all small same = (let one : gate ≡ 1 = cc same in absurd (shut one))
records_same (x ∷ h) [] gate other more rest shut closed each all small same = (let one : other ≡ 1 = cc same in absurd (closed one))
records_same (x ∷ h) (y ∷ k) gate other more rest shut closed each all small same =
    let t = entry_text x in
    let u = entry_text y in
    let after = records (payloads h) ++ gate ∷ more in
    let then = records (payloads k) ++ other ∷ rest in
    let first : records (payloads (x ∷ h)) ++ gate ∷ more ≡ 1 ∷ (le64 (length t) ++ (t ++ after)) =
    ap (λ (l : List ℕ). 1 ∷ l) (append_assoc (le64 (length t)) (t ++ records (payloads h)) (gate ∷ more) ∙ ap (λ (l : List ℕ). le64 (length t) ++ l) (append_assoc t (records (payloads h)) (gate ∷ more))) in
    let second : records (payloads (y ∷ k)) ++ other ∷ rest ≡ 1 ∷ (le64 (length u) ++ (u ++ then)) =
    ap (λ (l : List ℕ). 1 ∷ l) (append_assoc (le64 (length u)) (u ++ records (payloads k)) (other ∷ rest) ∙ ap (λ (l : List ℕ). le64 (length u) ++ l) (append_assoc u (records (payloads k)) (other ∷ rest))) in
    let whole : 1 ∷ (le64 (length t) ++ (t ++ after)) ≡ 1 ∷ (le64 (length u) ++ (u ++ then)) = sym first ∙ same ∙ second in
    let behind : le64 (length t) ++ (t ++ after) ≡ le64 (length u) ++ (u ++ then) = ap (λ (l : List ℕ). drop 1 l) whole in
    let own = length-append (le64 (length t)) (t ++ after) in
    let theirs = length-append (le64 (length u)) (u ++ then) in
    let fits : length t < 2 ^ 64 = omega (arith, small, ap length first, own, length-append t after) in
    let also : length u < 2 ^ 64 = omega (arith, small, ap length first, ap length whole, theirs, length-append u then) in
    let texts : t ≡ u = one_payload t u after then fits also behind in
    let left : after ≡ then =
    sym (drop_at t after (length t) refl) ∙ ap (λ (l : List ℕ). drop (length t) l) (tails t u after then fits also behind) ∙ drop_at u then (length t) (ap length (sym texts)) in
    let one : x ≡ y = (one_entry x y [] [] each.0 all.0 (ap (λ (l : List ℕ). l ++ []) texts)).0 in
    let others : h ≡ k = records_same h k gate other more rest shut closed each.1 all.1 (omega (arith, small, ap length first, own, length-append t after)) left in
    λ i. one i ∷ others i

pub one_log : (file : List ℕ) (h k : List Entry) → length file < 2 ^ 64 → LogOf file h → LogOf file k → h ≡ k
one_log file h k small log other =
    let first : drop 8 file ≡ records (payloads h) ++ log.text.gate ∷ log.text.rest = ap (λ (l : List ℕ). drop 8 l) log.text.text in
    let second : drop 8 file ≡ records (payloads k) ++ other.text.gate ∷ other.text.rest = ap (λ (l : List ℕ). drop 8 l) other.text.text in
    records_same h k log.text.gate other.text.gate log.text.rest other.text.rest log.text.shut other.text.shut log.entries other.entries (omega (arith, small, ap length first, length-drop 8 file)) (sym first ∙ second)

-- before the first entry
pub unread : (file : List ℕ) (h : List Entry) (most : ℕ) → LogOf file h → length file < 2 ^ 64 → IsRead file h [] (record { place = 8; pending = 0; gate = 8; most = most; held = [] })
unread file h most log small = record {
  later = h;
  gate = log.text.gate;
  more = log.text.rest;
  all = refl;
  entries = log.entries;
  at = refl;
  held = refl;
  text = ap (λ (l : List ℕ). drop 8 l) log.text.text;
  shut = log.text.shut;
  small = small;
}
