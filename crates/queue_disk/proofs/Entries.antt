-- The text of a log with one entry more.
use Rattle.std.proofs.Common.{◌≡◌, ℕ, ◌+◌, List, [], ◌∷◌, ◌++◌, length, sym, ◌∙◌, ap, arith, append_assoc, length-append}
use Rattle.std.specs.Prelude.{codes}
use Rattle.std.proofs.lemmas.List.{append-nil, map-append}
use Rattle.log_entry.specs.declared.entry.Entry.{Entry}
use Rattle.std.specs.List.{AllByRecursion}
use Rattle.log_entry.specs.EntryText.{le64, entry_text}
use Rattle.queue_disk.specs.Log.{records, log_text, payloads, log_of}
use Rattle.log_entry.proofs.Offered.{length-le64}

pub records-push : (ps : List (List ℕ)) (payload : List ℕ) → records (ps ++ payload ∷ []) ≡ records ps ++ 1 ∷ (le64 (length payload) ++ payload)
records-push [] payload = ap (λ (l : List ℕ). 1 ∷ (le64 (length payload) ++ l)) (append-nil payload)
records-push (e ∷ ps) payload =
    ap (λ (l : List ℕ). 1 ∷ (le64 (length e) ++ (e ++ l))) (records-push ps payload)
    ∙ ap (λ (l : List ℕ). 1 ∷ (le64 (length e) ++ l)) (sym (append_assoc e (records ps) (1 ∷ (le64 (length payload) ++ payload))))
    ∙ ap (λ (l : List ℕ). 1 ∷ l) (sym (append_assoc (le64 (length e)) (e ++ records ps) (1 ∷ (le64 (length payload) ++ payload))))

pub log_text-push : (ps : List (List ℕ)) (payload : List ℕ) → log_text (ps ++ payload ∷ []) ≡ log_text ps ++ 1 ∷ (le64 (length payload) ++ payload)
log_text-push ps payload =
    ap (λ (l : List ℕ). codes "MAILHUB1" ++ l) (records-push ps payload) ∙ sym (append_assoc (codes "MAILHUB1") (records ps) (1 ∷ (le64 (length payload) ++ payload)))

pub length-log_text : (ps : List (List ℕ)) (payload : List ℕ) → length (log_text (ps ++ payload ∷ [])) ≡ length (log_text ps) + length payload + 9
length-log_text ps payload =
    omega (arith, ap length (log_text-push ps payload), length-append (log_text ps) (1 ∷ (le64 (length payload) ++ payload)), length-append (le64 (length payload)) payload, length-le64 (length payload))

pub payloads-push : (h : List Entry) (entry : Entry) → payloads (h ++ entry ∷ []) ≡ payloads h ++ entry_text entry ∷ []
payloads-push h entry = map-append entry_text h (entry ∷ [])

pub length-push : (h : List Entry) (entry : Entry) → length (log_of (h ++ entry ∷ [])) ≡ length (log_of h) + length (entry_text entry) + 9
length-push h entry =
    ap (λ (ps : List (List ℕ)). length (log_text ps)) (payloads-push h entry) ∙ length-log_text (payloads h) (entry_text entry)

pub all-push : {X : Type 0} (P : X → Type 0) (xs : List X) (x : X) → AllByRecursion P xs → P x → AllByRecursion P (xs ++ x ∷ [])
all-push P [] x each one = (one, tt)
all-push P (y ∷ xs) x each one = (each.0, all-push P xs x each.1 one)
