-- An entry by its kind.
use Rattle.std.proofs.Common.{◌≡◌, ℕ, List, [], ◌∷◌, arith, ap}
use Rattle.log_entry.specs.EntryText.{le64, form_name, form_organised, form_accepted, form_categorised, form_decided, entry_text}
use Rattle.log_entry.specs.Entries.{IsOrganised, IsAccepted, IsCategorised, IsDecided, IsEntry}
use Rattle.log_entry.specs.Reading.{Stands, OneForm}
use Rattle.log_entry.specs.declared.entry.Entry.TheVariants as entries
use Rattle.log_entry.proofs.Standing.{There, first, same, behind}
use Rattle.log_entry.proofs.Parts.{HasPart, IsByte, form_byte}

pub one_byte : OneForm IsByte form_byte
one_byte a b more rest here there is = (cc is, ap (λ (l : List ℕ). tail l) is)
  where
    tail : List ℕ → List ℕ
    tail [] = []
    tail (x ∷ xs) = xs

pub tagged : (bytes : List ℕ) (at : ℕ) → HasPart IsByte form_byte IsEntry entry_text bytes at at
tagged bytes at (entries.Organised d r) end is stands = (1, omega arith, first (1 ∷ []) (form_organised (d, r)) bytes at end stands)
tagged bytes at (entries.Accepted m s) end is stands = (2, omega arith, first (2 ∷ []) (form_accepted (m, s)) bytes at end stands)
tagged bytes at (entries.Categorised n j plan) end is stands = (3, omega arith, first (3 ∷ []) (form_categorised (n, j, plan)) bytes at end stands)
tagged bytes at (entries.Decided name by v m) end is stands = (4, omega arith, first (4 ∷ []) (form_decided (name, by, v, m)) bytes at end stands)
tagged bytes at (entries.Moment m) end is stands = (5, omega arith, first (5 ∷ []) (le64 m) bytes at end stands)
tagged bytes at (entries.Delivered name) end is stands = (6, omega arith, first (6 ∷ []) (form_name name) bytes at end stands)
tagged bytes at (entries.Delayed name) end is stands = (7, omega arith, first (7 ∷ []) (form_name name) bytes at end stands)
tagged bytes at (entries.Ended name) end is stands = (8, omega arith, first (8 ∷ []) (form_name name) bytes at end stands)
tagged bytes at (entries.Forgot number) end is stands = (9, omega arith, first (9 ∷ []) (le64 number) bytes at end stands)

module _ (kind : ℕ) (bytes : List ℕ) (at start : ℕ) (got : IsByte kind × Stands (form_byte kind) bytes at start) where
  is_kind : (k : ℕ) (fields : List ℕ) (end : ℕ) → IsByte k → Stands (k ∷ fields) bytes at end → k ≡ kind
  is_kind k fields end small s = same IsByte form_byte one_byte kind k fields bytes at start end got small s

  fields_there : (k : ℕ) (fields : List ℕ) (end : ℕ) → IsByte k → Stands (k ∷ fields) bytes at end → There fields bytes start
  fields_there k fields end small s = record { end = end; stands = behind IsByte form_byte one_byte kind k fields bytes at start end got small s }

  -- behind the byte 1 stand the texts of an organisation
  pub has_organised : kind ≡ 1 → HasPart IsOrganised form_organised IsEntry entry_text bytes at start
  has_organised one (entries.Organised d r) end is stands = ((d, r), is, fields_there 1 _ end (omega arith) stands)
  has_organised one (entries.Accepted m s) end is stands = absurd (omega (arith, one, is_kind 2 _ end (omega arith) stands))
  has_organised one (entries.Categorised n j plan) end is stands = absurd (omega (arith, one, is_kind 3 _ end (omega arith) stands))
  has_organised one (entries.Decided name by v m) end is stands = absurd (omega (arith, one, is_kind 4 _ end (omega arith) stands))
  has_organised one (entries.Moment m) end is stands = absurd (omega (arith, one, is_kind 5 _ end (omega arith) stands))
  has_organised one (entries.Delivered name) end is stands = absurd (omega (arith, one, is_kind 6 _ end (omega arith) stands))
  has_organised one (entries.Delayed name) end is stands = absurd (omega (arith, one, is_kind 7 _ end (omega arith) stands))
  has_organised one (entries.Ended name) end is stands = absurd (omega (arith, one, is_kind 8 _ end (omega arith) stands))
  has_organised one (entries.Forgot number) end is stands = absurd (omega (arith, one, is_kind 9 _ end (omega arith) stands))

  -- behind the byte 2 stand the fields of an entry that was accepted
  pub has_accepted : kind ≡ 2 → HasPart IsAccepted form_accepted IsEntry entry_text bytes at start
  has_accepted two (entries.Accepted m s) end is stands = ((m, s), is, fields_there 2 _ end (omega arith) stands)
  has_accepted two (entries.Organised d r) end is stands = absurd (omega (arith, two, is_kind 1 _ end (omega arith) stands))
  has_accepted two (entries.Categorised n j plan) end is stands = absurd (omega (arith, two, is_kind 3 _ end (omega arith) stands))
  has_accepted two (entries.Decided name by v m) end is stands = absurd (omega (arith, two, is_kind 4 _ end (omega arith) stands))
  has_accepted two (entries.Moment m) end is stands = absurd (omega (arith, two, is_kind 5 _ end (omega arith) stands))
  has_accepted two (entries.Delivered name) end is stands = absurd (omega (arith, two, is_kind 6 _ end (omega arith) stands))
  has_accepted two (entries.Delayed name) end is stands = absurd (omega (arith, two, is_kind 7 _ end (omega arith) stands))
  has_accepted two (entries.Ended name) end is stands = absurd (omega (arith, two, is_kind 8 _ end (omega arith) stands))
  has_accepted two (entries.Forgot number) end is stands = absurd (omega (arith, two, is_kind 9 _ end (omega arith) stands))

  pub has_categorised : kind ≡ 3 → HasPart IsCategorised form_categorised IsEntry entry_text bytes at start
  has_categorised three (entries.Categorised n j plan) end is stands = ((n, j, plan), is, fields_there 3 _ end (omega arith) stands)
  has_categorised three (entries.Organised d r) end is stands = absurd (omega (arith, three, is_kind 1 _ end (omega arith) stands))
  has_categorised three (entries.Accepted m s) end is stands = absurd (omega (arith, three, is_kind 2 _ end (omega arith) stands))
  has_categorised three (entries.Decided name by v m) end is stands = absurd (omega (arith, three, is_kind 4 _ end (omega arith) stands))
  has_categorised three (entries.Moment m) end is stands = absurd (omega (arith, three, is_kind 5 _ end (omega arith) stands))
  has_categorised three (entries.Delivered name) end is stands = absurd (omega (arith, three, is_kind 6 _ end (omega arith) stands))
  has_categorised three (entries.Delayed name) end is stands = absurd (omega (arith, three, is_kind 7 _ end (omega arith) stands))
  has_categorised three (entries.Ended name) end is stands = absurd (omega (arith, three, is_kind 8 _ end (omega arith) stands))
  has_categorised three (entries.Forgot number) end is stands = absurd (omega (arith, three, is_kind 9 _ end (omega arith) stands))

  pub has_decided : kind ≡ 4 → HasPart IsDecided form_decided IsEntry entry_text bytes at start
  has_decided four (entries.Decided name by v m) end is stands = ((name, by, v, m), is, fields_there 4 _ end (omega arith) stands)
  has_decided four (entries.Organised d r) end is stands = absurd (omega (arith, four, is_kind 1 _ end (omega arith) stands))
  has_decided four (entries.Accepted m s) end is stands = absurd (omega (arith, four, is_kind 2 _ end (omega arith) stands))
  has_decided four (entries.Categorised n j plan) end is stands = absurd (omega (arith, four, is_kind 3 _ end (omega arith) stands))
  has_decided four (entries.Moment m) end is stands = absurd (omega (arith, four, is_kind 5 _ end (omega arith) stands))
  has_decided four (entries.Delivered name) end is stands = absurd (omega (arith, four, is_kind 6 _ end (omega arith) stands))
  has_decided four (entries.Delayed name) end is stands = absurd (omega (arith, four, is_kind 7 _ end (omega arith) stands))
  has_decided four (entries.Ended name) end is stands = absurd (omega (arith, four, is_kind 8 _ end (omega arith) stands))
  has_decided four (entries.Forgot number) end is stands = absurd (omega (arith, four, is_kind 9 _ end (omega arith) stands))
