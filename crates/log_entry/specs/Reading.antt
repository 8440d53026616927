-- What stands at a place of some bytes, and what a reader says of it.
use Rattle.std.specs.Prelude.{◌≡◌, ⊤, ℕ, ◌+◌, ◌≤◌, List, ◌++◌, length, drop, Option, Some, None, Result, Ok, Err}
use Rattle.mail_names.specs.declared.bytes.NoMemory.{NoMemory}
use Rattle.log_entry.specs.declared.places.Miss.{Miss}
use Rattle.log_entry.specs.declared.places.Miss.TheVariants as misses

-- these bytes stand at a place of others, up to an end
pub record Stands (text bytes : List ℕ) (at end : ℕ) : Type 0 where
  pub there : drop at bytes ≡ text ++ drop end bytes
  pub behind : end ≡ at + length text
  pub within : end ≤ length bytes

-- A reader gives a value that stands there and its end. It gives none only where no such value stands there.
abbrev pub Finds : {X : Type 0} → (X → Type 0) → (X → List ℕ) → List ℕ → ℕ → Result (Option (X × ℕ)) NoMemory → Type 0
Finds Is form bytes at (Ok (Some found)) = Is found.0 × Stands (form found.0) bytes at found.1
Finds {X = X} Is form bytes at (Ok None) = (value : X) (end : ℕ) → Is value → Stands (form value) bytes at end → ⊥
Finds Is form bytes at (Err _) = ⊤

-- None where no such form stands.
abbrev pub found_of : {X : Type 0} → Result X Miss → Result (Option X) NoMemory
found_of (Ok value) = Ok (Some value)
found_of (Err misses.NoForm) = Ok None
found_of (Err misses.NoMemory) = Err (record {})

-- The same of a reader that tells apart why it gives none.
abbrev pub Reads : {X : Type 0} → (X → Type 0) → (X → List ℕ) → List ℕ → ℕ → Result (X × ℕ) Miss → Type 0
Reads Is form bytes at result = Finds Is form bytes at (found_of result)

-- The same for all of the bytes.
abbrev pub ReadsAll : {X : Type 0} → (X → Type 0) → (X → List ℕ) → List ℕ → Result (Option X) NoMemory → Type 0
ReadsAll Is form bytes (Ok (Some value)) = Is value × (bytes ≡ form value)
ReadsAll {X = X} Is form bytes (Ok None) = (value : X) → Is value → bytes ≡ form value → ⊥
ReadsAll Is form bytes (Err _) = ⊤

-- Whether these very bytes stand there.
abbrev pub Expects : List ℕ → List ℕ → ℕ → Result ℕ Miss → Type 0
Expects text bytes at (Ok end) = Stands text bytes at end
Expects text bytes at (Err misses.NoForm) = (end : ℕ) → Stands text bytes at end → ⊥
Expects text bytes at (Err misses.NoMemory) = ⊤

-- A value's form determines the value, and is no proper prefix of another's.
abbrev pub OneForm : {X : Type 0} → (X → Type 0) → (X → List ℕ) → Type 0
OneForm {X = X} Is form = (a b : X) (more rest : List ℕ) → Is a → Is b → form a ++ more ≡ form b ++ rest → (a ≡ b) × (more ≡ rest)
