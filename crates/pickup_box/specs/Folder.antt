-- The pickup folder and its files.
use Rattle.std.specs.Prelude.{◌≡◌, ℕ, ◌+◌, Bool, IsTrue, if◌then◌else◌, List, [], ◌∷◌, take, map, filter, not, bytes_eq, IsSome, Option, Some, None, Result, Ok, Err, IfOk, IsPermutation, IsSorted, AllPairs, Vec}
use Rattle.std.specs.Ordering.{nat_cmp}
use Rattle.std.specs.Cmp.Lexicographic.{slice_cmp}
use Rattle.std.specs.Option.{option_map}
use Rattle.std.specs.declared.alloc.Global.{Global}
use Rattle.pickup_box.specs.declared.folder.DirFault.{DirFault}

-- a file: its name and its bytes
abbrev pub File : Type 0
File = List ℕ × List ℕ

-- a folder: whether it tells its files, these files, and how often a call on it failed
pub record Folder : Type 0 where
  pub told : Bool
  pub files : List File
  pub faults : ℕ

-- the bytes of the file of this name, where there is one
abbrev pub bytes_in : List File → List ℕ → Option (List ℕ)
bytes_in [] name = None
bytes_in (file ∷ files) name = if bytes_eq name file.0 then Some file.1 else bytes_in files name

-- No two files have the same name.
abbrev pub HasNoNameTwice : List File → Type 0
HasNoNameTwice files = AllPairs (λ (a b : File). a.0 ≡ b.0 → ⊥) files

-- all files but those of this name
abbrev pub without : List ℕ → List File → List File
without name files = filter (λ (f : File). not (bytes_eq f.0 name)) files

abbrev pub names_of : List File → List (List ℕ)
names_of files = map (λ (f : File). f.0) files

-- Names stand in the order of their bytes.
abbrev pub IsAscending : List (List ℕ) → Type 0
IsAscending names = IsSorted (slice_cmp nat_cmp) names

-- Where the folder tells its files, one has this name.
abbrev pub Has : List ℕ → Folder → Type 0
Has name d = IsTrue d.told → IsSome (bytes_in d.files name)

-- the answer to which files there are
abbrev pub ListAnswer : Result (Vec (List ℕ) Global) DirFault → List File → Type 0
ListAnswer result files = IfOk result (λ names. IsPermutation (names_of files) names.items)

-- the answer to what the file of this name holds: at most `most + 1` of its bytes
abbrev pub ReadAnswer : List ℕ → ℕ → Result (List ℕ) DirFault → List File → Type 0
ReadAnswer name most result files = IfOk result (λ bytes. option_map (λ all. take (most + 1) all) (bytes_in files name) ≡ Some bytes)

-- The file of this name goes, and each other stays.
abbrev pub Removes : List ℕ → List File → List File → Type 0
Removes name old new = (n : List ℕ) → bytes_in new n ≡ (if bytes_eq n name then None else bytes_in old n)

-- The file of the first name gets the second, in the place of one that had it, and each other stays.
abbrev pub Renames : List ℕ → List ℕ → List File → List File → Type 0
Renames name to old new =
    (n : List ℕ) → bytes_in new n ≡ (if bytes_eq n to then bytes_in old name else (if bytes_eq n name then None else bytes_in old n))

-- A call that answers Ok changes the files so, and one that is refused leaves them.
abbrev pub ChangedBy : Result (Unit {0}) DirFault → (List File → List File → Type 0) → List File → List File → Type 0
ChangedBy (Ok _) change old new = change old new
ChangedBy (Err _) change old new = new ≡ old

-- Told files change by this step and are told still; files that aren't told stay so.
pub record Tells (step : List File → List File → Type 0) (old new : Folder) : Type 0 where
  pub told : new.told ≡ old.told
  pub files : IsTrue old.told → step old.files new.files

abbrev pub Stays : List File → List File → Type 0
Stays old new = new ≡ old
