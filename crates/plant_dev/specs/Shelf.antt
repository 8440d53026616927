-- The items of a shelf, the first put first, and what a call answers about them.
use Rattle.std.specs.Prelude.{◌≡◌, ◌⊎◌, ◌↔◌, ⊤, ℕ, Bool, IsTrue, List, [], ◌∷◌, ◌++◌, Option, Some, None, Result, Ok, Err, IfOk, Any, AllPairs, Vec, IsPermutation, IsSorted}
use Rattle.std.specs.declared.alloc.Global.{Global}
use Rattle.std.specs.declared.cmp.Ordering.{Ordering}
use Rattle.mail_names.specs.declared.name.ItemName.{ItemName}
use Rattle.plant_dev.specs.declared.plant.ShelfFault.{ShelfFault}
use Rattle.plant_dev.specs.declared.plant.ShelfFault.TheVariants.{Failed, NoMemory}
use Rattle.plant_dev.specs.declared.plant.Stored.{Stored}

-- the item of this folder and name with these bytes
abbrev pub item_of : List ℕ → ItemName → List ℕ → Stored
item_of folder name bytes = record { folder = folder; name = name; bytes = bytes }

-- an item of this folder and name is on the shelf
abbrev pub Has : List ℕ → ItemName → List Stored → Type 0
Has folder name shelf = Any (λ (i : Stored). (i.folder ≡ folder) × (i.name ≡ name)) shelf

-- and it has these bytes
abbrev pub HasBytes : List ℕ → ItemName → List ℕ → List Stored → Type 0
HasBytes folder name bytes shelf = Any (λ (i : Stored). i ≡ item_of folder name bytes) shelf

-- No two items have the same folder and name.
abbrev pub HasNoNameTwice : List Stored → Type 0
HasNoNameTwice shelf = AllPairs (λ (a b : Stored). a.folder ≡ b.folder → a.name ≡ b.name → ⊥) shelf

-- An item that is there stays as it is; one that isn't comes, whole.
abbrev pub Puts : Stored → List Stored → List Stored → Type 0
Puts item old after =
    (Has item.folder item.name old × (after ≡ old))
    ⊎ ((Has item.folder item.name old → ⊥) × (after ≡ old ++ item ∷ []))

-- what a put does to a shelf, by its answer: after Failed the item may have come
abbrev pub PutBy : Result (Unit {0}) ShelfFault → Stored → List Stored → List Stored → Type 0
PutBy (Ok _) item old after = Puts item old after
PutBy (Err Failed) item old after = (after ≡ old) ⊎ Puts item old after
PutBy (Err NoMemory) item old after = after ≡ old

-- the answer to whether the item is there
abbrev pub HasAnswer : List ℕ → ItemName → Result Bool ShelfFault → List Stored → Type 0
HasAnswer folder name result shelf = IfOk result (λ yes. IsTrue yes ↔ Has folder name shelf)

-- the answer to what the item's bytes are
abbrev pub FetchAnswer : List ℕ → ItemName → Result (Option (List ℕ)) ShelfFault → List Stored → Type 0
FetchAnswer folder name (Ok None) shelf = Has folder name shelf → ⊥
FetchAnswer folder name (Ok (Some bytes)) shelf = HasBytes folder name bytes shelf
FetchAnswer folder name (Err _) shelf = ⊤

-- the names of a folder's items, in the order of the shelf
abbrev pub NamesIn : List ℕ → List Stored → List ItemName → Type 0
NamesIn folder [] names = names ≡ []
NamesIn folder (i ∷ shelf) names =
    ((i.folder ≡ folder) × ((rest : List ItemName) × NamesIn folder shelf rest × (names ≡ i.name ∷ rest)))
    ⊎ ((i.folder ≡ folder → ⊥) × NamesIn folder shelf names)

-- the answer to which items a folder has: their names, ascending by this order
abbrev pub ListAnswer : (ItemName → ItemName → Ordering) → List ℕ → Result (Vec ItemName Global) ShelfFault → List Stored → Type 0
ListAnswer cmp folder result shelf =
    IfOk result (λ names. (found : List ItemName) × NamesIn folder shelf found × IsPermutation found names.items × IsSorted cmp names.items)

-- A told shelf changes by this step and is told still; one that isn't told stays so.
abbrev pub Tells : (List Stored → List Stored → Type 0) → Option (List Stored) → Option (List Stored) → Type 0
Tells step None None = ⊤
Tells step (Some old) (Some after) = step old after
Tells step None (Some after) = ⊥
Tells step (Some old) None = ⊥

-- This holds of the shelf, where it is told.
abbrev pub IsTold : (List Stored → Type 0) → Option (List Stored) → Type 0
IsTold P None = ⊤
IsTold P (Some shelf) = P shelf
