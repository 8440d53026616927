-- The names of a folder's items, with one item more on the shelf.
use Rattle.std.proofs.Common.{◌≡◌, inl, inr, ℕ, List, [], ◌∷◌, ◌++◌, refl, ap}
use Rattle.mail_names.specs.declared.name.ItemName.{ItemName}
use Rattle.plant_dev.specs.declared.plant.Stored.{Stored}
use Rattle.plant_dev.specs.Shelf.{NamesIn}

-- the item is in the folder, or in another
pub names_yes : (folder : List ℕ) (shelf : List Stored) (x : Stored) (names : List ItemName) → x.folder ≡ folder
    → NamesIn folder shelf names → NamesIn folder (shelf ++ x ∷ []) (names ++ x.name ∷ [])
names_yes folder [] x names here in_it = inl (here, ([], refl, ap (λ (l : List ItemName). l ++ x.name ∷ []) in_it))
names_yes folder (i ∷ shelf) x names here (inl (f, (rest, deep, is))) =
    inl (f, (rest ++ x.name ∷ [], names_yes folder shelf x rest here deep, ap (λ (l : List ItemName). l ++ x.name ∷ []) is))
names_yes folder (i ∷ shelf) x names here (inr (other, deep)) = inr (other, names_yes folder shelf x names here deep)

pub names_no : (folder : List ℕ) (shelf : List Stored) (x : Stored) (names : List ItemName) → (x.folder ≡ folder → ⊥)
    → NamesIn folder shelf names → NamesIn folder (shelf ++ x ∷ []) names
names_no folder [] x names other in_it = inr (other, in_it)
names_no folder (i ∷ shelf) x names other (inl (f, (rest, deep, is))) = inl (f, (rest, names_no folder shelf x rest other deep, is))
names_no folder (i ∷ shelf) x names other (inr (not_here, deep)) = inr (not_here, names_no folder shelf x names other deep)
