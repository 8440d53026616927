-- A plant in memory keeps the disk model: one step more, or none.
use Rattle.std.proofs.Common.{◌≡◌, ◌⊎◌, inl, inr, ℕ, zero, suc, ◌+◌, ◌-◌, ◌≤◌, List, [], ◌∷◌, ◌++◌, length, take, drop, get_or, refl, sym, ◌∙◌, ap, subst, arith}
use Rattle.std.proofs.lemmas.List.{drop-drop, take-append-le, get_or_default}
use Rattle.std.proofs.lemmas.List.Quantifiers.{all_pairs_push}
use Rattle.mail_names.specs.declared.name.ItemName.{ItemName}
use Rattle.plant_dev.specs.declared.plant.Stored.{Stored}
use Rattle.plant_dev.specs.declared.step.Step.{Step}
use Rattle.plant_dev.specs.declared.step.Step.TheVariants as steps
use Rattle.plant_dev.specs.Shelf.{Has, HasNoNameTwice, Puts}
use Rattle.plant_dev.specs.Disk.{State, Image, Elapses, Reads, Writes, Shelves, Torn, Settles}
use Rattle.plant_dev.specs.Memory.{Rest, memory_state, HasLeft, IsImage, put_at, file_after, shelf_after, IsAdded}
use Rattle.plant_dev.specs.MemoryLaws.{put_at_torn, memory_image, now_left, same_shelf}

left_now : (first : Image) (past : List Step) (c : Image) → IsImage first past c → HasLeft first past (length past) c
left_now first past c left = (0, omega arith, left)

module _ (first : Image) where
  -- no step
  elapses_same : (i j : Image) (past : List Step) (r r' : Rest) → Elapses (memory_state first i past r) (memory_state first j past r')
  elapses_same i j past r r' = record { later = omega arith; nothing_else = λ t c le left. inl left; keeps = λ t c le left. left }

  before_step : (x : Step) (past : List Step) (t k : ℕ) (c : Image) → t + k ≤ length (x ∷ past)
      → IsImage first (drop k (x ∷ past)) c → HasLeft first past t c ⊎ HasLeft first (x ∷ past) (length (x ∷ past)) c
  before_step x past t zero c within left = inr (left_now first (x ∷ past) c left)
  before_step x past t (suc k) c within left = inl (k, omega arith, left)

  elapses_step : (i j : Image) (x : Step) (past : List Step) (r r' : Rest)
      → Elapses (memory_state first i past r) (memory_state first j (x ∷ past) r')
  elapses_step i j x past r r' = record {
    later = omega arith;
    nothing_else = λ t c le left. before_step x past t left.0 c left.1 left.2;
    keeps = λ t c le left. (suc left.0, omega (arith, left.1), left.2);
  }

  writes_step : (i : Image) (past : List Step) (r r' : Rest) (at : ℕ) (bytes : List ℕ)
      → Writes at bytes (memory_state first i past r) (memory_state first (record { file = put_at at bytes i.file; shelf = i.shelf }) (steps.Write at bytes ∷ past) r')
  writes_step i past r r' at bytes = record {
    image = record { file = put_at_torn at bytes i.file; shelf = refl };
    crash = λ c left. let (from, was, step) = now_left first (steps.Write at bytes ∷ past) c left in (from, left_now first past from was, step);
    time = elapses_step i (record { file = put_at at bytes i.file; shelf = i.shelf }) (steps.Write at bytes) past r r';
  }

  before_sync : (past : List Step) (t k : ℕ) (c : Image) → t ≤ length past → t + k ≤ length (steps.Sync ∷ past)
      → IsImage first (drop k (steps.Sync ∷ past)) c → HasLeft first past t c
  before_sync past t zero c le within left = (0, omega arith, left.0)
  before_sync past t (suc k) c le within left = (k, omega arith, left)

  sync_step : (i : Image) (past : List Step) (r r' : Rest) → Reads (memory_state first i past r) (memory_state first i (steps.Sync ∷ past) r')
  sync_step i past r r' = record {
    image = refl;
    crash = λ c left. left_now first past c (now_left first (steps.Sync ∷ past) c left).0;
    later = omega arith;
    nothing_new = λ t c le left. before_sync past t left.0 c le left.1 left.2;
    keeps = λ t c le left. (suc left.0, omega (arith, left.1), left.2);
  }

  put_step : (i : Image) (past : List Step) (r r' : Rest) (item : Stored) → ((c : Image) → IsImage first past c → Has item.folder item.name c.shelf → ⊥)
      → (Has item.folder item.name i.shelf → ⊥)
      → Shelves (Puts item) (memory_state first i past r) (memory_state first (record { file = i.file; shelf = i.shelf ++ item ∷ [] }) (steps.Put item ∷ past) r')
  put_step i past r r' item free here = record {
    image = record { file = refl; shelf = inr (here, refl) };
    crash = λ c left. let (from, was, is) = now_left first (steps.Put item ∷ past) c left in (from, left_now first past from was, record { file = ap (λ (j : Image). j.file) is; shelf = inr (free from was, ap (λ (j : Image). j.shelf) is) });
    time = elapses_step i (record { file = i.file; shelf = i.shelf ++ item ∷ [] }) (steps.Put item) past r r';
  }

-- the same, where what is there afterwards is known by equations
pub writes_to : (first first' i i' : Image) (past past' : List Step) (r r' : Rest) (at : ℕ) (bytes : List ℕ)
    → first' ≡ first → i' ≡ record { file = put_at at bytes i.file; shelf = i.shelf } → past' ≡ steps.Write at bytes ∷ past
    → Writes at bytes (memory_state first i past r) (memory_state first' i' past' r')
writes_to first first' i i' past past' r r' at bytes f is p =
    subst (λ (z : Image). Writes at bytes (memory_state first i past r) (memory_state z i' past' r')) (sym f)
    (subst (λ (z : Image). Writes at bytes (memory_state first i past r) (memory_state first z past' r')) (sym is)
    (subst (λ (z : List Step). Writes at bytes (memory_state first i past r) (memory_state first (record { file = put_at at bytes i.file; shelf = i.shelf }) z r')) (sym p) (writes_step first i past r r' at bytes)))

pub sync_to : (first first' i i' : Image) (past past' : List Step) (r r' : Rest)
    → first' ≡ first → i' ≡ i → past' ≡ steps.Sync ∷ past
    → Reads (memory_state first i past r) (memory_state first' i' past' r')
sync_to first first' i i' past past' r r' f is p =
    subst (λ (z : Image). Reads (memory_state first i past r) (memory_state z i' past' r')) (sym f)
    (subst (λ (z : Image). Reads (memory_state first i past r) (memory_state first z past' r')) (sym is)
    (subst (λ (z : List Step). Reads (memory_state first i past r) (memory_state first i z r')) (sym p) (sync_step first i past r r')))

pub put_to : (first first' i i' : Image) (past past' : List Step) (r r' : Rest) (item : Stored)
    → i.shelf ≡ shelf_after first.shelf past
    → (Has item.folder item.name i.shelf → ⊥)
    → first' ≡ first → i' ≡ record { file = i.file; shelf = i.shelf ++ item ∷ [] } → past' ≡ steps.Put item ∷ past
    → Shelves (Puts item) (memory_state first i past r) (memory_state first' i' past' r')
put_to first first' i i' past past' r r' item kept none f is p =
    subst (λ (z : Image). Shelves (Puts item) (memory_state first i past r) (memory_state z i' past' r')) (sym f)
    (subst (λ (z : Image). Shelves (Puts item) (memory_state first i past r) (memory_state first z past' r')) (sym is)
    (subst (λ (z : List Step). Shelves (Puts item) (memory_state first i past r) (memory_state first (record { file = i.file; shelf = i.shelf ++ item ∷ [] }) z r')) (sym p)
    (put_step first i past r r' item (λ c was has. none (subst (Has item.folder item.name) (same_shelf first past c was ∙ sym kept) has)) none)))

-- an item that is there stays as it is
pub there_to : (first i : Image) (past : List Step) (r r' : Rest) (item : Stored)
    → i.shelf ≡ shelf_after first.shelf past → Has item.folder item.name i.shelf
    → Shelves (Puts item) (memory_state first i past r) (memory_state first i past r')
there_to first i past r r' item kept there = record {
  image = record { file = refl; shelf = inl (there, refl) };
  crash = λ c left. (c, left, record { file = refl; shelf = inl (subst (Has item.folder item.name) (kept ∙ sym (same_shelf first past c (now_left first past c left))) there, refl) });
  time = elapses_same first i i past r r';
}

pub settled : (first i : Image) (past : List Step) (r : Rest) (folder : List ℕ) (name : ItemName)
    → i.shelf ≡ shelf_after first.shelf past → Settles folder name (memory_state first i past r)
settled first i past r folder name kept c left =
    let same = same_shelf first past c (now_left first past c left) ∙ sym kept in
    (λ has. subst (Has folder name) same has, λ has. subst (Has folder name) (sym same) has)

-- what a sync leaves, as far as the steps have been gone through
pub replay_sync : (first : Image) (past : List Step) (full torn : List ℕ) (shelf : List Stored)
    → full ≡ file_after first.file past → IsImage first past (record { file = torn; shelf = shelf })
    → IsImage first past (record { file = full; shelf = shelf })
replay_sync first past full torn shelf whole image =
    let same : record { file = file_after first.file past; shelf = shelf_after first.shelf past } ≡ record { file = full; shelf = shelf } =
    λ i. record { file = sym whole i; shelf = sym (same_shelf first past (record { file = torn; shelf = shelf }) image) i } in
    subst (IsImage first past) same (memory_image first past)

-- a part of the front of a write is torn as the write may be
pub torn_more : (at m n : ℕ) (old after : List ℕ) → m ≤ n → Torn at m old after → Torn at n old after
torn_more at m n old after le torn = record {
  front = torn.front;
  back =
      ap (λ (k : ℕ). drop k after) (let e : at + n ≡ at + m + (n - m) = omega arith in e)
      ∙ sym (drop-drop (n - m) (at + m) after)
      ∙ ap (λ (l : List ℕ). drop (n - m) l) torn.back
      ∙ drop-drop (n - m) (at + m) old
      ∙ ap (λ (k : ℕ). drop k old) (let e : at + m + (n - m) ≡ at + n = omega arith in e);
  no_shorter = torn.no_shorter;
  no_longer = omega (arith, torn.no_longer);
}

pub added_to : (first first' i i' : Image) (past past' : List Step) (r r' : Rest) (item : Stored)
    → i.shelf ≡ shelf_after first.shelf past → first' ≡ first → IsAdded item i i' past past'
    → Shelves (Puts item) (memory_state first i past r) (memory_state first' i' past' r')
added_to first first' i i' past past' r r' item kept f (inr (none, is, p)) = put_to first first' i i' past past' r r' item kept none f is p
added_to first first' i i' past past' r r' item kept f (inl (there, is, p)) =
    subst (λ (z : Image). Shelves (Puts item) (memory_state first i past r) (memory_state z i' past' r')) (sym f)
    (subst (λ (z : Image). Shelves (Puts item) (memory_state first i past r) (memory_state first z past' r')) (sym is)
    (subst (λ (z : List Step). Shelves (Puts item) (memory_state first i past r) (memory_state first i z r')) (sym p) (there_to first i past r r' item kept there)))

-- a shelf's step that allows more
pub shelves_by : (step wide : List Stored → List Stored → Type 0) (old after : State) → ((a b : List Stored) → step a b → wide a b)
    → Shelves step old after → Shelves wide old after
shelves_by step wide old after to puts = record {
  image = record { file = puts.image.file; shelf = to old.image.shelf after.image.shelf puts.image.shelf };
  crash = λ c left. let (from, was, by) = puts.crash c left in (from, was, record { file = by.file; shelf = to from.shelf c.shelf by.shelf });
  time = puts.time;
}

-- an item more on the shelf, which keeps the items that it began with
pub shelf_more : (n : ℕ) (old after : List Stored) (item : Stored) (past : List Step) → n ≤ length old → after ≡ old ++ item ∷ []
    → old ≡ shelf_after (take n old) past → after ≡ shelf_after (take n after) (steps.Put item ∷ past)
shelf_more n old after item past begun is kept =
    let same : take n after ≡ take n old = ap (take n) is ∙ take-append-le n old (item ∷ []) begun in
    is ∙ ap (λ (l : List Stored). l ++ item ∷ []) (kept ∙ ap (λ (l : List Stored). shelf_after l past) (sym same))

pub no_name_twice_none : (shelf : List Stored) → shelf ≡ [] → HasNoNameTwice shelf
no_name_twice_none shelf none i j d lt within = absurd (omega (arith, ap length none))

-- an item more, of a folder and name that none has
pub no_name_twice_more : (old after : List Stored) (item : Stored) → (Has item.folder item.name old → ⊥) → after ≡ old ++ item ∷ []
    → HasNoNameTwice old → HasNoNameTwice after
no_name_twice_more old after item free is distinct =
    subst HasNoNameTwice (sym is)
    (all_pairs_push (λ (a b : Stored). a.folder ≡ b.folder → a.name ≡ b.name → ⊥) old item distinct
    (λ k d within folder name. free (k, get_or old k d, within, get_or_default old k (get_or old k d) d within, (folder, name))))

-- what a crash leaves of a shelf that has none, where the steps and what they began with are these
pub no_name_twice_left : (first : Image) (past was : List Step) (shelf begun : List Stored) (c : Image) → IsImage first past c → HasNoNameTwice shelf
    → shelf ≡ shelf_after begun was → first.shelf ≡ begun → past ≡ was → HasNoNameTwice c.shelf
no_name_twice_left first past was shelf begun c left distinct kept same steps =
    subst HasNoNameTwice
    (kept ∙ ap (λ (l : List Stored). shelf_after l was) (sym same) ∙ ap (shelf_after first.shelf) (sym steps) ∙ sym (same_shelf first past c left)) distinct
