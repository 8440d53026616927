-- A plant in memory meets the laws of a plant.
use Rattle.std.specs.Prelude.{◌≡◌, ℕ, ◌+◌, ◌-◌, ◌≤◌, List, [], ◌∷◌, ◌++◌, length, take, drop, replicate, refl}
use Rattle.std.proofs.Common.{min, max, arith, ap, sym, subst, ◌∙◌, length-append, length-drop}
use Rattle.std.proofs.lemmas.List.{length-take, length-replicate, take-take, take-append-le, drop_at}
use Rattle.plant_dev.specs.declared.plant.Stored.{Stored}
use Rattle.plant_dev.specs.declared.step.Step.{Step}
use Rattle.plant_dev.specs.declared.step.Step.TheVariants as steps
use Rattle.plant_dev.specs.Disk.{Image, Torn}
use Rattle.plant_dev.specs.Shelf.{HasNoNameTwice}
use Rattle.plant_dev.specs.Memory.{put_at, file_after, shelf_after, IsImage, HasLeft}

-- a write that is whole is one that may have been cut short
module _ (at : ℕ) (bytes file : List ℕ) where
  abbrev pub front : List ℕ
  front = take at file ++ replicate (at - length file) 0

  pub length_front : length front ≡ at
  length_front = omega (arith, length-append (take at file) (replicate (at - length file) 0), length-take at file, length-replicate {A = ℕ} (at - length file) 0)

  length_written : length (put_at at bytes file) ≡ max (length file) (at + length bytes)
  length_written = omega (arith, length_front, length-append (front ++ bytes) (drop (at + length bytes) file), length-append front bytes, length-drop (at + length bytes) file)

  kept : take (min at (length file)) (put_at at bytes file) ≡ take (min at (length file)) file
  kept =
      let k = min at (length file) in
      take-append-le k (front ++ bytes) (drop (at + length bytes) file) (omega (arith, length_front, length-append front bytes))
      ∙ take-append-le k front bytes (omega (arith, length_front))
      ∙ take-append-le k (take at file) (replicate (at - length file) 0) (omega (arith, length-take at file))
      ∙ take-take k at file (omega arith)

  pub put_at_torn : Torn at (length bytes) file (put_at at bytes file)
  put_at_torn = record {
    front = kept;
    back = drop_at (front ++ bytes) (drop (at + length bytes) file) (at + length bytes) (omega (arith, length_front, length-append front bytes));
    no_shorter = omega (arith, length_written);
    no_longer = omega (arith, length_written);
  }

-- what is read is one of the images
pub memory_image : (first : Image) (past : List Step)
    → IsImage first past (record { file = file_after first.file past; shelf = shelf_after first.shelf past })
memory_image first [] = refl
memory_image first (steps.Write at bytes ∷ past) =
    (record { file = file_after first.file past; shelf = shelf_after first.shelf past }, memory_image first past, record { file = put_at_torn at bytes (file_after first.file past); shelf = refl })
memory_image first (steps.Sync ∷ past) = (memory_image first past, refl)
memory_image first (steps.Put item ∷ past) =
    (record { file = file_after first.file past; shelf = shelf_after first.shelf past }, memory_image first past, refl)

pub memory_is_image : (first image : Image) (past : List Step) → image.file ≡ file_after first.file past
    → image.shelf ≡ shelf_after first.shelf past → HasLeft first past (length past) image
memory_is_image first image past file shelf =
    let same : image ≡ record { file = file_after first.file past; shelf = shelf_after first.shelf past } = λ i. record { file = file i; shelf = shelf i } in
    (0, omega arith, subst (IsImage first past) (sym same) (memory_image first past))

pub memory_counts_now : (first : Image) (past : List Step) (t : ℕ) (c : Image) → t ≤ length past
    → HasLeft first past (length past) c → HasLeft first past t c
memory_counts_now first past t c le (k, within, left) = (k, omega arith, left)

-- what may be left now is what the steps may leave
pub now_left : (first : Image) (past : List Step) (c : Image) → HasLeft first past (length past) c → IsImage first past c
now_left first past c (k, within, left) =
    let none : k ≡ 0 = omega arith in
    subst (λ (n : ℕ). IsImage first (drop n past) c) none left

-- the shelf is the same in each image
pub same_shelf : (first : Image) (past : List Step) (c : Image) → IsImage first past c → c.shelf ≡ shelf_after first.shelf past
same_shelf first [] c is = ap (λ (j : Image). j.shelf) is
same_shelf first (steps.Write at bytes ∷ past) c (d, was, step) = step.shelf ∙ same_shelf first past d was
same_shelf first (steps.Sync ∷ past) c (was, file) = same_shelf first past c was
same_shelf first (steps.Put item ∷ past) c (d, was, is) =
    ap (λ (j : Image). j.shelf) is ∙ ap (λ (l : List Stored). l ++ item ∷ []) (same_shelf first past d was)

-- no image has a name twice where the shelf that is read has none
pub memory_no_name_twice : (first image : Image) (past : List Step) → HasNoNameTwice image.shelf → image.shelf ≡ shelf_after first.shelf past
    → (c : Image) → HasLeft first past (length past) c → HasNoNameTwice c.shelf
memory_no_name_twice first image past distinct kept c left =
    subst HasNoNameTwice (kept ∙ sym (same_shelf first past c (now_left first past c left))) distinct
