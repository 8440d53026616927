use Rattle.std.proofs.Common.{rules, ◌≡◌, ◌++◌, [], ◌∷◌, List, IsTrue, take, reverse, sym, ◌∙◌, ap, subst}
use Rattle.std.proofs.lemmas.List.{reverse-append}
use Rattle.std.proofs.lemmas.List.Elements.{All-push}
use Rattle.plant_dev.specs.declared.plant.Stored.{Stored}
use Rattle.plant_dev.specs.declared.step.Step.{Step}
use Rattle.plant_dev.specs.declared.step.Step.TheVariants as steps
use Rattle.plant_dev.specs.Memory.{fits, file_after, shelf_after, first_file_of}
use Rattle.plant_dev.specs.Shelf.{item_of}
use Rattle.plant_dev.proofs.MemoryModel.{shelf_more, no_name_twice_more}
use Rattle.plant_dev.proofs.history.History.add.Goals as goal

pub invariant_of-self-2-clause-all_fit : goal.invariant_of-self-2-clause-all_fit
invariant_of-self-2-clause-all_fit c = rw c.in_ok-push.ensures.items (All-push (λ s. IsTrue (fits s)) _ _ c.args.self.now.all_fit (search rules))

pub invariant_of-self-2-clause-shelf_kept : goal.invariant_of-self-2-clause-shelf_kept
invariant_of-self-2-clause-shelf_kept c =
    let h = c.args.self.now in
    let item = c.in_ok-item.item in
    let again = c.in_ok-again.again in
    let shelf = c.push-2.new.self.items in
    let is : shelf ≡ h.shelf.items ++ item ∷ [] = search rules in
    let same : item ≡ again = c.in_ok-item.ensures ∙ sym c.in_ok-again.ensures in
    let past : reverse c.push.new.self.items ≡ steps.Put item ∷ reverse h.steps.items =
    ap reverse c.in_ok-push.ensures.items ∙ reverse-append h.steps.items (steps.Put again ∷ []) ∙ ap (λ (i : Stored). steps.Put i ∷ reverse h.steps.items) (sym same) in
    subst (λ (p : List Step). shelf ≡ shelf_after (take h.first_items shelf) p) (sym past)
    (shelf_more h.first_items h.shelf.items shelf item (reverse h.steps.items) h.begun is h.shelf_kept)

pub invariant_of-self-2-clause-file_kept : goal.invariant_of-self-2-clause-file_kept
invariant_of-self-2-clause-file_kept c =
    let h = c.args.self.now in
    let past : reverse c.push.new.self.items ≡ steps.Put c.in_ok-again.again ∷ reverse h.steps.items =
    ap reverse c.in_ok-push.ensures.items ∙ reverse-append h.steps.items (steps.Put c.in_ok-again.again ∷ []) in
    subst (λ (p : List Step). h.file.items ≡ file_after (first_file_of h.first_file h.file) p) (sym past) h.file_kept

pub invariant_of-self-2-clause-no_name_twice : goal.invariant_of-self-2-clause-no_name_twice
invariant_of-self-2-clause-no_name_twice c =
    let h = c.args.self.now in
    let item = item_of c.args.folder.now c.args.name.now c.args.bytes.now in
    let is : c.push-2.new.self.items ≡ h.shelf.items ++ item ∷ [] = search rules in
    no_name_twice_more h.shelf.items _ item c.requires is h.no_name_twice
