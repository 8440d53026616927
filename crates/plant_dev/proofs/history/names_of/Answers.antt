use Rattle.std.proofs.Common.{◌≡◌, ◌+◌, ◌++◌, [], ◌∷◌, List, take, sym, ◌∙◌, ap, subst, rules}
use Rattle.std.proofs.lemmas.List.{take_more}
use Rattle.plant_dev.specs.declared.plant.Stored.{Stored}
use Rattle.plant_dev.specs.Shelf.{NamesIn}
use Rattle.plant_dev.proofs.FolderNames.{names_yes, names_no}
use Rattle.plant_dev.proofs.history.names_of.Goals as goal
use Rattle.plant_dev.proofs.history.names_of.Goals.{then-same+in_ok-push, else-same}

pub loop-item-preserved : goal.loop-item-preserved
loop-item-preserved c =
    let shelf = c.args.shelf.now in
    let folder = c.args.folder.now in
    let i = c.loop-item.item-index in
    let x = c.item-item.result in
    let more : take (i + 1) shelf ≡ take i shelf ++ x ∷ [] = take_more shelf i x c.loop-item-test.true ∙ ap (λ (y : Stored). take i shelf ++ y ∷ []) (sym c.item-item.is) in
    subst (λ (s : List Stored). NamesIn folder s c.if-same.names.items) (sym more)
    (elim c.if-same.branch [
      | then-same+in_ok-push w ↦
          let here : x.folder ≡ folder = c.same.ensures.0 w.if-same.true in
          let is : c.if-same.names.items ≡ c.loop-item.names.items ++ x.name ∷ [] = search rules in
          subst (NamesIn folder (take i shelf ++ x ∷ [])) (sym is) (names_yes folder (take i shelf) x c.loop-item.names.items here c.loop-item.invariant)
      | else-same w ↦
          let is : c.if-same.names.items ≡ c.loop-item.names.items = search rules in
          subst (NamesIn folder (take i shelf ++ x ∷ [])) (sym is) (names_no folder (take i shelf) x c.loop-item.names.items (search rules) c.loop-item.invariant)
    ])
