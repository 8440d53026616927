-- The items that wait, as they were made.
use Rattle.std.proofs.Common.{◌≡◌, ℕ, Bool, true, false, cond, List, [], ◌∷◌, ◌++◌, map, refl, ap, ◌∙◌}
use Rattle.mail_names.specs.declared.name.ItemName.{ItemName}
use Rattle.mail_plan.specs.declared.release.Item.{Item}
use Rattle.hub_core.specs.declared.queue.QueuedItem.{QueuedItem}
use Rattle.hub_core.specs.declared.waiting.Due.{Due}
use Rattle.hub_core.specs.declared.waiting.WaitingItem.{WaitingItem}
use Rattle.hub_core.specs.Standing.{queued, waiting_of}
use Rattle.hub_core.specs.Waiting.{is_named, items_in, met, noticed, with_told}

pub items-append : (xs ys : List WaitingItem) → items_in (xs ++ ys) ≡ items_in xs ++ items_in ys
items-append [] ys = refl
items-append (x ∷ xs) ys = ap (λ rest. x.item ∷ rest) (items-append xs ys)

pub items-noticed : (moment : ℕ) (due : Due) (items : List QueuedItem) → items_in (map (noticed moment due) items) ≡ items
items-noticed moment due [] = refl
items-noticed moment due (item ∷ items) = ap (λ rest. item ∷ rest) (items-noticed moment due items)

pub items-met : (moment : ℕ) (ws : List WaitingItem) → items_in (map (met moment) ws) ≡ items_in ws
items-met moment [] = refl
items-met moment (w ∷ ws) = ap (λ rest. w.item ∷ rest) (items-met moment ws)

told_head : (w : WaitingItem) (ws more : List WaitingItem) (t : Bool) → items_in more ≡ items_in ws →
    items_in (cond t (record w { told = true } ∷ ws) (w ∷ more)) ≡ items_in (w ∷ ws)
told_head w ws more true same = refl
told_head w ws more false same = ap (λ rest. w.item ∷ rest) same

pub items-told : (name : ItemName) (ws : List WaitingItem) → items_in (with_told name ws) ≡ items_in ws
items-told name [] = refl
items-told name (w ∷ ws) = told_head w ws (with_told name ws) (is_named name w) (items-told name ws)

pub items-released : (made : ℕ) (texts : List (List ℕ)) (items : List Item) → items_in (map (waiting_of made texts) items) ≡ map (queued texts) items
items-released made texts [] = refl
items-released made texts (item ∷ items) = ap (λ rest. queued texts item ∷ rest) (items-released made texts items)

-- with what is told of
pub items-more : (ws : List WaitingItem) (moment : ℕ) (due : Due) (told : List QueuedItem) → items_in (ws ++ map (noticed moment due) told) ≡ items_in ws ++ told
items-more ws moment due told = items-append ws (map (noticed moment due) told) ∙ ap (λ rest. items_in ws ++ rest) (items-noticed moment due told)
