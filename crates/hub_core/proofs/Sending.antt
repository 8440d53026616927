-- The items that are found are among those that wait, and names.
use Rattle.std.proofs.Common.{◌≡◌, Bool, true, false, cond, List, [], ◌∷◌, Some, refl, ap, ◌∙◌, inl, inr, arith}
use Rattle.std.specs.Prelude.{find, ◌&&◌}
use Rattle.std.proofs.lemmas.Bool.Decides.{Decides-eqb}
use Rattle.mail_names.specs.declared.name.ItemName.{ItemName}
use Rattle.mail_names.specs.declared.name.Mark.{Mark}
use Rattle.mail_names.specs.declared.name.Mark.TheVariants as marks
use Rattle.mail_names.specs.Names.{mark_number, same_name}
use Rattle.hub_core.specs.declared.waiting.WaitingItem.{WaitingItem}
use Rattle.hub_core.specs.Waiting.{is_named, items_in}
use Rattle.hub_core.specs.Items.{Among}

first : (p : WaitingItem → Bool) (y : WaitingItem) (ys : List WaitingItem) (x : WaitingItem) (b : Bool) → p y ≡ b → cond b (Some y) (find p ys) ≡ Some x →
    (find p ys ≡ Some x → Among x.item (items_in ys) × (p x ≡ true)) → Among x.item (items_in (y ∷ ys)) × (p x ≡ true)
first p y ys x true e h later = let same : x ≡ y = cc in (inl (ap (λ (w : WaitingItem). w.item) same), ap p same ∙ e)
first p y ys x false e h later = let rest = later h in (inr rest.0, rest.1)

found : (p : WaitingItem → Bool) (xs : List WaitingItem) (x : WaitingItem) → find p xs ≡ Some x → Among x.item (items_in xs) × (p x ≡ true)
found p [] x h = absurd cc
found p (y ∷ ys) x h = first p y ys x (p y) refl h (found p ys x)

pub both : (a b : Bool) → (a && b) ≡ true → (a ≡ true) × (b ≡ true)
both true b h = (refl, h)
both false b h = absurd cc

mark_is : (a b : Mark) → mark_number a ≡ mark_number b → a ≡ b
mark_is marks.Plain marks.Plain e = refl
mark_is marks.Gate marks.Gate e = refl
mark_is marks.Delay marks.Delay e = refl
mark_is marks.Failure marks.Failure e = refl
mark_is marks.Plain marks.Gate e = absurd (omega arith)
mark_is marks.Plain marks.Delay e = absurd (omega arith)
mark_is marks.Plain marks.Failure e = absurd (omega arith)
mark_is marks.Gate marks.Plain e = absurd (omega arith)
mark_is marks.Gate marks.Delay e = absurd (omega arith)
mark_is marks.Gate marks.Failure e = absurd (omega arith)
mark_is marks.Delay marks.Plain e = absurd (omega arith)
mark_is marks.Delay marks.Gate e = absurd (omega arith)
mark_is marks.Delay marks.Failure e = absurd (omega arith)
mark_is marks.Failure marks.Plain e = absurd (omega arith)
mark_is marks.Failure marks.Gate e = absurd (omega arith)
mark_is marks.Failure marks.Delay e = absurd (omega arith)

pub name_is : (a b : ItemName) → same_name a b ≡ true → a ≡ b
name_is a b h =
    let one = both _ _ h in
    let two = both _ _ one.1 in
    let three = both _ _ two.1 in
    let s = (Decides-eqb a.submission b.submission).0 one.0 in
    let r = (Decides-eqb a.release b.release).0 two.0 in
    let p = (Decides-eqb a.place b.place).0 three.0 in
    let m = mark_is a.mark b.mark ((Decides-eqb (mark_number a.mark) (mark_number b.mark)).0 three.1) in
    λ i. record { submission = s i; release = r i; place = p i; mark = m i }

-- the item of a name that is found is one of those, and has it
pub found_named : (name : ItemName) (xs : List WaitingItem) (x : WaitingItem) → find (is_named name) xs ≡ Some x → Among x.item (items_in xs) × (x.item.name ≡ name)
found_named name xs x h = let f = found (is_named name) xs x h in (f.0, name_is x.item.name name f.1)
