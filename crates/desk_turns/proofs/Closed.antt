-- What the words and the slot say once a desk is closed.
use Rattle.std.proofs.Common.{◌≡◌, ◌≢◌, ℕ, List, sym, refl, ap, ◌∙◌, subst, Option, Some, None, arith}
use mathlib.Core.Option.{some, some-injective}
use lib.ListN.{get_elem?}
use Rattle.atomic_table.specs.Table.{Final, Seen}
use Rattle.desk_turns.specs.declared.view.View.{View}
use Rattle.desk_turns.specs.declared.view.Stage.TheVariants.{Idle, Spent}
use Rattle.desk_turns.specs.History.{Leads}
use Rattle.desk_turns.specs.Rule.{Phase, at_rest, away, returned, out_word, slot_of, HasTurn, Stands, Kept}
use Rattle.desk_turns.specs.Ends.{Left, Ended, StillOut}
use Rattle.desk_turns.proofs.Lists.{knows_prefix, knows_same, from_start}

module _ {C : Type 0} where
  abbrev core_or : C → Option C → C
  core_or c (Some x) = x
  core_or c None = c

module _ {C E : Type 0} (does : C → E → C → Type 0) (calls : ℕ) (first : C) (id : ℕ) (v : View C E) (ws : List ℕ) (xs : List (Option C)) (f : Final (Seen (Kept does calls first) id v) ws xs) where
  abbrev left : Left does calls first id v
  left = record { table = f.0; kept = f.1.0; there = f.1.1 }

  out_is : (out : ℕ) → get_elem? ws 2 ≡ some out → out ≡ out_word left.kept.story.phase
  out_is out e = sym (some-injective (out_word left.kept.story.phase) out (ap (λ l. get_elem? l 2) (sym left.kept.words ∙ f.2) ∙ e))

  pub is_out : (out : ℕ) → get_elem? ws 2 ≡ some out → out ≢ 0 → StillOut does calls first id v
  is_out out e n =
      let d = left.kept.story in
      let P : Phase → Type 0 = λ p. HasTurn d left.table.views p → out ≡ out_word p → StillOut does calls first id v in
      let go : (p : Phase) → P p = elim [
        | at_rest ↦ (λ b z. absurd (n z))
        | away ↦ (λ b z. record { left = left; holder = d.owner d.served; view = b.1; ticket = d.served; there = b.2; holds = b.3 })
        | returned ↦ (λ b z. absurd (n z))
      ] in
      go d.phase left.kept.facts.turn (out_is out e)

  pub stands_there : (out : ℕ) (x : Option C) → get_elem? ws 2 ≡ some out → out ≡ 0 → get_elem? xs 0 ≡ some x → x ≡ Some left.kept.story.value
  stands_there out x e z at =
      let d = left.kept.story in
      let P : Phase → Type 0 = λ p. out ≡ out_word p → slot_of p d.value ≡ some (Some d.value) in
      let go : (p : Phase) → P p = elim [ at_rest ↦ (λ q. refl) | away ↦ (λ q. absurd (omega arith)) | returned ↦ (λ q. refl) ] in
      let here : get_elem? left.table.homes 0 ≡ some (some (Some d.value)) = ap (λ l. get_elem? l 0) left.kept.homes ∙ ap some (go d.phase (out_is out e)) in
      some-injective x (Some d.value) (sym at ∙ f.4 0 (Some d.value) here)

  pub is_ended : (out : ℕ) (x : Option C) (c : C) → v.stage ≡ Idle → get_elem? ws 2 ≡ some out → out ≡ 0 → get_elem? xs 0 ≡ some x → x ≡ Some c → Ended does calls first id v c
  is_ended out x c idle e z at is =
      let k = left.kept in let d = k.story in
      let same : c ≡ d.value = ap (λ o. core_or c o) (sym is ∙ stands_there out x e z at) in
      let s = k.facts.seats id v left.there in
      let live : v.stage ≢ Spent = λ e. let x : Idle ≡ Spent = sym idle ∙ e in cc in
      record {
        left = left;
        value_is = same;
        sees = (knows_prefix d.history v.numbers v.seen s.knows, knows_same d.history v.numbers v.seen s.knows);
        leads = from_start does v.start first d.history c (s.key_is live).0 (subst (λ y. Leads does first d.history y) (sym same) k.facts.leads);
        nobody = λ j w t there q. let stood = subst (Stands d j w.seen) q (k.facts.seats j w there).stands in
            let one : out ≡ 1 = out_is out e ∙ ap out_word stood.2 in omega arith;
      }
