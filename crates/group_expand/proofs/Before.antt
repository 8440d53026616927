-- Where no mailbox forwards, groups alone lead on.
use Rattle.std.specs.Prelude.{◌≡◌, ◌+◌, ℕ, Bool, true, false, not, if◌then◌else◌, ◌&&◌, ◌||◌, List, [], length, map, filter, Option, Some, None, is_some, slice_get, refl}
use Rattle.std.proofs.Common.{sym, ◌∙◌, ap}
use Rattle.std.specs.List.{flat_map}
use Rattle.org_directory.specs.Register.{Register, IsSound, forward_list, is_end, is_group, is_inside, keys_at, members_in, members_of, object_at, object_of, onward_in, onward_of, place_of}
use Rattle.org_directory.specs.declared.object.Object.{Object}
use Rattle.mail_names.specs.declared.route.How.TheVariants as hows
use Rattle.mail_names.specs.declared.route.Step.{Step}
use Rattle.group_expand.specs.Before.{NoForwards, is_leaf_before, groups_web, leaves_before, expanded_leaf, ExpandsAsBefore}
use Rattle.group_expand.specs.Expansion.{how_in, leaf_of, step_of}
use Rattle.group_expand.specs.Routes.{is_leaf, leaves, web_of}
use Rattle.group_expand.specs.Ways.{Web, ways, first_of_each}
use Rattle.group_expand.specs.declared.outcome.Leaf.{Leaf}
use Rattle.group_expand.specs.declared.way.Way.{Way}

-- what holds of no object and of each object holds of the object of a key
each : (reg : Register) (P : Option Object → Type 0) → P None → ((p : ℕ) (o : Object) → slice_get reg.objects p ≡ Some o → P (Some o))
    → (k : List ℕ) → P (object_of reg k)
each reg P none some k = by_place (place_of reg k)
  where
    by_object : (p : ℕ) (x : Option Object) → slice_get reg.objects p ≡ x → P x
    by_object p None e = none
    by_object p (Some o) e = some p o e

    by_place : (o : Option ℕ) → P (object_at reg o)
    by_place None = none
    by_place (Some p) = by_object p (slice_get reg.objects p) refl

end-plain : (o : Object) → o.forward ≡ None → is_end o ≡ not (is_group o.kind)
end-plain o e = ap (λ f. not (is_group o.kind) && (not (is_some f) || o.keep)) e ∙ and-true (not (is_group o.kind))
  where
    and-true : (b : Bool) → (b && true) ≡ b
    and-true true = refl
    and-true false = refl

onward-plain : (o : Object) → o.forward ≡ None → (is_group o.kind ≡ false → o.members ≡ []) → onward_in (Some o) ≡ o.members
onward-plain o e alone = by_kind (is_group o.kind) refl
  where
    by_kind : (b : Bool) → is_group o.kind ≡ b → (if b then o.members else forward_list o.forward) ≡ o.members
    by_kind true i = refl
    by_kind false i = ap forward_list e ∙ sym (alone i)

pub expands-as-before : ExpandsAsBefore
expands-as-before reg closed roots sound none =
    ap (λ web. map (leaf_of reg) (first_of_each (filter (λ w. not (closed w.key)) (flat_map (ways web (length reg.objects + 1) []) roots)))) same-web
    ∙ ap (λ f. map f (leaves_before reg closed roots)) same-leaf
  where
    leaf-same : (k : List ℕ) → is_leaf (object_of reg k) (is_inside reg k) ≡ is_leaf_before (object_of reg k) (is_inside reg k)
    leaf-same k = each reg (λ x. is_leaf x (is_inside reg k) ≡ is_leaf_before x (is_inside reg k)) refl (λ p o e. end-plain o (none p o e)) k

    places-same : (k : List ℕ) → onward_in (object_of reg k) ≡ members_in (object_of reg k)
    places-same k = each reg (λ x. onward_in x ≡ members_in x) refl (λ p o e. onward-plain o (none p o e) (sound.placed p o e).groups_alone) k

    next-same : (k : List ℕ) → onward_of reg k ≡ members_of reg k
    next-same k = ap (keys_at reg) (places-same k)

    same-web : web_of reg closed ≡ groups_web reg closed
    same-web = λ i. record {
      is_end = λ k. closed k || leaf-same k i;
      next = λ k. if closed k then [] else next-same k i;
    }

    how-same : (k : List ℕ) → how_in (object_of reg k) ≡ hows.Expanded
    how-same k = each reg (λ x. how_in x ≡ hows.Expanded) refl (λ p o e. ap (λ f. if is_some f then hows.Forwarded else hows.Expanded) (none p o e)) k

    same-leaf : leaf_of reg ≡ expanded_leaf
    same-leaf = λ i w. record { key = w.key; route = map (λ k. record { key = k; how = how-same k i }) w.route }
