-- Names and texts of a release.
use Rattle.std.proofs.Common.{◌≡◌, ℕ, ◌+◌, ◌<◌, ◌==◌, nat_lt, Bool, true, false, ◌||◌, ◌&&◌, not, if◌then◌else◌, List, [], ◌∷◌, ◌++◌, fold, length, bytes_eq, refl, sym, ◌∙◌, subst, rules, arith}
use Rattle.std.proofs.lemmas.Grind.{common_steps}
use Rattle.std.proofs.lemmas.List.Folds.{list_any-append}
use Rattle.std.proofs.lemmas.Bool.Decides.{nat_tests}
use Rattle.mail_plan.specs.declared.release.Item.{Item}
use Rattle.mail_plan.specs.Planning.{is_among, are_distinct, are_named, use_texts}
use Rattle.rule_engine.specs.Run.{is_text, with_text, place_of}
use Rattle.rule_engine.proofs.Offered.{place_of-later, place_of-new, is_text-new}
use Rattle.categorizer.specs.declared.parts.Draft.{Draft}
use Rattle.categorizer.specs.Releasing.{draft_texts, items_from}
use Rattle.categorizer.proofs.Lists.{same_bytes, bytes_same}

pub and_true : (a b : Bool) → a ≡ true → b ≡ true → (a && b) ≡ true
and_true true b f g = g
and_true false b f g = f

pub number_same : (n : ℕ) → (n == n) ≡ true
number_same n = search rules

pub named : (number release place : ℕ) (texts : List (List ℕ)) (drafts : List Draft) → are_named number release place (items_from number release place texts drafts) ≡ true
named number release place texts [] = refl
named number release place texts (draft ∷ drafts) =
    and_true ((number == number) && ((release == release) && ((place == place) && true))) (are_named number release (place + 1) (items_from number release (place + 1) texts drafts))
    (and_true (number == number) ((release == release) && ((place == place) && true)) (number_same number)
    (and_true (release == release) ((place == place) && true) (number_same release) (and_true (place == place) true (number_same place) refl)))
    (named number release (place + 1) texts drafts)

pub false_of : (a b : Bool) → (a ≡ true → b ≡ true) → b ≡ false → a ≡ false
false_of true b f e = sym (f refl) ∙ e
false_of false b f e = refl

bytes_sym : (a b : List ℕ) → bytes_eq a b ≡ true → bytes_eq b a ≡ true
bytes_sym a b h = subst (λ x. bytes_eq x a ≡ true) (same_bytes a b h) (bytes_same a)

or_parts : (a b : Bool) → (a || b) ≡ false → (a ≡ false) × (b ≡ false)
or_parts true b h = absurd (cc)
or_parts false b h = (refl, h)

or_none : (a b : Bool) → a ≡ false → b ≡ false → (a || (b || false)) ≡ false
or_none true b f g = f
or_none false true f g = g
or_none false false f g = refl

pub and_parts : (a b : Bool) → (a && b) ≡ true → (a ≡ true) × (b ≡ true)
and_parts true b h = (refl, h)
and_parts false b h = absurd (cc)

not_false : (a : Bool) → a ≡ false → not a ≡ true
not_false true h = sym h
not_false false h = refl

pub of_not : (a : Bool) → not a ≡ true → a ≡ false
of_not true h = sym h
of_not false h = refl

distinct-push : (keys : List (List ℕ)) (key : List ℕ) → are_distinct keys ≡ true → is_among key keys ≡ false → are_distinct (keys ++ key ∷ []) ≡ true
distinct-push [] key h e = refl
distinct-push (other ∷ keys) key h e =
    let parts = and_parts (not (is_among other keys)) (are_distinct keys) h in
    let apart = or_parts (bytes_eq key other) (is_among key keys) e in
    and_true (not (is_among other (keys ++ key ∷ []))) (are_distinct (keys ++ key ∷ []))
    (not_false (is_among other (keys ++ key ∷ [])) (list_any-append (bytes_eq other) keys (key ∷ [])
    ∙ or_none (is_among other keys) (bytes_eq other key) (of_not (is_among other keys) parts.0)
    (false_of (bytes_eq other key) (bytes_eq key other) (bytes_sym other key) apart.0)))
    (distinct-push keys key parts.1 apart.1)

distinct-with : (keys : List (List ℕ)) (key : List ℕ) (b : Bool) → is_text keys key ≡ b → are_distinct keys ≡ true → are_distinct (if b then keys else keys ++ key ∷ []) ≡ true
distinct-with keys key true e h = h
distinct-with keys key false e h = distinct-push keys key h e

pub distinct-fold : (more keys : List (List ℕ)) → are_distinct keys ≡ true → are_distinct (fold with_text keys more) ≡ true
distinct-fold [] keys h = h
distinct-fold (key ∷ more) keys h = distinct-fold more (with_text keys key) (distinct-with keys key (is_text keys key) refl h)

place_of-below-at : (text other : List ℕ) (others : List (List ℕ)) (b : Bool) → (is_text others text ≡ true → place_of others text < length others) →
    (b || is_text others text) ≡ true → (if b then 0 else place_of others text + 1) < length (other ∷ others)
place_of-below-at text other others true step h = grind (arith, common_steps)
place_of-below-at text other others false step h = let below : place_of others text < length others = step h in grind (arith, common_steps)

place_of-below : (texts : List (List ℕ)) (text : List ℕ) → is_text texts text ≡ true → place_of texts text < length texts
place_of-below [] text h = absurd (cc)
place_of-below (other ∷ others) text h = place_of-below-at text other others (bytes_eq text other) (place_of-below others text) h

use-old : (place used count : ℕ) (items : List Item) → place < used → use_texts used count items ≡ true →
    (if nat_lt place used then use_texts used count items else (place == used && use_texts (used + 1) count items)) ≡ true
use-old place used count items below h = let e : nat_lt place used ≡ true = grind (arith, nat_tests) in rw e h

use-next : (place used next count : ℕ) (items : List Item) → place ≡ used → next ≡ used + 1 → use_texts next count items ≡ true →
    (if nat_lt place used then use_texts used count items else (place == used && use_texts (used + 1) count items)) ≡ true
use-next place used next count items same more h =
    let e : nat_lt place used ≡ false = grind (arith, nat_tests) in
    let f : (place == used) ≡ true = subst (λ n. (n == used) ≡ true) (sym same) (number_same used) in
    rw e (and_true (place == used) (use_texts (used + 1) count items) f (subst (λ n. use_texts n count items ≡ true) more h))

used-at : (texts rest : List (List ℕ)) (text : List ℕ) (items : List Item) (b : Bool) → is_text texts text ≡ b →
    let next : List (List ℕ) = if b then texts else texts ++ text ∷ [] in
    use_texts (length next) (length (fold with_text next rest)) items ≡ true →
    (if nat_lt (place_of (fold with_text next rest) text) (length texts) then use_texts (length texts) (length (fold with_text next rest)) items
    else (place_of (fold with_text next rest) text == length texts && use_texts (length texts + 1) (length (fold with_text next rest)) items)) ≡ true
used-at texts rest text items true is h =
    use-old _ _ _ items (subst (λ n. n < length texts) (sym (place_of-later rest texts text is)) (place_of-below texts text is)) h
used-at texts rest text items false is h =
    use-next _ (length texts) (length (texts ++ text ∷ [])) _ items
    (place_of-later rest (texts ++ text ∷ []) text (is_text-new texts text) ∙ place_of-new texts text is)
    (grind (arith, common_steps)) h

pub used_in_order : (number release place : ℕ) (drafts : List Draft) (texts : List (List ℕ)) →
    use_texts (length texts) (length (fold with_text texts (draft_texts drafts))) (items_from number release place (fold with_text texts (draft_texts drafts)) drafts) ≡ true
used_in_order number release place [] texts = number_same (length texts)
used_in_order number release place (draft ∷ drafts) texts =
    used-at texts (draft_texts drafts) draft.text _ (is_text texts draft.text) refl
    (used_in_order number release (place + 1) drafts (with_text texts draft.text))
