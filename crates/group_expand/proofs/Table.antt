-- The table of closed objects, and the two parts of the ways.
use Rattle.std.specs.Prelude.{◌≡◌, ◌<◌, ◌+◌, ℕ, zero, suc, Bool, true, false, not, ◌&&◌, ◌||◌, List, [], ◌∷◌, ◌++◌, ◌⊎◌, length, get_or, filter, Option, Some, None, refl, map}
use Rattle.std.proofs.Common.{sym, ◌∙◌, ap, subst, inl, inr, arith, length-append, append_assoc}
use Rattle.org_directory.specs.Register.{Register, place_of, among, is_inside, object_at}
use Rattle.std.specs.List.{list_any}
use Rattle.std.specs.Str.{bytes_eq}
use Rattle.std.proofs.lemmas.List.Folds.{list_any-append}
use Rattle.std.proofs.lemmas.List.{length-replicate, map-append}
use Rattle.std.proofs.lemmas.List.Elements.{filter-append}
use Rattle.group_expand.specs.Ways.{here, fresh, first_of_each}
use Rattle.org_directory.specs.Membership.{needs_approval, object_needs}
use Rattle.group_expand.specs.Expansion.{is_closed, opens, MoreGatesOpen}
use Rattle.mail_names.specs.declared.gate.Gate.{Gate}
use Rattle.group_expand.specs.Places.{no_marks}
use Rattle.group_expand.proofs.Growth.{first-filter}
use Rattle.group_expand.specs.declared.way.Way.{Way}
use Rattle.group_expand.specs.Routes.{shut_by, shut_at, kept, IsTable, all_ways, leaves, closed_met, keys_of, is_unknown, with_unknown, unknown_ways}
use Rattle.org_directory.proofs.Offered.{found-below}
use Rattle.group_expand.proofs.Steps.{all-false}

get-front : (xs ys : List Bool) (p : ℕ) → p < length xs → get_or (xs ++ ys) p false ≡ get_or xs p false
get-front [] ys p h = absurd (omega arith)
get-front (x ∷ xs) ys zero h = refl
get-front (x ∷ xs) ys (suc p) h = get-front xs ys p (omega arith)

get-last : (xs : List Bool) (b : Bool) → get_or (xs ++ b ∷ []) (length xs) false ≡ b
get-last [] b = refl
get-last (x ∷ xs) b = get-last xs b

pub table-more : (old after : List Bool) (b : Bool) (n : ℕ) (f : ℕ → Bool) → after ≡ old ++ b ∷ [] → length old ≡ n
    → ((p : ℕ) → p < n → get_or old p false ≡ f p) → b ≡ f n
    → (length after ≡ n + 1) × ((p : ℕ) → p < n + 1 → get_or after p false ≡ f p)
table-more old after b n f e long each last = (
  ap length e ∙ (length-append old (b ∷ []) ∙ ap (λ m. m + 1) long),
  λ p h. ap (λ xs. get_or xs p false) e ∙ at p (split p h),
)
  where
    split : (p : ℕ) → p < n + 1 → (p < n) ⊎ (p ≡ n)
    split p h = grind arith

    at : (p : ℕ) → (p < n) ⊎ (p ≡ n) → get_or (old ++ b ∷ []) p false ≡ f p
    at p (inl h) = get-front old (b ∷ []) p (subst (λ m. p < m) (sym long) h) ∙ each p h
    at p (inr h) =
        let place : p ≡ length old = h ∙ sym long in
        subst (λ q. get_or (old ++ b ∷ []) q false ≡ f p) (sym place) (get-last old b ∙ (last ∙ ap f (sym h)))

-- A table gives the same answer for each key.
pub table-is : (reg : Register) (closed : List ℕ → Bool) (table : List Bool) → IsTable reg closed table
    → ((k : List ℕ) → place_of reg k ≡ None → closed k ≡ false) → shut_by reg table ≡ closed
table-is reg closed table t none = λ i k. by_place k (place_of reg k) refl i
  where
    by_place : (k : List ℕ) (o : Option ℕ) → place_of reg k ≡ o → shut_at table o ≡ closed k
    by_place k None e = sym (none k e)
    by_place k (Some p) e = t.each p (found-below reg k p e).0 ∙ ap closed (sym (found-below reg k p e).1)

pub kept-last : (f : Way → Bool) (ws : List Way) (w : Way) → filter f (ws ++ w ∷ []) ≡ filter f ws ++ kept (f w) w
kept-last f ws w = filter-append f ws (w ∷ []) ∙ ap (λ r. filter f ws ++ r) (by_test (f w) refl)
  where
    by_test : (b : Bool) → f w ≡ b → filter f (w ∷ []) ≡ kept b w
    by_test true e = rw e refl
    by_test false e = rw e refl

-- One more way, put into its part.
pub part-more : {X : Type 0} (g : Way → X) (f : Way → Bool) (ws : List Way) (w : Way) (b : Bool) (old new : List X)
    → old ≡ map g (filter f ws) → b ≡ f w → new ≡ old ++ map g (kept b w) → new ≡ map g (filter f (ws ++ w ∷ []))
part-more g f ws w b old new before is put =
    put ∙ (ap (λ xs. xs ++ map g (kept b w)) before
    ∙ (ap (λ c. map g (filter f ws) ++ map g (kept c w)) is
    ∙ (sym (map-append g (filter f ws) (kept (f w) w)) ∙ ap (map g) (sym (kept-last f ws w)))))

-- the leaves and the closed objects from the first ways
pub leaves-from : (reg : Register) (closed : List ℕ → Bool) (roots : List (List ℕ))
    → filter (λ w. not (closed w.key)) (first_of_each (all_ways reg closed roots)) ≡ leaves reg closed roots
leaves-from reg closed roots = sym (first-filter (λ k. not (closed k)) (λ k. false) (all_ways reg closed roots))

pub closed-from : (reg : Register) (closed : List ℕ → Bool) (roots : List (List ℕ))
    → filter (λ w. closed w.key) (first_of_each (all_ways reg closed roots)) ≡ closed_met reg closed roots
closed-from reg closed roots = sym (first-filter closed (λ k. false) (all_ways reg closed roots))

filter-all : (ws : List Way) → filter (λ w. true) ws ≡ ws
filter-all [] = refl
filter-all (w ∷ ws) = ap (λ r. w ∷ r) (filter-all ws)

pub open-table : (reg : Register) → shut_by reg (no_marks reg.objects) ≡ (λ k. false)
open-table reg = table-is reg (λ k. false) (no_marks reg.objects)
    (record { long = length-replicate (length reg.objects) false; each = λ p h. all-false (length reg.objects) p })
    (λ k e. refl)

pub open-leaves : (reg : Register) (roots : List (List ℕ)) → first_of_each (all_ways reg (λ k. false) roots) ≡ leaves reg (λ k. false) roots
open-leaves reg roots = ap first_of_each (sym (filter-all (all_ways reg (λ k. false) roots)))

pub all-leaves : (reg : Register) (roots : List (List ℕ)) → first_of_each (all_ways reg (shut_by reg (no_marks reg.objects)) roots) ≡ leaves reg (λ k. false) roots
all-leaves reg roots = ap (λ f. first_of_each (all_ways reg f roots)) (open-table reg) ∙ open-leaves reg roots

-- What is no object isn't closed.
pub not-closed : (reg : Register) (sender : Option (List ℕ)) (opened : List Gate) (k : List ℕ) → place_of reg k ≡ None → is_closed reg sender opened k ≡ false
not-closed reg sender opened k e = ap (λ p. object_needs reg (object_at reg p) sender && not (list_any (opens k) opened)) e

pub closed-table : (reg : Register) (sender : Option (List ℕ)) (opened : List Gate) (table : List Bool) → IsTable reg (is_closed reg sender opened) table
    → shut_by reg table ≡ is_closed reg sender opened
closed-table reg sender opened table t = table-is reg (is_closed reg sender opened) table t (not-closed reg sender opened)

-- the unknown roots
or-swap : (a b : Bool) → (b || a) ≡ (a || (b || false))
or-swap true true = refl
or-swap true false = refl
or-swap false true = refl
or-swap false false = refl

pub unknown-step : (reg : Register) (keys rs : List (List ℕ)) (r : List ℕ)
    → keys ++ keys_of (fresh (λ k. among k keys) (unknown_ways reg (r ∷ rs)))
    ≡ with_unknown (is_unknown (place_of reg r) (is_inside reg r)) (among r keys) keys r
    ++ keys_of (fresh (λ k. among k (with_unknown (is_unknown (place_of reg r) (is_inside reg r)) (among r keys) keys r)) (unknown_ways reg rs))
unknown-step reg keys rs r = by_test (is_unknown (place_of reg r) (is_inside reg r)) (among r keys) refl
  where
    by_test : (b c : Bool) → among r keys ≡ c
        → keys ++ keys_of (fresh (λ k. among k keys) (here b [] r ++ unknown_ways reg rs))
        ≡ with_unknown b c keys r ++ keys_of (fresh (λ k. among k (with_unknown b c keys r)) (unknown_ways reg rs))
    by_test false c e = refl
    by_test true true e = rw e refl
    by_test true false e =
        let funs : (λ k. bytes_eq k r || among k keys) ≡ (λ k. among k (keys ++ r ∷ []))
        = λ i k. (or-swap (among k keys) (bytes_eq k r) ∙ sym (list_any-append (bytes_eq k) keys (r ∷ []))) i in
        rw e (sym (append_assoc keys (r ∷ []) (keys_of (fresh (λ k. bytes_eq k r || among k keys) (unknown_ways reg rs))))
        ∙ ap (λ f. (keys ++ r ∷ []) ++ keys_of (fresh f (unknown_ways reg rs))) funs)

pub more-open : MoreGatesOpen
more-open reg sender opened more k h =
    by_tests (needs_approval reg k sender) (list_any (opens k) opened) (list_any (opens k) more)
    (subst (λ b. (needs_approval reg k sender && not b) ≡ true) (list_any-append (opens k) opened more) h)
  where
    by_tests : (n a b : Bool) → (n && not (a || b)) ≡ true → (n && not a) ≡ true
    by_tests true true b h = absurd (cc h)
    by_tests true false b h = refl
    by_tests false a b h = absurd (cc h)
