-- Each leaf stands in the fork of its own edits and in no other.
use Rattle.std.proofs.Common.{◌≡◌, ℕ, zero, suc, ◌+◌, ◌<◌, Bool, true, false, ◌||◌, cond, if◌then◌else◌, List, [], ◌∷◌, ◌++◌, Some, map, fold, refl, sym, ◌∙◌, ap, subst, slice_get, arith}
use Rattle.std.specs.Prelude.{◌==◌, ◌&&◌}
use Rattle.std.specs.Bool.{Decides, one_answer}
use Rattle.std.specs.List.{filter, list_any}
use Rattle.std.proofs.lemmas.List.Elements.{filter-append}
use Rattle.std.proofs.lemmas.List.Folds.{list_any-append}
use Rattle.std.proofs.lemmas.Slice.Eq.{slice_eq-Decides}
use Rattle.rule_engine.specs.declared.edit.EditAt.{EditAt}
use Rattle.rule_engine.specs.declared.forking.Fork.{Fork}
use Rattle.rule_engine.specs.Forks.{same_edit, same_edits, is_kind, with_kind, kinds_of, places_of, fork_of}
use Rattle.rule_engine.specs.Parted.{has_leaf, EachLeafInOneFork}

both : (a b : Bool) → (a && b) ≡ true → (a ≡ true) × (b ≡ true)
both true b h = (refl, h)
both false b h = absurd cc

same_is : (a b : ℕ) → (a == b) ≡ true → a ≡ b
same_is a b h = grind arith

is_same : (a b : ℕ) → a ≡ b → (a == b) ≡ true
is_same a b h = grind arith

isnt_same : (a b : ℕ) → a < b → (a == b) ≡ false
isnt_same a b h = grind arith

isnt_later : (a b : ℕ) → b < a → (a == b) ≡ false
isnt_later a b h = grind arith

edit-itself : (a : EditAt) → same_edit a a ≡ true
edit-itself a = ap (λ b. b && (a.action == a.action)) (is_same a.rule a.rule refl) ∙ is_same a.action a.action refl

edit-decided : (a b : EditAt) → Decides (same_edit a b) (a ≡ b)
edit-decided a b = (
  λ h. (let parts = both (a.rule == b.rule) (a.action == b.action) h in
      let rule : a.rule ≡ b.rule = same_is a.rule b.rule parts.0 in
      let action : a.action ≡ b.action = same_is a.action b.action parts.1 in
      λ i. record { rule = rule i; action = action i }),
  λ e. subst (λ (c : EditAt). same_edit a c ≡ true) e (edit-itself a),
)

edits-decided : (a b : List EditAt) → Decides (same_edits a b) (a ≡ b)
edits-decided a b = slice_eq-Decides edit-decided a b (same_edits a b) refl

edits-turned : (a b : List EditAt) → same_edits a b ≡ same_edits b a
edits-turned a b =
    one_answer (same_edits a b) (same_edits b a) (edits-decided a b) (λ h. sym ((edits-decided b a).0 h), λ e. (edits-decided b a).1 (sym e))

edits-itself : (a : List EditAt) → same_edits a a ≡ true
edits-itself a = (edits-decided a a).1 refl

-- No place is before the first one.
none-before : (kind : List EditAt) (place first : ℕ) (all : List (List EditAt)) → place < first →
    list_any (λ (other : ℕ). place == other) (places_of kind first all) ≡ false
none-before kind place first [] small = refl
none-before kind place first (own ∷ others) small =
    let less : place < first + 1 = omega arith in
    let rest = none-before kind place (first + 1) others less in
    elim (same_edits kind own)
    as (λ b. list_any (λ (other : ℕ). place == other) (if b then first ∷ places_of kind (first + 1) others else places_of kind (first + 1) others) ≡ false) [
      | true ↦ ap (λ b. b || list_any (λ (other : ℕ). place == other) (places_of kind (first + 1) others)) (isnt_same place first small) ∙ rest
      | false ↦ rest
    ]

-- A place is among those of a list where this list stands there.
stands : (kind own : List EditAt) (first i : ℕ) (all : List (List EditAt)) → slice_get all i ≡ Some own →
    list_any (λ (other : ℕ). first + i == other) (places_of kind first all) ≡ same_edits kind own
stands kind own first i [] at = absurd cc
stands kind own first zero (head ∷ others) at =
    let e : head ≡ own = cc in
    let here : first + 0 ≡ first = omega arith in
    let small : first + 0 < first + 1 = omega arith in
    (elim (same_edits kind head)
    as (λ b. list_any (λ (other : ℕ). first + 0 == other) (if b then first ∷ places_of kind (first + 1) others else places_of kind (first + 1) others) ≡ b) [
      | true ↦ ap (λ b. b || list_any (λ (other : ℕ). first + 0 == other) (places_of kind (first + 1) others)) (is_same (first + 0) first here)
      | false ↦ none-before kind (first + 0) (first + 1) others small
    ]) ∙ ap (same_edits kind) e
stands kind own first (suc i) (head ∷ others) at =
    let e : first + 1 + i ≡ first + suc i = omega arith in
    let later : first < first + suc i = omega arith in
    let rest : list_any (λ (other : ℕ). first + suc i == other) (places_of kind (first + 1) others) ≡ same_edits kind own =
    subst (λ (n : ℕ). list_any (λ (other : ℕ). n == other) (places_of kind (first + 1) others) ≡ same_edits kind own) e (stands kind own (first + 1) i others at) in
    elim (same_edits kind head)
    as (λ b. list_any (λ (other : ℕ). first + suc i == other) (if b then first ∷ places_of kind (first + 1) others else places_of kind (first + 1) others) ≡ same_edits kind own) [
      | true ↦ ap (λ b. b || list_any (λ (other : ℕ). first + suc i == other) (places_of kind (first + 1) others)) (isnt_later (first + suc i) first later) ∙ rest
      | false ↦ rest
    ]

in-fork : (all : List (List EditAt)) (leaf : ℕ) (own kind : List EditAt) → slice_get all leaf ≡ Some own → has_leaf leaf (fork_of all kind) ≡ same_edits own kind
in-fork all leaf own kind at =
    let e : 0 + leaf ≡ leaf = omega arith in
    subst (λ (n : ℕ). list_any (λ (other : ℕ). n == other) (places_of kind 0 all) ≡ same_edits kind own) e (stands kind own 0 leaf all at) ∙ edits-turned kind own

forks-with : (all : List (List EditAt)) (leaf : ℕ) (own : List EditAt) → slice_get all leaf ≡ Some own → (kinds : List (List EditAt)) →
    filter (has_leaf leaf) (map (fork_of all) kinds) ≡ map (fork_of all) (filter (same_edits own) kinds)
forks-with all leaf own at [] = refl
forks-with all leaf own at (kind ∷ kinds) =
    let rest = forks-with all leaf own at kinds in
    ap (λ b. cond b (fork_of all kind ∷ filter (has_leaf leaf) (map (fork_of all) kinds)) (filter (has_leaf leaf) (map (fork_of all) kinds))) (in-fork all leaf own kind at)
    ∙ elim (same_edits own kind)
    as (λ b. cond b (fork_of all kind ∷ filter (has_leaf leaf) (map (fork_of all) kinds)) (filter (has_leaf leaf) (map (fork_of all) kinds))
    ≡ map (fork_of all) (cond b (kind ∷ filter (same_edits own) kinds) (filter (same_edits own) kinds))) [
      | true ↦ ap (λ (forks : List Fork). fork_of all kind ∷ forks) rest
      | false ↦ rest
    ]

-- A list stands at most once among these.
abbrev AtMostOnce : List EditAt → List (List EditAt) → Type 0
AtMostOnce own kinds = filter (same_edits own) kinds ≡ cond (is_kind kinds own) (own ∷ []) []

one-behind : (own added : List EditAt) (kinds : List (List EditAt)) → is_kind kinds added ≡ false → AtMostOnce own kinds →
    (same : Bool) → same_edits own added ≡ same → AtMostOnce own (kinds ++ added ∷ [])
one-behind own added kinds new once true is =
    let e : own ≡ added = (edits-decided own added).0 is in
    let none : is_kind kinds own ≡ false = ap (is_kind kinds) e ∙ new in
    let nothing : filter (same_edits own) kinds ≡ [] = once ∙ ap (λ b. cond b (own ∷ []) []) none in
    let there : is_kind (kinds ++ added ∷ []) own ≡ true =
    list_any-append (same_edits own) kinds (added ∷ []) ∙ ap (λ b. b || (same_edits own added || false)) none ∙ ap (λ b. b || false) is in
    filter-append (same_edits own) kinds (added ∷ [])
    ∙ ap (λ (list : List (List EditAt)). list ++ cond (same_edits own added) (added ∷ []) []) nothing
    ∙ ap (λ b. cond b (added ∷ []) []) is
    ∙ ap (λ (list : List EditAt). list ∷ []) (sym e)
    ∙ ap (λ b. cond b (own ∷ []) []) (sym there)
one-behind own added kinds new once false is =
    let same : is_kind (kinds ++ added ∷ []) own ≡ is_kind kinds own =
    list_any-append (same_edits own) kinds (added ∷ []) ∙ ap (λ b. is_kind kinds own || (b || false)) is ∙ or_none (is_kind kinds own) in
    filter-append (same_edits own) kinds (added ∷ [])
    ∙ ap (λ b. filter (same_edits own) kinds ++ cond b (added ∷ []) []) is
    ∙ append_none (filter (same_edits own) kinds)
    ∙ once
    ∙ ap (λ b. cond b (own ∷ []) []) (sym same)
  where
    or_none : (b : Bool) → (b || false) ≡ b
    or_none true = refl
    or_none false = refl

    append_none : (list : List (List EditAt)) → list ++ [] ≡ list
    append_none [] = refl
    append_none (x ∷ xs) = ap (λ (list : List (List EditAt)). x ∷ list) (append_none xs)

one-more : (own added : List EditAt) (kinds : List (List EditAt)) → AtMostOnce own kinds → (there : Bool) → is_kind kinds added ≡ there →
    AtMostOnce own (if there then kinds else kinds ++ added ∷ [])
one-more own added kinds once true is = once
one-more own added kinds once false is = one-behind own added kinds is once (same_edits own added) refl

all-once : (own : List EditAt) (more kinds : List (List EditAt)) → AtMostOnce own kinds → AtMostOnce own (fold with_kind kinds more)
all-once own [] kinds once = once
all-once own (added ∷ more) kinds once = all-once own more (with_kind kinds added) (one-more own added kinds once (is_kind kinds added) refl)

-- What is there stays, and what is added is there.
stays : (own added : List EditAt) (kinds : List (List EditAt)) → is_kind kinds own ≡ true → is_kind (with_kind kinds added) own ≡ true
stays own added kinds is =
    elim (is_kind kinds added) as (λ b. is_kind (if b then kinds else kinds ++ added ∷ []) own ≡ true) [
      | true ↦ is
      | false ↦ list_any-append (same_edits own) kinds (added ∷ []) ∙ ap (λ b. b || (same_edits own added || false)) is
    ]

all-stay : (own : List EditAt) (more kinds : List (List EditAt)) → is_kind kinds own ≡ true → is_kind (fold with_kind kinds more) own ≡ true
all-stay own [] kinds is = is
all-stay own (added ∷ more) kinds is = all-stay own more (with_kind kinds added) (stays own added kinds is)

added-here : (own : List EditAt) (kinds : List (List EditAt)) (there : Bool) → is_kind kinds own ≡ there → is_kind (if there then kinds else kinds ++ own ∷ []) own ≡ true
added-here own kinds true is = is
added-here own kinds false is =
    list_any-append (same_edits own) kinds (own ∷ []) ∙ ap (λ b. b || (same_edits own own || false)) is ∙ ap (λ b. b || false) (edits-itself own)

found : (own : List EditAt) (i : ℕ) (more kinds : List (List EditAt)) → slice_get more i ≡ Some own → is_kind (fold with_kind kinds more) own ≡ true
found own i [] kinds at = absurd cc
found own zero (head ∷ more) kinds at =
    let e : own ≡ head = cc in
    all-stay own more (with_kind kinds head)
    (subst (λ (added : List EditAt). is_kind (with_kind kinds added) own ≡ true) e (added-here own kinds (is_kind kinds own) refl))
found own (suc i) (head ∷ more) kinds at = found own i more (with_kind kinds head) at

pub each-leaf-in-one : EachLeafInOneFork
each-leaf-in-one all leaf own at =
    let once : filter (same_edits own) (kinds_of all) ≡ cond (is_kind (kinds_of all) own) (own ∷ []) [] = all-once own all [] refl in
    let there : is_kind (kinds_of all) own ≡ true = found own leaf all [] at in
    forks-with all leaf own at (kinds_of all)
    ∙ ap (map (fork_of all)) (once ∙ ap (λ b. cond b (own ∷ []) []) there)
