-- Where a text stands stays where it is as texts are added.
use Rattle.std.proofs.Common.{◌≡◌, ℕ, ◌+◌, true, false, ◌||◌, if◌then◌else◌, List, [], ◌∷◌, ◌++◌, length, fold, refl, sym, ◌∙◌, ap, arith, rules, bytes_eq}
use Rattle.std.proofs.lemmas.List.Folds.{list_any-append}
use Rattle.std.proofs.lemmas.Grind.{common_steps}
use Rattle.rule_engine.specs.Run.{is_text, with_text, place_of}

pub bytes_eq-same : (text : List ℕ) → bytes_eq text text ≡ true
bytes_eq-same text = search rules

place_of-cons : (text other : List ℕ) (others more : List (List ℕ)) →
    (is_text others text ≡ true → place_of (others ++ more) text ≡ place_of others text) →
    is_text (other ∷ others) text ≡ true → place_of ((other ∷ others) ++ more) text ≡ place_of (other ∷ others) text
place_of-cons text other others more step is =
    elim (bytes_eq text other) as (λ b. (b || is_text others text) ≡ true →
    (if b then 0 else place_of (others ++ more) text + 1) ≡ (if b then 0 else place_of others text + 1))
    [ true ↦ λ h. refl | false ↦ λ h. grind (arith, step h) ] is

pub place_of-append : (texts more : List (List ℕ)) (text : List ℕ) → is_text texts text ≡ true → place_of (texts ++ more) text ≡ place_of texts text
place_of-append [] more text is = cc
place_of-append (other ∷ others) more text is = place_of-cons text other others more (place_of-append others more text) is

pub place_of-with : (texts : List (List ℕ)) (added text : List ℕ) → is_text texts text ≡ true → place_of (with_text texts added) text ≡ place_of texts text
place_of-with texts added text is =
    elim (is_text texts added) as (λ b. place_of (if b then texts else texts ++ added ∷ []) text ≡ place_of texts text)
    [ true ↦ refl | false ↦ place_of-append texts (added ∷ []) text is ]

pub is_text-with : (texts : List (List ℕ)) (added text : List ℕ) → is_text texts text ≡ true → is_text (with_text texts added) text ≡ true
is_text-with texts added text is =
    elim (is_text texts added) as (λ b. is_text (if b then texts else texts ++ added ∷ []) text ≡ true)
    [ true ↦ is | false ↦ grind (arith, list_any-append (bytes_eq text) texts (added ∷ [])) ]

pub place_of-later : (later texts : List (List ℕ)) (text : List ℕ) → is_text texts text ≡ true →
    place_of (fold with_text texts later) text ≡ place_of texts text
place_of-later [] texts text is = refl
place_of-later (added ∷ later) texts text is =
    let e : place_of (fold with_text (with_text texts added) later) text ≡ place_of (with_text texts added) text =
    place_of-later later (with_text texts added) text (is_text-with texts added text is) in
    let f : place_of (with_text texts added) text ≡ place_of texts text = place_of-with texts added text is in cc

-- a text that wasn't there comes last
place_of-new-cons : (text other : List ℕ) (others : List (List ℕ)) →
    (is_text others text ≡ false → place_of (others ++ text ∷ []) text ≡ length others) →
    is_text (other ∷ others) text ≡ false → place_of ((other ∷ others) ++ text ∷ []) text ≡ length (other ∷ others)
place_of-new-cons text other others step is =
    elim (bytes_eq text other) as (λ b. (b || is_text others text) ≡ false →
    (if b then 0 else place_of (others ++ text ∷ []) text + 1) ≡ length (other ∷ others))
    [ true ↦ λ h. cc | false ↦ λ h. grind (arith, common_steps, step h) ] is

pub place_of-new : (texts : List (List ℕ)) (text : List ℕ) → is_text texts text ≡ false → place_of (texts ++ text ∷ []) text ≡ length texts
place_of-new [] text is = let e : bytes_eq text text ≡ true = bytes_eq-same text in rw e refl
place_of-new (other ∷ others) text is = place_of-new-cons text other others (place_of-new others text) is

pub is_text-new : (texts : List (List ℕ)) (text : List ℕ) → is_text (texts ++ text ∷ []) text ≡ true
is_text-new texts text = grind (arith, list_any-append (bytes_eq text) texts (text ∷ []), bytes_eq-same text)

-- A text that is there keeps its place.
pub place-kept : (texts new : List (List ℕ)) (text : List ℕ) (place : ℕ) → new ≡ texts → is_text texts text ≡ true → place_of texts text ≡ place →
    (later : List (List ℕ)) → place ≡ place_of (fold with_text new later) text
place-kept texts new text place same is at later =
    sym at ∙ sym (place_of-later later texts text is) ∙ ap (λ (all : List (List ℕ)). place_of (fold with_text all later) text) (sym same)

-- A text that is added comes last, and keeps that place.
pub place-added : (texts new : List (List ℕ)) (text added : List ℕ) (place : ℕ) → new ≡ texts ++ added ∷ [] → added ≡ text → is_text texts text ≡ false → place ≡ length texts →
    (later : List (List ℕ)) → place ≡ place_of (fold with_text new later) text
place-added texts new text added place grown same isnt at later =
    at ∙ sym (place_of-new texts text isnt) ∙ sym (place_of-later later (texts ++ text ∷ []) text (is_text-new texts text))
    ∙ ap (λ (all : List (List ℕ)). place_of (fold with_text all later) text) (sym (grown ∙ ap (λ (t : List ℕ). texts ++ t ∷ []) same))
