-- The history of a desk's value: what was done to it, in order, and by which seats.
use Rattle.std.specs.Prelude.{◌≡◌, ℕ, ◌==◌, ◌||◌, Bool, true, false, List, [], ◌∷◌, ◌++◌, Option, Some, None}
use Rattle.std.specs.List.{filter}
use Rattle.desk_turns.specs.declared.view.Element.{Element}
use Rattle.desk_turns.specs.declared.view.Half.{Half}

abbrev pub is_among : ℕ → List ℕ → Bool
is_among n [] = false
is_among n (m ∷ ms) = (n == m) || is_among n ms

module _ {E : Type 0} where
  abbrev pub element : ℕ → E → Element E
  element by deed = record { by = by; deed = deed }

  -- the elements that these seats made
  abbrev pub calls_of : List ℕ → List (Element E) → List (Element E)
  calls_of seats history = filter (λ e. is_among e.by seats) history

  -- what was seen begins the history, and all that these seats made stands in it
  abbrev pub Knows : List (Element E) → List ℕ → List (Element E) → Type 0
  Knows history seats seen = (more : List (Element E)) × (seen ++ more ≡ history) × (calls_of seats more ≡ [])

  -- what each half of a seat knew is of this history too, and its seats are among those of the whole
  abbrev pub HalvesKnow : List (Element E) → List ℕ → List (Half E) → Type 0
  HalvesKnow history seats [] = Unit {0}
  HalvesKnow history seats (h ∷ hs) = Knows history h.numbers h.seen × ((n : ℕ) → is_among n h.numbers ≡ true → is_among n seats ≡ true) × HalvesKnow history seats hs

  -- the longer of two lists
  abbrev pub longer : List (Element E) → List (Element E) → List (Element E)
  longer [] ys = ys
  longer (x ∷ xs) [] = x ∷ xs
  longer (x ∷ xs) (y ∷ ys) = x ∷ longer xs ys

module _ {C E : Type 0} (does : C → E → C → Type 0) where
  -- each element does what it says to the value that those before it left
  abbrev pub Leads : C → List (Element E) → C → Type 0
  Leads first [] last = first ≡ last
  Leads first (e ∷ es) last = (next : C) × does first e.deed next × Leads next es last

  -- the same, from the value that a seat knows to have stood at the start
  abbrev pub LeadsFrom : Option C → List (Element E) → C → Type 0
  LeadsFrom None history last = ⊥
  LeadsFrom (Some first) history last = Leads first history last
