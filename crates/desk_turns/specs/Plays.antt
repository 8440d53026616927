-- What each step on a desk tells the seat that makes it.
use Rattle.std.specs.Prelude.{◌≡◌, ℕ, ◌==◌, ◌<◌, List, [], ◌∷◌, ◌++◌, length, Option, Some, None, MatchBool}
use mathlib.Core.List.{IsPrefix}
use Rattle.atomic_table.specs.Table.{Me, Step}
use Rattle.desk_turns.specs.declared.view.Element.{Element}
use Rattle.desk_turns.specs.declared.view.Half.{Half}
use Rattle.desk_turns.specs.declared.view.View.{View}
use Rattle.desk_turns.specs.declared.view.Stage.{Stage}
use Rattle.desk_turns.specs.declared.view.Stage.TheVariants.{Idle, Waiting, Next, Holding, Returned, Spent}
use Rattle.desk_turns.specs.History.{element, calls_of, HalvesKnow, longer, LeadsFrom}

module _ {C E : Type 0} where
  abbrev pub at_stage : View C E → Stage → View C E
  at_stage v stage = record v { stage = stage }

  abbrev pub having_seen : View C E → List (Element E) → View C E
  having_seen v history = record v { seen = history }

  -- the history begins with all that the seat had seen, and has no more of its own
  abbrev pub Sees : View C E → List (Element E) → Type 0
  Sees v history = IsPrefix v.seen history × (calls_of v.numbers history ≡ calls_of v.numbers v.seen)

  -- the history is one that the value's calls give
  abbrev pub IsLegal : (C → E → C → Type 0) → View C E → List (Element E) → Type 0
  IsLegal does v history = (value : C) × LeadsFrom does v.start history value

  -- a ticket is drawn where the number found is the one expected
  abbrev pub drew : Step (Option C) → Me (Option C) (View C E) → ℕ → Me (Option C) (View C E) → Type 0
  drew st m n w = MatchBool (n == st.first) (w ≡ (at_stage m.0 (Waiting st.first), m.1)) (w ≡ m)

  -- where as many turns were given back as there may be calls, the seat has seen the whole history
  abbrev pub saw_full : (C → E → C → Type 0) → Step (Option C) → Me (Option C) (View C E) → ℕ → Me (Option C) (View C E) → Type 0
  saw_full does st m n w = MatchBool (n == m.0.calls)
      ((history : List (Element E)) × (w ≡ (having_seen m.0 history, m.1)) × Sees m.0 history × IsLegal does m.0 history × (length history ≡ m.0.calls))
      (w ≡ m)

  -- the turn has come where as many turns were given back as tickets were drawn before
  abbrev pub came : Step (Option C) → Me (Option C) (View C E) → ℕ → Me (Option C) (View C E) → Type 0
  came st m n w = (ticket : ℕ) → m.0.stage ≡ Waiting ticket → MatchBool (n == ticket) (w ≡ (at_stage m.0 (Next ticket), m.1)) (w ≡ m)

  -- the seat has the value, which is what the history made of it, and has seen that history
  abbrev pub took : (C → E → C → Type 0) → Step (Option C) → Me (Option C) (View C E) → ℕ → Me (Option C) (View C E) → Type 0
  took does st m n w = (ticket : ℕ) → m.0.stage ≡ Next ticket → (value : C) × (history : List (Element E))
      × (w ≡ (record m.0 { stage = Holding ticket; seen = history }, (0, Some value) ∷ m.1)) × Sees m.0 history × LeadsFrom does m.0.start history value × (length history ≡ ticket) × (ticket < m.0.calls)

  -- the value is home, and one element stands behind all that the seat had seen: it was named so, it led to this value, and it is the seat's own
  abbrev pub gave : (C → E → C → Type 0) → (ℕ → E → Type 0) → Step (Option C) → Me (Option C) (View C E) → ℕ → Me (Option C) (View C E) → Type 0
  gave does names st m n w = (ticket : ℕ) (value : C) → m.0.stage ≡ Holding ticket → m.1 ≡ (0, Some value) ∷ [] → (by : ℕ) × (deed : E) × names by deed
      × ((before : C) × LeadsFrom does m.0.start m.0.seen before × does before deed value)
      × (w ≡ (record m.0 { stage = Returned ticket; seen = m.0.seen ++ element by deed ∷ []; numbers = by ∷ m.0.numbers; halves = [] }, []))
      × (calls_of (by ∷ m.0.numbers) (m.0.seen ++ element by deed ∷ []) ≡ calls_of m.0.numbers m.0.seen ++ element by deed ∷ [])

  abbrev pub gave_back : Step (Option C) → Me (Option C) (View C E) → ℕ → Me (Option C) (View C E) → Type 0
  gave_back st m n w = w ≡ (at_stage m.0 Idle, m.1)

  abbrev pub half : View C E → Half E
  half v = record { seen = v.seen; numbers = v.numbers }

  -- a seat that was joined to another is in no call, and has seen what either had
  abbrev pub united : View C E → View C E → View C E
  united v w = record v { seen = longer v.seen w.seen; numbers = v.numbers ++ w.numbers; halves = half v ∷ half w ∷ [] }

  abbrev pub spent : View C E
  spent = record { start = None; calls = 0; stage = Spent; seen = []; numbers = []; halves = [] }

  -- a seat that was split from another has seen what that had, and made no call
  abbrev pub fresh : View C E → View C E
  fresh v = record v { stage = Idle; numbers = []; halves = [] }

  -- what both halves knew is of one legal history
  abbrev pub settled : (C → E → C → Type 0) → Step (Option C) → Me (Option C) (View C E) → ℕ → Me (Option C) (View C E) → Type 0
  settled does st m n w = (history : List (Element E)) × (w ≡ (record m.0 { halves = [] }, m.1)) × Sees m.0 history × HalvesKnow history m.0.numbers m.0.halves × IsLegal does m.0 history
