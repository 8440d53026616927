-- What the calls on a desk tell, by what their seats knew before and know after.
use Rattle.std.specs.Prelude.{◌≡◌, ℕ, ◌<◌, List, [], ◌∷◌, ◌++◌, ◌⊎◌, length, Option, None}
use mathlib.Core.List.{IsPrefix}
use Rattle.atomic_table.specs.Table.{Me}
use Rattle.desk_turns.specs.declared.view.Element.{Element}
use Rattle.desk_turns.specs.declared.view.View.{View}
use Rattle.desk_turns.specs.declared.view.Stage.{Stage}
use Rattle.desk_turns.specs.declared.view.Stage.TheVariants.{Holding}
use Rattle.desk_turns.specs.History.{element, calls_of, LeadsFrom}
use Rattle.desk_turns.specs.Plays.{having_seen, Sees, IsLegal}

module _ {C E : Type 0} (does : C → E → C → Type 0) where
  -- the seat has the value, which is what the history so far made of it, and has seen that history, which leaves room for a call
  pub record Begun (m w : Me (Option C) (View C E)) (value : C) : Type 0 where
    pub history : List (Element E)
    pub now : w ≡ (record m.0 { stage = Holding (length history); seen = history }, (0, None) ∷ [])
    pub sees : Sees m.0 history
    pub leads : LeadsFrom does m.0.start history value
    pub room : length history < m.0.calls

  -- the seat has seen the whole history, which has as many calls as there may be, and nothing else has changed
  pub record Full (m w : Me (Option C) (View C E)) : Type 0 where
    pub history : List (Element E)
    pub now : w ≡ (having_seen m.0 history, m.1)
    pub sees : Sees m.0 history
    pub legal : IsLegal does m.0 history
    pub all : length history ≡ m.0.calls

  -- a deed with such a name leads from what the seen history made of the value to this one
  abbrev pub CanEnd : (ℕ → E → Type 0) → ℕ → Me (Option C) (View C E) → C → Type 0
  CanEnd names seat m value = (before : C) × (deed : E) × LeadsFrom does m.0.start m.0.seen before × does before deed value × names seat deed

  -- one element stands behind all that the seat had seen: it was named so, it led to this value, and it is the seat's own
  pub record Made (names : ℕ → E → Type 0) (value : C) (stage : Stage) (m w : Me (Option C) (View C E)) : Type 0 where
    pub by : ℕ
    pub deed : E
    pub named : names by deed
    pub led : (before : C) × LeadsFrom does m.0.start m.0.seen before × does before deed value
    pub now : w ≡ (record m.0 { stage = stage; seen = m.0.seen ++ element by deed ∷ []; numbers = by ∷ m.0.numbers; halves = [] }, [])
    pub own : calls_of (by ∷ m.0.numbers) (m.0.seen ++ element by deed ∷ []) ≡ calls_of m.0.numbers m.0.seen ++ element by deed ∷ []

  -- A whole call: the history after it is legal, begins with all that the seat had seen, and ends with this call, which is one more of the seat's own
  pub record Called (names : ℕ → E → Type 0) (v w : View C E) : Type 0 where
    pub history : List (Element E)
    pub by : ℕ
    pub deed : E
    pub named : names by deed
    pub sees : Sees v history
    pub room : length history < v.calls
    pub led : (before : C) × (after : C) × LeadsFrom does v.start history before × does before deed after × LeadsFrom does w.start w.seen after
    pub seen : w.seen ≡ history ++ element by deed ∷ []
    pub numbers : w.numbers ≡ by ∷ v.numbers
    pub own : calls_of w.numbers w.seen ≡ calls_of v.numbers v.seen ++ element by deed ∷ []
    pub key : (w.start ≡ v.start) × (w.calls ≡ v.calls)

  -- the seat has seen the longer of what the two had seen, which the other begins, and its calls are those of both
  pub record Unites (v w u : View C E) : Type 0 where
    pub one : IsPrefix v.seen u.seen
    pub other : IsPrefix w.seen u.seen
    pub longer_is : (u.seen ≡ v.seen) ⊎ (u.seen ≡ w.seen)
    pub numbers : u.numbers ≡ v.numbers ++ w.numbers
    pub calls_one : calls_of v.numbers u.seen ≡ calls_of v.numbers v.seen
    pub calls_other : calls_of w.numbers u.seen ≡ calls_of w.numbers w.seen
    pub key : (u.start ≡ v.start) × (u.calls ≡ v.calls)
    pub legal : (history : List (Element E)) × Sees u history × IsLegal does u history
