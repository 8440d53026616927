-- What holds of the desk's words, its slot and its seats between any two steps.
use Rattle.std.specs.Prelude.{◌≡◌, ◌≢◌, ℕ, ◌+◌, ◌<◌, ◌≤◌, true, List, [], ◌∷◌, length, Option, Some}
use mathlib.Core.Option as maybe
use mathlib.Core.Option.{some, none}
use lib.ListN.{get_elem?}
use Rattle.atomic_table.specs.Table.{State}
use Rattle.desk_turns.specs.declared.view.Element.{Element}
use Rattle.desk_turns.specs.declared.view.View.{View}
use Rattle.desk_turns.specs.declared.view.Stage.{Stage}
use Rattle.desk_turns.specs.declared.view.Stage.TheVariants.{Idle, Waiting, Next, Holding, Returned, Spent}
use Rattle.desk_turns.specs.History.{is_among, Knows, HalvesKnow, Leads}

-- the value is home and this turn has made nothing yet, it is out, or it is home again and what this turn made stands in the history
pub data Phase : Type 0 where
  at_rest : Phase
  away : Phase
  returned : Phase

-- the word that says whether the value is out
abbrev pub out_word : Phase → ℕ
out_word at_rest = 0
out_word away = 1
out_word returned = 0

-- how many elements stand in the history whose turn was not given back
abbrev pub made_now : Phase → ℕ
made_now at_rest = 0
made_now away = 0
made_now returned = 1

abbrev pub slot_of : {C : Type 0} → Phase → C → maybe.Option (Option C)
slot_of at_rest value = some (Some value)
slot_of away value = none
slot_of returned value = some (Some value)

-- How far a desk has come: the tickets drawn, the turns given back, where the value is and what it is (or was, when it was taken out), and the history.
-- `owner` is the seat that drew a ticket, `keeper` the seat that now stands for a seat's number, which is another where the seat was joined to it.
pub record Story (C E : Type 0) : Type 0 where
  pub drawn : ℕ
  pub served : ℕ
  pub phase : Phase
  pub value : C
  pub history : List (Element E)
  pub owner : ℕ → ℕ
  pub keeper : ℕ → ℕ

module _ {C E : Type 0} where
  abbrev pub words_of : Story C E → List ℕ
  words_of d = d.drawn ∷ d.served ∷ out_word d.phase ∷ []

  abbrev pub homes_of : Story C E → List (maybe.Option (Option C))
  homes_of d = slot_of d.phase d.value ∷ []

  -- the seat drew the ticket, and has not given its turn back
  abbrev pub HasTicket : Story C E → ℕ → ℕ → Type 0
  HasTicket d seat ticket = (d.served ≤ ticket) × (ticket < d.drawn) × (d.owner ticket ≡ seat)

  -- where a seat is in a call, and what it has then seen
  abbrev pub Stands : Story C E → ℕ → List (Element E) → Stage → Type 0
  Stands d seat seen Idle = Unit {0}
  Stands d seat seen (Waiting ticket) = HasTicket d seat ticket
  Stands d seat seen (Next ticket) = HasTicket d seat ticket × (ticket ≡ d.served) × (d.phase ≡ at_rest)
  Stands d seat seen (Holding ticket) = HasTicket d seat ticket × (ticket ≡ d.served) × (d.phase ≡ away) × (seen ≡ d.history)
  Stands d seat seen (Returned ticket) = HasTicket d seat ticket × (ticket ≡ d.served) × (d.phase ≡ returned)
  Stands d seat seen Spent = Unit {0}

  -- who has the turn where the value is out, or was given home in it
  abbrev pub HasTurn : Story C E → List (View C E) → Phase → Type 0
  HasTurn d views at_rest = Unit {0}
  HasTurn d views away = (d.served < d.drawn) × (v : View C E) × (get_elem? views (d.owner d.served) ≡ some v) × (v.stage ≡ Holding d.served)
  HasTurn d views returned = (d.served < d.drawn) × (v : View C E) × (get_elem? views (d.owner d.served) ≡ some v) × (v.stage ≡ Returned d.served)

  -- What a seat knows is so. One that is not spent knows how the desk began and stands for its own number, no two stand for one, and it has seen all that it made
  pub record Sits (calls : ℕ) (first : C) (d : Story C E) (seat : ℕ) (v : View C E) : Type 0 where
    pub key_is : v.stage ≢ Spent → (v.start ≡ Some first) × (v.calls ≡ calls)
    pub keeps_own : v.stage ≢ Spent → d.keeper seat ≡ seat
    pub numbers : (n : ℕ) → is_among n v.numbers ≡ true → d.keeper n ≡ seat
    pub knows : Knows d.history v.numbers v.seen
    pub halves : HalvesKnow d.history v.numbers v.halves
    pub stands : Stands d seat v.seen v.stage

  -- The story holds together. No ticket is past `calls`, each turn that was given back has left one element, the elements lead from the first value to the one that is there,
  -- and each of them is among the calls of the seat that stands for its number. A number that no seat has stands for itself
  pub record Facts (does : C → E → C → Type 0) (calls : ℕ) (first : C) (d : Story C E) (views : List (View C E)) : Type 0 where
    pub order : d.served ≤ d.drawn
    pub most : d.drawn ≤ calls
    pub count : length d.history ≡ d.served + made_now d.phase
    pub leads : Leads does first d.history d.value
    pub turn : HasTurn d views d.phase
    pub seats : (seat : ℕ) (v : View C E) → get_elem? views seat ≡ some v → Sits calls first d seat v
    pub unused : (n : ℕ) → length views ≤ n → d.keeper n ≡ n
    pub covered : (k : ℕ) (e : Element E) → get_elem? d.history k ≡ some e → (v : View C E) × (get_elem? views (d.keeper e.by) ≡ some v) × (is_among e.by v.numbers ≡ true)

  -- the rule: there is one story, and the words, the slot and the seats are as it says
  pub record Kept (does : C → E → C → Type 0) (calls : ℕ) (first : C) (s : State (Option C) (View C E)) : Type 0 where
    pub story : Story C E
    pub words : s.words ≡ words_of story
    pub homes : s.homes ≡ homes_of story
    pub facts : Facts does calls first story s.views

  -- what a desk's first seat knows
  abbrev pub newcomer : ℕ → C → View C E
  newcomer calls first = record { start = Some first; calls = calls; stage = Idle; seen = []; numbers = []; halves = [] }
