-- Paths as a relation: what the listing of ways lists.
use Rattle.std.specs.Prelude.{◌≡◌, ◌<◌, ◌+◌, ◌↔◌, ℕ, Bool, true, false, List, [], ◌∷◌, ◌++◌, ◌⊎◌, length}
use Rattle.org_directory.specs.Register.{among, Register}
use Rattle.group_expand.specs.Ways.{Web, ways}
use Rattle.group_expand.specs.declared.way.Way.{Way}
use Rattle.group_expand.specs.Routes.{web_of}

-- the way is one of the list
abbrev pub Has : Way → List Way → Type 0
Has w [] = ⊥
Has w (x ∷ xs) = (w ≡ x) ⊎ Has w xs

-- each key is one that comes next after the one before, and the last is an end
abbrev pub IsChain : Web → List ℕ → List (List ℕ) → Type 0
IsChain web k [] = web.is_end k ≡ true
IsChain web k (m ∷ ms) = (among m (web.next k) ≡ true) × IsChain web m ms

-- no key stands among those before it
abbrev pub NoRepeat : List (List ℕ) → List ℕ → List (List ℕ) → Type 0
NoRepeat passed k [] = among k passed ≡ false
NoRepeat passed k (m ∷ ms) = (among k passed ≡ false) × NoRepeat (passed ++ k ∷ []) m ms

-- the way that passes these keys
abbrev pub way_through : List (List ℕ) → List ℕ → List (List ℕ) → Way
way_through passed k [] = record { route = passed; key = k }
way_through passed k (m ∷ ms) = way_through (passed ++ k ∷ []) m ms

-- The listing has exactly the ways through chains without a repeated key, of as many keys as there is room for.
abbrev pub ListsAll : Type 0
ListsAll =
    (web : Web) (room : ℕ) (root : List ℕ) (w : Way)
    → Has w (ways web room [] root) ↔ ((ks : List (List ℕ)) × (length ks < room) × IsChain web root ks × NoRepeat [] root ks × (w ≡ way_through [] root ks))

-- In an organisation's web the room that the listing is given is enough: it has ALL paths.
abbrev pub ListsEvery : Type 0
ListsEvery =
    (reg : Register) (closed : List ℕ → Bool) (root : List ℕ) (w : Way)
    → Has w (ways (web_of reg closed) (length reg.objects + 1) [] root)
    ↔ ((ks : List (List ℕ)) × IsChain (web_of reg closed) root ks × NoRepeat [] root ks × (w ≡ way_through [] root ks))
