-- Ways through a web of keys: every way without a repeated key, in order, and the first to each end.
use Rattle.std.specs.Prelude.{ℕ, suc, zero, Bool, true, false, if◌then◌else◌, ◌||◌, List, [], ◌∷◌, ◌++◌}
use Rattle.std.specs.List.{flat_map}
use Rattle.std.specs.Str.{bytes_eq}
use Rattle.org_directory.specs.Register.{among}
use Rattle.group_expand.specs.declared.way.Way.{Way}

-- Which keys are ends, and which keys come next, in order.
pub record Web : Type 0 where
  pub is_end : List ℕ → Bool
  pub next : List ℕ → List (List ℕ)

-- the way that ends here, if ways may end here
abbrev pub here : Bool → List (List ℕ) → List ℕ → List Way
here true route key = record { route = route; key = key } ∷ []
here false route key = []

-- nothing where the test holds
abbrev pub unless : Bool → List Way → List Way
unless true ws = []
unless false ws = ws

-- Every way from a key, behind the keys passed: it repeats no key, and a way stands before those
-- that go on from its end. `room` bounds the keys of a way.
unfoldable pub ways : Web → ℕ → List (List ℕ) → List ℕ → List Way
ways web zero route key = []
ways web (suc room) route key =
    unless (among key route)
    (here (web.is_end key) route key ++ flat_map (ways web room (route ++ key ∷ [])) (web.next key))

-- The first way to each end that wasn't had before.
abbrev pub fresh : (List ℕ → Bool) → List Way → List Way
fresh had [] = []
fresh had (w ∷ ws) =
    if had w.key then fresh had ws else w ∷ fresh (λ k. bytes_eq k w.key || had k) ws

-- The first way to each end.
abbrev pub first_of_each : List Way → List Way
first_of_each ws = fresh (λ k. false) ws
