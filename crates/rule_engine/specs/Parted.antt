-- How the leaves are parted into forks.
use Rattle.std.specs.Prelude.{◌≡◌, ◌==◌, ℕ, Bool, List, [], ◌∷◌, Some, slice_get}
use Rattle.std.specs.List.{filter, list_any}
use Rattle.rule_engine.specs.declared.edit.EditAt.{EditAt}
use Rattle.rule_engine.specs.declared.forking.Fork.{Fork}
use Rattle.rule_engine.specs.Forks.{fork_of, forks_of}

abbrev pub has_leaf : ℕ → Fork → Bool
has_leaf place fork = list_any (λ (other : ℕ). place == other) fork.leaves

-- Each leaf stands in one fork, which is the one of its own edits.
abbrev pub EachLeafInOneFork : Type 0
EachLeafInOneFork =
    (all : List (List EditAt)) (leaf : ℕ) (own : List EditAt) → slice_get all leaf ≡ Some own →
    filter (has_leaf leaf) (forks_of all) ≡ fork_of all own ∷ []
