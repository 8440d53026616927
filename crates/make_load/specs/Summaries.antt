-- The summary lines of commands.
use Rattle.std.specs.Prelude.{ℕ, List, [], ◌∷◌, ◌++◌, codes, decimal}
use Rattle.std.specs.List.{flat_map}
use Rattle.make_load.specs.declared.summary.MakeSummary.{MakeSummary}
use Rattle.make_load.specs.declared.summary.TurnSummary.{TurnSummary}

-- words, each with its count behind it
abbrev pub counted : List (List ℕ × ℕ) → List ℕ
counted counts = flat_map (λ c. c.0 ++ decimal c.1) counts

abbrev pub make_text : MakeSummary → List ℕ
make_text s = counted (
    (codes "make ", s.asked)
    ∷ (codes ": submissions ", s.submissions)
    ∷ (codes ", approvals ", s.approvals)
    ∷ (codes ", releases ", s.releases)
    ∷ (codes ", delivered ", s.delivered)
    ∷ (codes ", waiting ", s.waiting)
    ∷ (codes ", ended ", s.ended)
    ∷ []) ++ 10 ∷ []

abbrev pub turn_text : TurnSummary → List ℕ
turn_text s = counted (
    (codes "turn ", s.moment)
    ∷ (codes ": accepted ", s.accepted)
    ∷ (codes ", categorised ", s.categorised)
    ∷ (codes ", delivered ", s.delivered)
    ∷ (codes ", waiting ", s.waiting)
    ∷ (codes ", ended ", s.ended)
    ∷ []) ++ 10 ∷ []
