-- The first line %% of a text, from a place on.
use Rattle.std.proofs.Common.{◌≡◌, ℕ, suc, ◌+◌, ◌-◌, ◌<◌, cond, List, Some, ap, arith}
use Rattle.org_check.specs.Parts.{is_mark, mark_from}

pub mark_step : (count at : ℕ) (text : List ℕ) → at < count → mark_from (count - at) text at ≡ cond (is_mark text at) (Some at) (mark_from (count - (at + 1)) text (at + 1))
mark_step count at text below = let more : count - at ≡ suc (count - (at + 1)) = omega arith in ap (λ n. mark_from n text at) more
