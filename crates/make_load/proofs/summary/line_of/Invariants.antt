use Rattle.std.proofs.Common.{◌≡◌, map, take}
use Rattle.make_load.specs.Summaries.{counted}
use Rattle.make_load.proofs.summary.line_of.Given as goal

abbrev pub invariant-loop-word : goal.invariant-loop-word
invariant-loop-word l = l.line ≡ counted (map (λ c. (c.0.now, c.1)) (take l.word-index l.counts))
