use Rattle.std.proofs.Common.{◌≡◌, drop}
use Rattle.rule_engine.specs.Edits.{edited}
use Rattle.rule_engine.proofs.edit.render.Given as goal

abbrev pub invariant-loop-at : goal.invariant-loop-at
invariant-loop-at l = edited l.rules (drop l.at-index l.edits) l.message ≡ edited l.rules l.edits l.initial.message
