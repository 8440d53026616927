use Rattle.std.proofs.Common.{◌≡◌, ◌≤◌, ◌-◌, false, drop, length}
use Rattle.rule_match.specs.Words.{is_joined, stands_in}
use Rattle.rule_match.proofs.word.stands_in.Given as goal

abbrev pub invariant-places : goal.invariant-places
invariant-places l = record {
  within : l.from ≤ length l.text;
  rest : stands_in (is_joined l.text l.from) l.word (drop l.from l.text) ≡ stands_in false l.word l.text;
}

abbrev pub decreases-places : goal.decreases-places
decreases-places l = length l.text - l.from
