use Rattle.std.proofs.Common.{◌≡◌, ◌≤◌, ◌-◌, true, drop, length}
use Rattle.rule_match.specs.Header.{behind_blank}
use Rattle.rule_match.proofs.content.behind_blank.Given as goal

abbrev pub invariant-bytes : goal.invariant-bytes
invariant-bytes l = record {
  within : l.at ≤ length l.text;
  rest : behind_blank l.starts (drop l.at l.text) ≡ behind_blank true l.text;
}

abbrev pub decreases-bytes : goal.decreases-bytes
decreases-bytes l = length l.text - l.at
