use Rattle.std.proofs.Common.{◌≡◌, drop}
use Rattle.rule_match.specs.Applies.{is_in_one}
use Rattle.rule_match.proofs.people.is_in_one.Given as goal

abbrev pub invariant-loop-place : goal.invariant-loop-place
invariant-loop-place l = is_in_one l.directory (drop l.place-index l.groups) l.key ≡ is_in_one l.directory l.groups l.key
