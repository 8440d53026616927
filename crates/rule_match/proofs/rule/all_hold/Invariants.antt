use Rattle.std.proofs.Common.{◌≡◌, ℕ, drop, true, option_copied}
use Rattle.std.specs.List.{list_all}
use Rattle.rule_terms.specs.Forms.{is_term}
use Rattle.rule_match.specs.Applies.{holds}
use Rattle.rule_match.proofs.rule.all_hold.Given as goal

abbrev pub invariant-loop-term : goal.invariant-loop-term
invariant-loop-term l = record {
  terms : list_all is_term (drop l.term-index l.terms) ≡ true;
  rest : (moment : ℕ) → list_all (holds (record { directory = l.directory; sender = option_copied l.sender; moment = moment }) l.recipient l.message) (drop l.term-index l.terms)
      ≡ list_all (holds (record { directory = l.directory; sender = option_copied l.sender; moment = moment }) l.recipient l.message) l.terms;
}
