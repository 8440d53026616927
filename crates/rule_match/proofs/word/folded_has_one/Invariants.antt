use Rattle.std.proofs.Common.{◌≡◌, drop, true, false}
use Rattle.std.specs.List.{list_all, list_any}
use Rattle.rule_terms.specs.Forms.{is_word}
use Rattle.rule_match.specs.Words.{folded, stands_in}
use Rattle.rule_match.proofs.word.folded_has_one.Given as goal

abbrev pub invariant-loop-word : goal.invariant-loop-word
invariant-loop-word l = record {
  words : list_all is_word (drop l.word-index l.words) ≡ true;
  rest : list_any (λ word. stands_in false (folded word) l.text) (drop l.word-index l.words) ≡ list_any (λ word. stands_in false (folded word) l.text) l.words;
}
