use Rattle.std.proofs.Common.{◌≡◌, ℕ, List, ◌++◌, drop, fold, map}
use Rattle.rule_engine.specs.Run.{with_text, copy_text, placed_copies}
use Rattle.rule_engine.proofs.leaves.add_copies.Given as goal

abbrev pub invariant-loop-copied : goal.invariant-loop-copied
invariant-loop-copied l = record {
  texts : fold with_text l.texts (map copy_text (drop l.copied-index l.copies)) ≡ fold with_text l.fn.texts (map copy_text l.copies);
  copies : (later : List (List ℕ)) →
      l.into ++ placed_copies (fold with_text (fold with_text l.fn.texts (map copy_text l.copies)) later) l.leaf (drop l.copied-index l.copies)
      ≡ l.fn.into ++ placed_copies (fold with_text (fold with_text l.fn.texts (map copy_text l.copies)) later) l.leaf l.copies;
}
