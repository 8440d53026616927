use Rattle.std.proofs.Common.{◌≡◌, ◌++◌, ℕ, List, drop, fold}
use Rattle.rule_engine.specs.Run.{with_text, distinct}
use Rattle.categorizer.specs.Releasing.{draft_texts, items_from}
use Rattle.categorizer.proofs.numbering.numbered.Given as goal

abbrev pub invariant-loop-i : goal.invariant-loop-i
invariant-loop-i l =
    let all : List (List ℕ) = distinct (draft_texts l.drafts) in record {
      texts : fold with_text l.texts (draft_texts (drop l.i l.drafts)) ≡ all;
      items : l.items ++ items_from l.submission l.release l.i all (drop l.i l.drafts) ≡ items_from l.submission l.release 0 all l.drafts;
    }
