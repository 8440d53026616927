use Rattle.std.proofs.Common.{◌≡◌, ◌+◌, drop}
use Rattle.rule_engine.specs.Run.{is_text, place_of}
use Rattle.rule_engine.proofs.texts.find.Given as goal

abbrev pub invariant-loop-i : goal.invariant-loop-i
invariant-loop-i l = record {
  among : is_text l.texts l.text ≡ is_text (drop l.i l.texts) l.text;
  at : place_of l.texts l.text ≡ l.i + place_of (drop l.i l.texts) l.text;
}
