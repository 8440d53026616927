use Rattle.std.proofs.Common.{sym, ◌∙◌, arith}
use Rattle.std.proofs.lemmas.List.{take_rest}
use Rattle.rule_match.proofs.Standing.{none_left, within, one_alone, one_joined}
use Rattle.rule_match.proofs.word.stands_in.Goals as goal

pub returns-then-is_alone : goal.returns-then-is_alone
returns-then-is_alone c =
    sym (one_alone c.args.word.now c.args.text.now _ _ c.places.from (take_rest c.args.text.now c.places.from) c.new-finder.ensures
    c.in-Some.step _ c.in-Some.ensures c.requires c.if-is_alone.ensures)
    ∙ c.places.invariant.rest

pub places-preserved : goal.places-preserved
places-preserved c = record {
  within = (
      let end = within c.args.word.now c.args.text.now _ _ c.places.from (take_rest c.args.text.now c.places.from) c.new-finder.ensures
      c.in-Some.step _ c.in-Some.ensures c.places.invariant.within in
      let some = c.requires in omega arith);
  rest = one_joined c.args.word.now c.args.text.now _ _ c.places.from (take_rest c.args.text.now c.places.from) c.new-finder.ensures
      c.in-Some.step _ c.in-Some.ensures c.requires c.if-is_alone.ensures
      ∙ c.places.invariant.rest;
}

pub returns : goal.returns
returns c =
    sym (none_left c.args.word.now c.args.text.now _ _ c.places.from (take_rest c.args.text.now c.places.from) c.new-finder.ensures
    c.in_default.ensures)
    ∙ c.places.invariant.rest
