use Rattle.std.proofs.Common.{◌+◌, drop, sym, ◌∙◌, ap, arith, Bool, true, cond, length-drop}
use Rattle.std.proofs.lemmas.List.{take_rest}
use Rattle.rule_match.specs.Header.{behind_blank}
use Rattle.rule_match.proofs.Headers.{line_end, no_line_end, too_short}
use Rattle.rule_match.proofs.content.behind_blank.Goals as goal

pub returns-then-starts : goal.returns-then-starts
returns-then-starts c =
    take_rest c.args.text.now (c.bytes.at + 2)
    ∙ sym (line_end c.args.text.now c.bytes.at c.bytes.starts c.bytes-test.true (sym c.is_crlf.ensures ∙ c.if-is_crlf.true)
    ∙ ap (λ (b : Bool). cond b (drop (c.bytes.at + 2) c.args.text.now) (behind_blank true (drop (c.bytes.at + 2) c.args.text.now))) c.if-starts.true)
    ∙ c.bytes.invariant.rest

pub bytes-preserved-then-is_crlf : goal.bytes-preserved-then-is_crlf
bytes-preserved-then-is_crlf c = record {
  within = omega arith;
  rest =
      sym (line_end c.args.text.now c.bytes.at c.bytes.starts c.bytes-test.true (sym c.is_crlf.ensures ∙ c.if-is_crlf.true)
      ∙ ap (λ (b : Bool). cond b (drop (c.bytes.at + 2) c.args.text.now) (behind_blank true (drop (c.bytes.at + 2) c.args.text.now))) c.if-starts.false)
      ∙ c.bytes.invariant.rest;
}

pub bytes-preserved : goal.bytes-preserved
bytes-preserved c = record {
  within = omega arith;
  rest = sym (no_line_end c.args.text.now c.bytes.at c.bytes.starts c.bytes-test.true (sym c.is_crlf.ensures ∙ c.if-is_crlf.false)) ∙ c.bytes.invariant.rest;
}

pub returns : goal.returns
returns c =
    let size = length-drop c.bytes.at c.args.text.now in
    sym (too_short c.bytes.starts (drop c.bytes.at c.args.text.now) (omega arith)) ∙ c.bytes.invariant.rest
