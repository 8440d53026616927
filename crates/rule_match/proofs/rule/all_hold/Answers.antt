use Rattle.std.proofs.Common.{◌∙◌, sym, option_copied}
use Rattle.rule_terms.specs.Forms.{is_term}
use Rattle.rule_match.specs.Applies.{holds}
use Rattle.rule_match.proofs.Lists.{list_all-rest, list_all-passed, list_all-end}
use Rattle.rule_match.proofs.rule.all_hold.Goals as goal

pub loop-term-preserved : goal.loop-term-preserved
loop-term-preserved c = record {
  terms = list_all-rest is_term c.args.terms.now c.loop-term.term-index c.term-item.result c.loop-term-test.true c.loop-term.invariant.terms;
  rest = λ moment.
      list_all-passed (holds (record { directory = c.args.directory.now; sender = option_copied c.args.sender; moment = moment }) c.args.recipient.now c.args.message.now)
      c.args.terms.now c.loop-term.term-index c.term-item.result c.loop-term-test.true c.term-item.is
      (sym (c.in_ok-holds.ensures moment) ∙ c.if-not-branch.false)
      ∙ c.loop-term.invariant.rest moment;
}

pub returns : goal.returns
returns c = λ moment.
    sym (list_all-end (holds (record { directory = c.args.directory.now; sender = option_copied c.args.sender; moment = moment }) c.args.recipient.now c.args.message.now)
    c.args.terms.now c.loop-term.term-index c.loop-term-test.false)
    ∙ c.loop-term.invariant.rest moment
