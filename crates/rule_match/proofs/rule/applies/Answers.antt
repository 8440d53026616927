use Rattle.std.proofs.Common.{◌∙◌, sym, option_copied}
use Rattle.rule_match.proofs.InForce.{fails, succeeds}
use Rattle.rule_match.proofs.rule.applies.Goals as goal

pub returns-then-not-branch : goal.returns-then-not-branch
returns-then-not-branch c =
    fails (record { directory = c.args.directory.now; sender = option_copied c.args.sender; moment = c.args.moment }) c.args.recipient.now c.args.message.now c.args.rule.now
    c.if-not-rule.false (sym c.has_begun.ensures ∙ c.if-not-has_begun.false) (sym c.has_ended.ensures ∙ c.if-has_ended.false)
    c.as_slice.result.now c.in_ok-all_hold.field-0 (c.in_ok-all_hold.ensures c.args.moment) c.as_slice.ensures c.if-not-branch.true

pub returns : goal.returns
returns c =
    succeeds (record { directory = c.args.directory.now; sender = option_copied c.args.sender; moment = c.args.moment }) c.args.recipient.now c.args.message.now c.args.rule.now
    c.if-not-rule.false (sym c.has_begun.ensures ∙ c.if-not-has_begun.false) (sym c.has_ended.ensures ∙ c.if-has_ended.false)
    c.as_slice.result.now c.as_slice-2.result.now c.in_ok-all_hold.field-0 c.in_ok-kept.kept
    (c.in_ok-all_hold.ensures c.args.moment) c.as_slice.ensures c.if-not-branch.false (c.in_ok-kept.ensures c.args.moment) c.as_slice-2.ensures
