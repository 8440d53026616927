use Rattle.std.proofs.Common.{List, None, ◌∙◌, ap}
use Rattle.std.specs.Option.{option_copied}
use Rattle.mail_message.specs.Message.{Mail}
use Rattle.rule_match.specs.Applies.{Setting}
use Rattle.rule_engine.specs.declared.recipient.MadeCopy.{MadeCopy}
use Rattle.rule_engine.specs.Fate.{stage, start}
use Rattle.rule_engine.specs.Sets.{set_outcomes}
use Rattle.rule_engine.proofs.Splitting.{leaf-by-leaf}
use Rattle.rule_engine.proofs.sets.outcomes.Goals as goal

pub returns-clause-all : goal.returns-clause-all
returns-clause-all c =
    let setting : Setting = record { directory = c.args.directory.now; sender = option_copied c.args.sender; moment = c.args.moment } in
    c.in_ok-all.ensures
    ∙ ap (λ (message : Mail). set_outcomes setting c.args.opened.now 0 c.args.rules.now (stage (record { message = message; copies = c.new.result }) None) c.in_ok-set.set) c.in_ok-copy.ensures
    ∙ ap (λ (copies : List MadeCopy). set_outcomes setting c.args.opened.now 0 c.args.rules.now (stage (record { message = c.args.message.now; copies = copies }) None) c.in_ok-set.set) c.new.ensures
    ∙ ap (set_outcomes setting c.args.opened.now 0 c.args.rules.now (stage (start c.args.message.now) None)) c.in_ok-set.ensures
    ∙ leaf-by-leaf c.args.rules.now setting c.args.message.now c.args.opened.now c.args.leaves.now
