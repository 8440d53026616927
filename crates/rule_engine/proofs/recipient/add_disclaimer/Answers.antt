use Rattle.std.proofs.Common.{ℕ, List, sym, ◌∙◌, ap}
use Rattle.mail_message.specs.Message.{Mail}
use Rattle.mail_message.specs.Enclose.{wrapped}
use Rattle.rule_engine.specs.Fate.{with_message}
use Rattle.rule_engine.proofs.Falling.{wrapped-after}
use Rattle.rule_engine.proofs.recipient.add_disclaimer.Goals as goal

pub returns-in_ok-wrap-in-Wrap : goal.returns-in_ok-wrap-in-Wrap
returns-in_ok-wrap-in-Wrap c =
    wrapped-after c.args.rule c.args.before c.args.text.now c.args.fallback c.args.progress.now _ (sym c.in_ok-is_plain.ensures ∙ c.if-branch.false) c.in-Wrap.is
    (ap (λ (m : Mail). with_message m c.args.progress.now)
    (c.in_ok-wrap-in-Wrap.ensures.ok ∙ ap (λ (text : List ℕ). wrapped text c.args.progress.now.message) c.as_slice-in-Wrap.ensures))
