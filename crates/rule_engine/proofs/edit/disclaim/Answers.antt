use Rattle.std.proofs.Common.{ℕ, List, sym, ◌∙◌, ap}
use Rattle.mail_message.specs.Enclose.{wrapped}
use Rattle.rule_engine.proofs.Falling.{left-wrapped}
use Rattle.rule_engine.proofs.edit.disclaim.Goals as goal

pub returns-in_ok-wrap-in-Wrap : goal.returns-in_ok-wrap-in-Wrap
returns-in_ok-wrap-in-Wrap c =
    c.in_ok-wrap-in-Wrap.ensures.ok ∙ ap (λ (text : List ℕ). wrapped text c.args.message.now) c.as_slice-in-Wrap.ensures
    ∙ sym (left-wrapped c.args.before c.args.text.now c.args.fallback c.args.message.now (sym c.in_ok-is_plain.ensures ∙ c.if-branch.false) c.in-Wrap.is)
