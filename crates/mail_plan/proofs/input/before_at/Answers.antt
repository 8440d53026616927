use Rattle.std.proofs.Common.{List, Some, ap, ◌∙◌, arith}
use Rattle.mail_names.specs.declared.gate.Gate.{Gate}
use Rattle.mail_plan.proofs.Opened.{before_of}
use Rattle.mail_plan.proofs.input.before_at.Goals as goal

pub returns : goal.returns
returns c =
    ap (λ (gates : List Gate). Some gates) c.in_ok-gates.ensures
    ∙ before_of c.args.openings.now c.args.release (λ is. omega (arith, c.if-release-eq0.false, is))
