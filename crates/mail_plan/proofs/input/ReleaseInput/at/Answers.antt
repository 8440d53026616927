use Rattle.std.specs.Arc.{arc_value}
use Rattle.mail_plan.proofs.Opened.{input_of}
use Rattle.mail_plan.proofs.input.ReleaseInput.at.Goals as goal

pub returns : goal.returns
returns c =
    input_of c.args.number c.args.epoch c.args.accepted_at c.made_at-made.result c.args.release c.in_ok-before.before c.in_ok-opened.opened (arc_value c.args.submission) c.args.opened.now
    c.made_at-made.ensures.value c.in_ok-before.ensures c.in_ok-opened.ensures
