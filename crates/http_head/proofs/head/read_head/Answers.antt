use Rattle.std.proofs.Common.{◌∙◌, ap, sym, Err}
use Rattle.http_head.proofs.Readings.{none-err, bad-many, bad-hopeless, open-target}
use Rattle.http_head.proofs.head.read_head.Goals as goal

pub returns-then-is_too_many : goal.returns-then-is_too_many
returns-then-is_too_many c =
    bad-many c.args.text.now (none-err c.args.text.now c.parse_request.new.headers c.in-Err.error c.in-Err.ensures.found)
    (c.in-Err.ensures.too_many (ap Err (c.is_too_many.ensures.yes c.if-is_too_many.true)))

pub returns-then-ends_in_target : goal.returns-then-ends_in_target
returns-then-ends_in_target c =
    open-target c.args.text.now (none-err c.args.text.now c.parse_request.new.headers c.in-Err.error c.in-Err.ensures.found)
    (sym c.ends_in_target.ensures ∙ c.if-ends_in_target.true) (sym c.is_over_limits-in-Err.ensures ∙ c.if-is_over_limits-2.false)

pub returns-else-ends_in_target : goal.returns-else-ends_in_target
returns-else-ends_in_target c =
    bad-hopeless c.args.text.now (none-err c.args.text.now c.parse_request.new.headers c.in-Err.error c.in-Err.ensures.found)
    (c.in-Err.ensures.invalid (c.is_too_many.ensures.no c.if-is_too_many.false)) (sym c.ends_in_target.ensures ∙ c.if-ends_in_target.false)
