use Rattle.std.proofs.Common.{◌∙◌, sym}
use Rattle.mail_names.proofs.Digits.{not_written, written_value, too_large_value}
use Rattle.mail_names.proofs.decimal.number_of.Goals as goal

pub returns-then-not-is_short-clause-none : goal.returns-then-not-is_short-clause-none
returns-then-not-is_short-clause-none c = not_written c.args.digits.now (sym c.is_short.ensures ∙ c.if-not-is_short.true)

pub returns-clause-some : goal.returns-clause-some
returns-clause-some c = written_value c.args.digits.now c.value_of.result c.requires (sym c.is_short.ensures ∙ c.if-not-is_short.false) c.value_of.ensures

pub returns-clause-none : goal.returns-clause-none
returns-clause-none c = too_large_value c.args.digits.now c.value_of.result c.value_of.ensures
