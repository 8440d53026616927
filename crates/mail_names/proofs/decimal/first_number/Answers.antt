use Rattle.std.proofs.Common.{◌∙◌, ap, take}
use Rattle.std.specs.Str.{all_ascii_digits}
use Rattle.mail_names.proofs.Digits.{front_digits, if_none}
use Rattle.mail_names.proofs.Numbers.{reads_number, no_number}
use Rattle.mail_names.proofs.decimal.first_number.Goals as goal

pub number_of-requires : goal.number_of-requires
number_of-requires c = ap (λ n. all_ascii_digits (take n c.args.text.now)) c.digit_count-count.ensures.value ∙ front_digits c.args.text.now

pub returns-in_err-number-clause-none : goal.returns-in_err-number-clause-none
returns-in_err-number-clause-none c = if_none c.from_residual.result _ (no_number c.args.text.now c.digit_count-count.result c.digit_count-count.ensures.value c.in_err-number.ensures.none)

pub returns-clause-some : goal.returns-clause-some
returns-clause-some c =
    reads_number c.args.text.now c.digit_count-count.result c.in_ok-number.number c.digit_count-count.ensures.value c.in_ok-number.ensures.fits c.in_ok-number.ensures.some
