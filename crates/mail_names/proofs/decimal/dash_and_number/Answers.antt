use Rattle.std.proofs.Common.{◌≡◌, get_or, arith}
use Rattle.mail_names.proofs.Numbers.{dash_first, too_large}
use Rattle.mail_names.proofs.decimal.dash_and_number.Goals as goal

pub returns-in-Err-clause-none : goal.returns-in-Err-clause-none
returns-in-Err-clause-none c =
    let dash : get_or c.args.text.now 0 0 ≡ 45 = omega arith in
    too_large c.args.text.now _ c.in_ok-number-in-45.rest.now c.in_ok-number-in-45.number (dash_first c.args.text.now dash c.in-45.len_at_least) c.in_ok-number-in-45.ensures.some c.in-Err.ensures
