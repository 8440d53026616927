use Rattle.std.proofs.Common.{◌≤◌, ◌∙◌, ap, arith, w8, w16}
use Rattle.jiff_core.specs.Calendar.{weekday_number}
use Rattle.mail_names.specs.Dates.{year_of}
use Rattle.mail_names.proofs.Calendar.{parts, back}
use Rattle.mail_names.proofs.dates.calendar_day.Goals as goal

pub returns-clause-weekday : goal.returns-clause-weekday
returns-clause-weekday c = c.weekday.ensures ∙ ap weekday_number c.date_of-date.ensures

pub returns-clause-day : goal.returns-clause-day
returns-clause-day c =
    let known = parts c.date_of-date.result c.args.number c.date_of-date.ensures in
    let low : c.date_of-date.result.day ≤ 31 = known.day_low in
    c.from.ensures ∙ c.unsigned_abs.ensures.value ∙ back w8 c.day.result c.date_of-date.result.day c.day.ensures (omega arith) ∙ known.day_of_month

pub returns-clause-month : goal.returns-clause-month
returns-clause-month c =
    let known = parts c.date_of-date.result c.args.number c.date_of-date.ensures in
    let low : c.date_of-date.result.month ≤ 12 = c.date_of-date.result.month_in.1 in
    c.from-2.ensures ∙ c.unsigned_abs-2.ensures.value ∙ back w8 c.month.result c.date_of-date.result.month c.month.ensures (omega arith) ∙ known.month

pub returns-clause-year : goal.returns-clause-year
returns-clause-year c =
    let known = parts c.date_of-date.result c.args.number c.date_of-date.ensures in
    let low = known.year_low in
    c.from-3.ensures ∙ c.unsigned_abs-3.ensures.value ∙ back w16 c.year.result (year_of c.args.number) (c.year.ensures ∙ known.year) (omega arith)
