use Rattle.std.proofs.Common.{◌∙◌, ap}
use Rattle.std.proofs.lemmas.Result.{IfOk-weaker}
use Rattle.mail_names.specs.Dates.{date_text, two_digits, four_digits, month_name, weekday_name}
use Rattle.mail_names.proofs.Calendar.{same_text}
use Rattle.mail_names.proofs.dates.date_text.Goals as goal

pub returns : goal.returns
unfolding date_text
returns c =
    IfOk-weaker c.joined.result _ _ (λ text is. is ∙ same_text _ _ _ _ _ _ _ _ _ _ _ _ _ _
    (c.weekday_name.ensures ∙ ap weekday_name c.calendar_day-date.ensures.weekday)
    (c.two_digits.ensures ∙ ap two_digits c.calendar_day-date.ensures.day)
    (c.month_name.ensures ∙ ap month_name c.calendar_day-date.ensures.month)
    (c.four_digits.ensures ∙ ap four_digits c.calendar_day-date.ensures.year)
    c.two_digits-2.ensures c.two_digits-3.ensures c.two_digits-4.ensures) c.joined.ensures
