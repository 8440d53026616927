-- The text of a moment, by jiff's calendar.
use Rattle.std.specs.Prelude.{ℕ, zero, suc, ◌+◌, ◌-◌, ◌/◌, ◌%◌, Bool, if◌then◌else◌, List, [], ◌∷◌, pos, ◌+ℤ◌, ◌-ℤ◌, int_le, unsigned_abs, slice_index_or, codes}
use Rattle.std.specs.List.{flat_map}
use Rattle.mail_names.specs.declared.dates.TheConstants.{LAST_MOMENT}
use Rattle.jiff_core.specs.Calendar.{days_from_civil, weekday_number}

-- 9999-12-31T23:59:59Z, in seconds since 1970
abbrev pub last_moment : ℕ
last_moment = LAST_MOMENT

-- the greatest number up to n that passes, or 0
unfoldable pub greatest : (ℕ → Bool) → ℕ → ℕ
greatest p zero = 0
greatest p (suc n) = if p (suc n) then suc n else greatest p n

-- this month begins on that day, in days since 1970-01-01, or before it
abbrev pub has_begun : ℕ → ℕ → ℕ → Bool
has_begun day year month = int_le (days_from_civil (pos year) month 1) (pos day)

-- the last year that has begun
unfoldable pub year_of : ℕ → ℕ
year_of day = greatest (λ year. has_begun day year 1) 9999

-- the last month of it that has begun
unfoldable pub month_of : ℕ → ℕ
month_of day = greatest (has_begun day (year_of day)) 12

-- the day in its month, from 1
unfoldable pub day_of : ℕ → ℕ
day_of day = unsigned_abs (pos day +ℤ pos 1 -ℤ days_from_civil (pos (year_of day)) (month_of day) 1)

-- day-name = "Mon" / "Tue" / "Wed" / "Thu" / "Fri" / "Sat" / "Sun", from 0 for Monday
abbrev pub weekday_name : ℕ → List ℕ
weekday_name n =
    slice_index_or (codes "Mon" ∷ codes "Tue" ∷ codes "Wed" ∷ codes "Thu" ∷ codes "Fri" ∷ codes "Sat" ∷ codes "Sun" ∷ []) n []

-- month = "Jan" / "Feb" / "Mar" / "Apr" / "May" / "Jun" / "Jul" / "Aug" / "Sep" / "Oct" / "Nov" / "Dec", from 1
abbrev pub month_name : ℕ → List ℕ
month_name n =
    slice_index_or (codes "Jan" ∷ codes "Feb" ∷ codes "Mar" ∷ codes "Apr" ∷ codes "May" ∷ codes "Jun" ∷ codes "Jul" ∷ codes "Aug" ∷ codes "Sep" ∷ codes "Oct" ∷ codes "Nov" ∷ codes "Dec" ∷ []) (n - 1) []

-- 2DIGIT
abbrev pub two_digits : ℕ → List ℕ
two_digits n = (48 + n / 10) ∷ (48 + n % 10) ∷ []

-- 4DIGIT
abbrev pub four_digits : ℕ → List ℕ
four_digits n = (48 + n / 1000) ∷ (48 + n / 100 % 10) ∷ (48 + n / 10 % 10) ∷ (48 + n % 10) ∷ []

-- date-time = day-name "," SP 2DIGIT SP month SP 4DIGIT SP 2DIGIT ":" 2DIGIT ":" 2DIGIT SP "+0000"
abbrev pub date_parts : List ℕ → List ℕ → List ℕ → List ℕ → List ℕ → List ℕ → List ℕ → List (List ℕ)
date_parts weekday day month year hour minute second =
    weekday ∷ codes ", " ∷ day ∷ codes " " ∷ month ∷ codes " " ∷ year ∷ codes " "
    ∷ hour ∷ codes ":" ∷ minute ∷ codes ":" ∷ second ∷ codes " +0000" ∷ []

-- The moment in seconds since 1970-01-01T00:00:00Z (RFC 5322 section 3.3). A day has 86,400 seconds.
unfoldable pub date_text : ℕ → List ℕ
date_text moment =
    let day = moment / 86400 in
    let second = moment % 86400 in
    flat_map (λ part. part)
    (date_parts (weekday_name (weekday_number (pos day))) (two_digits (day_of day)) (month_name (month_of day)) (four_digits (year_of day))
    (two_digits (second / 3600)) (two_digits (second / 60 % 60)) (two_digits (second % 60)))
