-- The year, the month and the day of a date are those of its day number.
use Rattle.std.proofs.Common.{◌≡◌, ◌⊎◌, ℕ, zero, suc, ◌<◌, ◌≤◌, Bool, true, false, cond, List, refl, ap, ◌∙◌, sym, subst, inl, inr, arith, rules, ℤ, pos, negsuc, ◌+ℤ◌, ◌-ℤ◌, ◌<ℤ◌, ◌≤ℤ◌, ◌^◌, to_z, of_z}
use Rattle.std.specs.Prelude.{int_le, unsigned_abs}
use Rattle.std.specs.Int.{IsInRange, Width}
use Rattle.std.specs.List.{flat_map}
use Rattle.std.proofs.lemmas.Int.{ints}
use Rattle.std.proofs.lemmas.Bool.{cases_order}
use Rattle.jiff_core.specs.declared.civil.date.Date.{Date}
use Rattle.jiff_core.specs.Calendar.{days_from_civil, IsYear}
use Rattle.jiff_core.specs.Date.{epoch_day}
use Rattle.jiff_core.proofs.CalendarLemmas.{days_in_month_bounds, days_from_civil-day_count, day_count-epoch}
use Rattle.jiff_core.proofs.DateLemmas.{IsEarlier, epoch_day-lt, epoch_day_same, days_from_civil-day}
use Rattle.jiff_core.proofs.SignedLemmas.{signed_arith, back_small}
use mir.Val.{hbits}
use Rattle.mail_names.specs.Dates.{greatest, has_begun, year_of, month_of, day_of, date_parts}

pub greatest_is : (p : ℕ → Bool) (n k : ℕ) → k ≤ n → (0 < k → p k ≡ true) → ((j : ℕ) → k < j → j ≤ n → p j ≡ false) → greatest p n ≡ k
unfolding greatest
greatest_is p zero k within passes fails = omega arith
greatest_is p (suc n) k within passes fails = elim (cases_order k (suc n)) [
  | inl same ↦ by_same (p (suc n)) (sym (ap p same) ∙ passes (omega arith)) same
  | inr (inl below) ↦ by_below (p (suc n)) (fails (suc n) below (omega arith)) (greatest_is p n k (omega arith) passes (λ j above most. fails j above (omega arith)))
  | inr (inr above) ↦ absurd (omega arith)
]
  where
    by_same : (b : Bool) → b ≡ true → k ≡ suc n → cond b (suc n) (greatest p n) ≡ k
    by_same true e same = sym same
    by_same false e same = absurd cc

    by_below : (b : Bool) → b ≡ false → greatest p n ≡ k → cond b (suc n) (greatest p n) ≡ k
    by_below true e rest = absurd cc
    by_below false e rest = rest

fits : (year : ℕ) → year ≤ 9999 → IsYear (pos year)
fits year h = (search rules, grind (arith, ints))

abbrev first_of : (year month : ℕ) → year ≤ 9999 → IsInRange 1 12 month → Date
first_of year month low range = record {
  year = pos year;
  month = month;
  day = 1;
  year_in = fits year low;
  month_in = range;
  day_in = (omega arith, (let long = days_in_month_bounds (pos year) month in omega arith));
}

abbrev january : IsInRange 1 12 1
january = (omega arith, omega arith)

pub begun : (z : ℤ) (day : ℕ) → z ≤ℤ pos day → int_le z (pos day) ≡ true
begun z day h = grind (arith, ints)

pub not_begun : (z : ℤ) (day : ℕ) → pos day <ℤ z → int_le z (pos day) ≡ false
not_begun z day h = grind (arith, ints)

-- a date that isn't after another one has no greater day number
no_later : (a b : Date) → IsEarlier a b ⊎ ((a.year ≡ b.year) × (a.month ≡ b.month) × (a.day ≡ b.day)) → epoch_day a ≤ℤ epoch_day b
no_later a b (inl earlier) = omega (arith, signed_arith, epoch_day-lt a b earlier)
no_later a b (inr (year, month, day)) = omega (arith, signed_arith, epoch_day_same a b year month day)

-- the first of a month isn't after the other days of it
month_begun : (d : Date) (year : ℕ) (low : year ≤ 9999) → d.year ≡ pos year → epoch_day (first_of year d.month low d.month_in) ≤ℤ epoch_day d
month_begun d year low same = elim (cases_order 1 d.day) [
  | inl one ↦ no_later (first_of year d.month low d.month_in) d (inr (sym same, refl, one))
  | inr (inl later) ↦ no_later (first_of year d.month low d.month_in) d (inl (inr (sym same, inr (refl, later))))
  | inr (inr before) ↦ absurd (let first = d.day_in.0 in omega arith)
]

-- nor is the first of a month that isn't later
year_begun : (d : Date) (year : ℕ) (low : year ≤ 9999) → d.year ≡ pos year → epoch_day (first_of year 1 low january) ≤ℤ epoch_day d
year_begun d year low same = elim (cases_order 1 d.month) [
  | inl one ↦ subst (λ (m : ℕ). days_from_civil (pos year) m 1 ≤ℤ epoch_day d) (sym one) (month_begun d year low same)
  | inr (inl later) ↦ no_later (first_of year 1 low january) d (inl (inr (sym same, inl later)))
  | inr (inr before) ↦ absurd (let first = d.month_in.0 in omega arith)
]

-- the year isn't negative
year_is : (d : Date) (day : ℕ) → epoch_day d ≡ pos day → (year : ℕ) × (d.year ≡ pos year) × (year ≤ 9999)
year_is d day e = by d.year refl
  where
    after : (n : ℕ) → d.year ≡ negsuc n → ⊥
    after n same =
        let lt = epoch_day-lt d (first_of 1970 1 (omega arith) january) (inl (rw same (search rules))) in
        omega (arith, signed_arith, days_from_civil-day_count, day_count-epoch)

    below : (y : ℕ) → d.year ≡ pos y → y ≤ 9999
    below y same = (let most = subst (λ (z : ℤ). z ≤ℤ pos 9999) same d.year_in.1 in omega (arith, signed_arith))

    by : (z : ℤ) → d.year ≡ z → (year : ℕ) × (d.year ≡ pos year) × (year ≤ 9999)
    by (pos y) same = (y, same, below y same)
    by (negsuc n) same = absurd (after n same)

pub record HasParts (d : Date) (day : ℕ) : Type 0 where
  pub year : d.year ≡ pos (year_of day)
  pub month : d.month ≡ month_of day
  pub day_of_month : d.day ≡ day_of day
  pub year_low : year_of day ≤ 9999
  pub day_low : d.day ≤ 31

year_found : (d : Date) (day year : ℕ) → epoch_day d ≡ pos day → d.year ≡ pos year → year ≤ 9999 → year_of day ≡ year
unfolding year_of
year_found d day year e same low =
    greatest_is (λ y. has_begun day y 1) 9999 year low
    (λ _. begun (days_from_civil (pos year) 1 1) day (subst (λ (z : ℤ). days_from_civil (pos year) 1 1 ≤ℤ z) e (year_begun d year low same)))
    (λ j above most. not_begun (days_from_civil (pos j) 1 1) day (subst (λ (z : ℤ). z <ℤ days_from_civil (pos j) 1 1) e (epoch_day-lt d (first_of j 1 most january) (inl (rw same (later j above))))))
  where
    later : (j : ℕ) → year < j → pos year <ℤ pos j
    later j above = omega (arith, signed_arith)

month_found : (d : Date) (day year : ℕ) → epoch_day d ≡ pos day → d.year ≡ pos year → year ≤ 9999 → greatest (has_begun day year) 12 ≡ d.month
month_found d day year e same low =
    greatest_is (has_begun day year) 12 d.month d.month_in.1
    (λ _. begun (days_from_civil (pos year) d.month 1) day (subst (λ (z : ℤ). days_from_civil (pos year) d.month 1 ≤ℤ z) e (month_begun d year low same)))
    (λ j above most. not_begun (days_from_civil (pos year) j 1) day (subst (λ (z : ℤ). z <ℤ days_from_civil (pos year) j 1) e
    (epoch_day-lt d (first_of year j low (let first = d.month_in.0 in (omega arith, most))) (inr (same, inl above)))))

day_found : (d : Date) (day year : ℕ) → epoch_day d ≡ pos day → d.year ≡ pos year → unsigned_abs (pos day +ℤ pos 1 -ℤ days_from_civil (pos year) d.month 1) ≡ d.day
day_found d day year e same =
    let first : days_from_civil (pos year) d.month 1 ≡ days_from_civil d.year d.month 1 = ap (λ (y : ℤ). days_from_civil y d.month 1) (sym same) in
    let apart = days_from_civil-day d.year d.month d.day 1 d.day_in.0 (omega arith) in
    ap unsigned_abs (difference (days_from_civil d.year d.month d.day) (days_from_civil d.year d.month 1) (days_from_civil (pos year) d.month 1) d.day e first apart)
  where
    difference : (a b c : ℤ) (n : ℕ) → a ≡ pos day → c ≡ b → a +ℤ pos 1 ≡ b +ℤ pos n → pos day +ℤ pos 1 -ℤ c ≡ pos n
    difference a b c n p q r = omega (arith, signed_arith)

pub parts : (d : Date) (day : ℕ) → epoch_day d ≡ pos day → HasParts d day
unfolding month_of day_of
parts d day e =
    let year = year_is d day e in
    let found = year_found d day year.0 e year.1 year.2 in
    let month : month_of day ≡ d.month = ap (λ y. greatest (has_begun day y) 12) found ∙ month_found d day year.0 e year.1 year.2 in
    record {
      year = year.1 ∙ ap (λ (y : ℕ). pos y) (sym found);
      month = sym month;
      year_low = (let low = year.2 in omega arith);
      day_low = (let most = d.day_in.1 in let long = days_in_month_bounds d.year d.month in omega arith);
      day_of_month = sym (ap (λ y. unsigned_abs (pos day +ℤ pos 1 -ℤ days_from_civil (pos y) (month_of day) 1)) found
          ∙ ap (λ m. unsigned_abs (pos day +ℤ pos 1 -ℤ days_from_civil (pos year.0) m 1)) month ∙ day_found d day year.0 e year.1);
    }

-- a number that fits comes back from its bits
pub back : (w : Width) (z : ℤ) (n : ℕ) → z ≡ pos n → n < 2 ^ hbits w → unsigned_abs (to_z w (of_z w z)) ≡ n
back w z n e h = ap (λ (x : ℤ). unsigned_abs (to_z w (of_z w x))) e ∙ ap unsigned_abs (back_small w (pos n) h)

-- the same parts make the same text
pub same_text : (w w' d d' m m' y y' h h' i i' s s' : List ℕ) → w ≡ w' → d ≡ d' → m ≡ m' → y ≡ y' → h ≡ h' → i ≡ i' → s ≡ s'
    → flat_map (λ part. part) (date_parts w d m y h i s) ≡ flat_map (λ part. part) (date_parts w' d' m' y' h' i' s')
same_text w w' d d' m m' y y' h h' i i' s s' a b c e f g k =
    let joined : List (List ℕ) → List ℕ = λ parts. flat_map (λ part. part) parts in
    ap (λ x. joined (date_parts x d m y h i s)) a
    ∙ ap (λ x. joined (date_parts w' x m y h i s)) b
    ∙ ap (λ x. joined (date_parts w' d' x y h i s)) c
    ∙ ap (λ x. joined (date_parts w' d' m' x h i s)) e
    ∙ ap (λ x. joined (date_parts w' d' m' y' x i s)) f
    ∙ ap (λ x. joined (date_parts w' d' m' y' h' x s)) g
    ∙ ap (λ x. joined (date_parts w' d' m' y' h' i' x)) k
