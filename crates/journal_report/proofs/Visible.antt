-- The lines of a report have no control byte.
use Rattle.std.proofs.Common.{◌≡◌, ℕ, zero, suc, ◌+◌, ◌-◌, ◌/◌, ◌%◌, ◌^◌, ◌<◌, ◌≤◌, Bool, true, false, cond, List, [], ◌∷◌, ◌++◌, refl, arith, Option, Some, None}
use Rattle.std.specs.Prelude.{◌&&◌, ◌==◌, not, nat_le, codes, decimal, slice_index_or, IfSome}
use Rattle.std.specs.List.{flat_map, AllByRecursion}
use Rattle.std.proofs.lemmas.Bool.Decides.{nat_tests}
use Rattle.mail_names.specs.Key.{IsKey}
use Rattle.mail_names.specs.Names.{name_text, IsItemName}
use Rattle.mail_names.specs.Dates.{year_of, month_of, day_of, date_text, date_parts, month_name, two_digits, four_digits, weekday_name}
use Rattle.mail_names.specs.declared.name.ItemName.{ItemName}
use Rattle.mail_message.specs.Enclose.{boundary, boundary_of, least_passing}
use Rattle.journal_report.specs.Report.{report_line, to_line, date_line, id_line, subject_line, sender_text, sender_line, original_id_line, original_subject_line, count_line}
use Rattle.journal_report.specs.Reports.{is_clean}
use Rattle.journal_report.proofs.Above.{above, above-append, both, parts, lower_bound, decimal_above, name_above, key_above}

abbrev pub Visible : List ℕ → Type 0
Visible text = above 32 text ≡ true

pick : (table : List (List ℕ)) (n : ℕ) → AllByRecursion Visible table → Visible (slice_index_or table n [])
pick [] n all = refl
pick (text ∷ table) zero all = all.0
pick (text ∷ table) (suc n) all = pick table n all.1

weekday_visible : (n : ℕ) → Visible (weekday_name n)
weekday_visible n = pick (codes "Mon" ∷ codes "Tue" ∷ codes "Wed" ∷ codes "Thu" ∷ codes "Fri" ∷ codes "Sat" ∷ codes "Sun" ∷ []) n (refl, (refl, (refl, (refl, (refl, (refl, (refl, tt)))))))

month_visible : (n : ℕ) → Visible (month_name n)
month_visible n =
    pick (codes "Jan" ∷ codes "Feb" ∷ codes "Mar" ∷ codes "Apr" ∷ codes "May" ∷ codes "Jun" ∷ codes "Jul" ∷ codes "Aug" ∷ codes "Sep" ∷ codes "Oct" ∷ codes "Nov" ∷ codes "Dec" ∷ []) (n - 1)
    (refl, (refl, (refl, (refl, (refl, (refl, (refl, (refl, (refl, (refl, (refl, (refl, tt))))))))))))

digit_visible : (n : ℕ) → nat_le 32 (48 + n) ≡ true
digit_visible n = grind (arith, nat_tests)

two_visible : (n : ℕ) → Visible (two_digits n)
two_visible n = both (nat_le 32 (48 + n / 10)) (above 32 ((48 + n % 10) ∷ [])) (digit_visible (n / 10)) (both (nat_le 32 (48 + n % 10)) true (digit_visible (n % 10)) refl)

four_visible : (n : ℕ) → Visible (four_digits n)
four_visible n =
    both (nat_le 32 (48 + n / 1000)) (above 32 ((48 + n / 100 % 10) ∷ (48 + n / 10 % 10) ∷ (48 + n % 10) ∷ [])) (digit_visible (n / 1000))
    (both (nat_le 32 (48 + n / 100 % 10)) (above 32 ((48 + n / 10 % 10) ∷ (48 + n % 10) ∷ [])) (digit_visible (n / 100 % 10))
    (both (nat_le 32 (48 + n / 10 % 10)) (above 32 ((48 + n % 10) ∷ [])) (digit_visible (n / 10 % 10)) (both (nat_le 32 (48 + n % 10)) true (digit_visible (n % 10)) refl)))

joined_visible : (parts : List (List ℕ)) → AllByRecursion Visible parts → Visible (flat_map (λ part. part) parts)
joined_visible [] all = refl
joined_visible (part ∷ parts) all = above-append 32 part (flat_map (λ part. part) parts) all.0 (joined_visible parts all.1)

date_of : (w d m y h n s : ℕ) → Visible (flat_map (λ part. part) (date_parts (weekday_name w) (two_digits d) (month_name m) (four_digits y) (two_digits h) (two_digits n) (two_digits s)))
date_of w d m y h n s =
    joined_visible (date_parts (weekday_name w) (two_digits d) (month_name m) (four_digits y) (two_digits h) (two_digits n) (two_digits s))
    (weekday_visible w, (refl, (two_visible d, (refl, (month_visible m, (refl, (four_visible y, (refl, (two_visible h, (refl, (two_visible n, (refl, (two_visible s, (refl, tt))))))))))))))

date_visible : (moment : ℕ) → Visible (date_text moment)
unfolding date_text
date_visible moment =
    date_of _ (day_of (moment / 86400)) (month_of (moment / 86400)) (year_of (moment / 86400)) (moment % 86400 / 3600) (moment % 86400 / 60 % 60) (moment % 86400 % 60)

pub report_visible : (name : ItemName) (moment : ℕ) → IsItemName name → moment < 2 ^ 64 → Visible (report_line name moment)
unfolding report_line
report_visible name moment is small =
    above-append 32 (codes "X-Hub-Journal-Report: ") (name_text name ++ (codes " " ++ decimal moment)) refl
    (above-append 32 (name_text name) (codes " " ++ decimal moment) (lower_bound (name_text name) (name_above name is))
    (above-append 32 (codes " ") (decimal moment) refl (lower_bound (decimal moment) (decimal_above moment small))))

pub to_visible : (key : List ℕ) → IsKey key → Visible (to_line key)
unfolding to_line
to_visible key is = above-append 32 (codes "To: <") (key ++ codes ">") refl (above-append 32 key (codes ">") (lower_bound key (key_above key is)) refl)

pub date_line_visible : (moment : ℕ) → Visible (date_line moment)
unfolding date_line
date_line_visible moment = above-append 32 (codes "Date: ") (date_text moment) refl (date_visible moment)

pub id_visible : (name : ItemName) → IsItemName name → Visible (id_line name)
unfolding id_line
id_visible name is = above-append 32 (codes "Message-Id: <") (name_text name ++ codes "@hub.invalid>") refl (above-append 32 (name_text name) (codes "@hub.invalid>") (lower_bound (name_text name) (name_above name is)) refl)

pub subject_visible : (name : ItemName) → IsItemName name → Visible (subject_line name)
unfolding subject_line
subject_visible name is = above-append 32 (codes "Subject: Journal report ") (name_text name) refl (lower_bound (name_text name) (name_above name is))

sender_text_visible : (sender : Option (List ℕ)) → IfSome sender IsKey → Visible (sender_text sender)
sender_text_visible None is = refl
sender_text_visible (Some key) is = lower_bound key (key_above key is)

pub sender_visible : (sender : Option (List ℕ)) → IfSome sender IsKey → Visible (sender_line sender)
unfolding sender_line
sender_visible sender is = above-append 32 (codes "Sender: ") (sender_text sender) refl (sender_text_visible sender is)

clean_visible : (text : List ℕ) → is_clean text ≡ true → Visible text
clean_visible [] h = refl
clean_visible (b ∷ text) h =
    let p = parts (nat_le 32 b && not (b == 127)) (is_clean text) h in
    both (nat_le 32 b) (above 32 text) (parts (nat_le 32 b) (not (b == 127)) p.0).0 (clean_visible text p.1)

pub original_id_visible : (id : List ℕ) → is_clean id ≡ true → Visible (original_id_line id)
unfolding original_id_line
original_id_visible id h = above-append 32 (codes "Original-Id: ") id refl (clean_visible id h)

pub original_subject_visible : (subject : List ℕ) → is_clean subject ≡ true → Visible (original_subject_line subject)
unfolding original_subject_line
original_subject_visible subject h = above-append 32 (codes "Original-Subject: ") subject refl (clean_visible subject h)

pub count_visible : (count : ℕ) → count < 2 ^ 64 → Visible (count_line count)
unfolding count_line
count_visible count small = above-append 32 (codes "Recipients: ") (decimal count) refl (lower_bound (decimal count) (decimal_above count small))

least_bounded : (p : ℕ → Bool) (n k : ℕ) → least_passing p n k ≤ k + n
unfolding least_passing
least_bounded p zero k = omega arith
least_bounded p (suc n) k = by (p k) (least_bounded p n (k + 1))
  where
    by : (b : Bool) → least_passing p n (k + 1) ≤ k + 1 + n → cond b k (least_passing p n (k + 1)) ≤ k + suc n
    by true h = omega arith
    by false h = omega arith

mark_of_least : (p : ℕ → Bool) (n : ℕ) → n < 2 ^ 64 → Visible (boundary (least_passing p n 0))
mark_of_least p n small =
    above-append 32 (codes "=_hub_") (decimal (least_passing p n 0)) refl
    (lower_bound (decimal (least_passing p n 0)) (decimal_above (least_passing p n 0) (let h = least_bounded p n 0 in omega arith)))

pub mark_visible : (added original : List ℕ) → Visible (boundary_of added original)
unfolding boundary_of
mark_visible added original = mark_of_least _ (2 ^ 64 - 1) (omega arith)
