-- The parts of a submission of the load make it.
use Rattle.std.proofs.Common.{◌≡◌, ◌∙◌, ◌<◌, ◌≤◌, ◌^◌, ◌%◌, ◌==◌, ℕ, Bool, true, false, not, refl, ap, arith, List, [], ◌∷◌, ◌++◌, length, length-append, append_assoc, Some, Ok, Err, codes}
use Rattle.std.specs.Prelude.{◌&&◌, if◌then◌else◌, nat_lt, decimal}
use Rattle.std.specs.List.{list_all}
use Rattle.std.specs.Char.{is_ascii_digit}
use Rattle.std.specs.Str.{all_ascii_digits}
use Rattle.std.proofs.lemmas.Bool.Decides.{nat_tests}
use Rattle.std.proofs.lemmas.List.Folds.{list_all-append}
use Rattle.std.proofs.lemmas.Fmt.{digits_decimal, length-decimal-le}
use Rattle.mail_names.proofs.Offered.{own}
use Rattle.mail_message.specs.Lines.{ended_all}
use Rattle.mail_message.specs.Message.{Mail}
use Rattle.mail_message.specs.Faults.{most_octets}
use Rattle.mail_message.specs.ReadOf.{read_from, read_of}
use Rattle.mail_submission.specs.Submission.{Submitted, submission_of, submission_read}
use Rattle.mail_submission.specs.declared.submission.Origin.TheVariants as origins
use Rattle.mail_submission.specs.declared.submission.SubmissionFault.TheVariants as faults
use Rattle.make_load.specs.Load.{message_at, recipients_at, reverse_at, submission_at}
use Rattle.make_load.proofs.LinesOf.{is_plain, lines_of-ended}

digit_plain : (b : ℕ) → is_ascii_digit b ≡ true → not (b == 13) ≡ true
digit_plain b h = grind (arith, nat_tests)

parts : (a b : Bool) → (a && b) ≡ true → (a ≡ true) × (b ≡ true)
parts true b h = (refl, h)
parts false b h = cc

both : (a b : Bool) → a ≡ true → b ≡ true → (a && b) ≡ true
both a b p q = ap (λ x. x && b) p ∙ q

digits_plain : (ds : List ℕ) → all_ascii_digits ds ≡ true → is_plain ds ≡ true
digits_plain [] h = refl
digits_plain (d ∷ ds) h = let here = parts (is_ascii_digit d) (all_ascii_digits ds) h in both _ _ (digit_plain d here.0) (digits_plain ds here.1)

-- a number is a plain text
number_plain : (i : ℕ) → i < 2 ^ 32 → is_plain (decimal i) ≡ true
number_plain i small = let wide : i < 2 ^ 64 = omega arith in digits_plain (decimal i) (digits_decimal own i wide)

joined : (a b : List ℕ) → is_plain a ≡ true → is_plain b ≡ true → is_plain (a ++ b) ≡ true
joined a b p q = list_all-append (λ c. not (c == 13)) a b ∙ both _ _ p q

abbrev lines_at : ℕ → List (List ℕ)
lines_at i =
    (codes "Message-Id: <g" ++ (decimal i ++ codes "@example.com>"))
    ∷ (codes "Subject: Load " ++ decimal i)
    ∷ []
    ∷ (codes "Line " ++ decimal i)
    ∷ []

lines_plain : (i : ℕ) → i < 2 ^ 32 → list_all is_plain (lines_at i) ≡ true
lines_plain i small =
    let number = number_plain i small in
    both _ _ (joined (codes "Message-Id: <g") (decimal i ++ codes "@example.com>") refl (joined (decimal i) (codes "@example.com>") number refl))
    (both _ _ (joined (codes "Subject: Load ") (decimal i) refl number)
    (both _ _ refl (both _ _ (joined (codes "Line ") (decimal i) refl number) refl)))

below : (n : ℕ) → n ≤ 200 → nat_lt most_octets n ≡ false
below n h = grind (arith, nat_tests)

message_length : (i : ℕ) → i < 2 ^ 32 → nat_lt most_octets (length (message_at i)) ≡ false
message_length i small =
    let digits : length (decimal i) ≤ 10 = length-decimal-le 10 i (omega arith) (omega arith) (omega arith) in
    below (length (message_at i)) (simp length-append (omega arith))

abbrev Readable : ℕ → Type 0
Readable i = (m : Mail) × (read_of (message_at i) ≡ Ok m)

-- the lines are a header, an empty line and a body
lines_read : (i : ℕ) → (m : Mail) × (read_from 0 [] (lines_at i) [] ≡ Ok m)
lines_read i = (_, refl)

readable : (i : ℕ) → i < 2 ^ 32 → Readable i
unfolding read_of
readable i small =
    let read = lines_read i in
    (read.0, rw (message_length i small, lines_of-ended (lines_at i) (lines_plain i small)) read.1)

abbrev Few : List (List ℕ) → Type 0
Few recipients = (nat_lt 0 (length recipients) ≡ true) × (nat_lt 1000 (length recipients) ≡ false)

few_by : (first second third : Bool) (a b c d : List (List ℕ)) → Few a → Few b → Few c → Few d
    → Few (if first then a else (if second then b else (if third then c else d)))
few_by true second third a b c d p q r s = p
few_by false true third a b c d p q r s = q
few_by false false true a b c d p q r s = r
few_by false false false a b c d p q r s = s

few : (i : ℕ) → Few (recipients_at i)
few i = few_by (i % 4 == 0) (i % 4 == 1) (i % 4 == 2) _ _ _ _ (refl, refl) (refl, refl) (refl, refl) (refl, refl)

abbrev parts_of : ℕ → Submitted
parts_of i = record { origin = origins.Smtp; reverse = Some (reverse_at i); recipients = recipients_at i; bytes = message_at i }

-- its parts make the submission
pub made : (i : ℕ) → i < 2 ^ 32 → submission_of origins.Smtp (Some (reverse_at i)) (recipients_at i) (message_at i) ≡ Ok (submission_at i)
made i small =
    let read = readable i small in
    let count = few i in
    ap (λ b. if b then (if nat_lt 1000 (length (recipients_at i)) then Err faults.TooManyRecipients else submission_read (parts_of i) (read_of (message_at i))) else Err faults.NoRecipients) count.0
    ∙ ap (λ b. if b then Err faults.TooManyRecipients else submission_read (parts_of i) (read_of (message_at i))) count.1
    ∙ ap (λ r. submission_read (parts_of i) r) read.1

-- lines that were added one after another
pub added : (first second last : List ℕ) (empty one two three four : List ℕ) → empty ≡ [] → one ≡ empty ++ (first ++ 13 ∷ 10 ∷ []) → two ≡ one ++ (second ++ 13 ∷ 10 ∷ [])
    → three ≡ two ++ 13 ∷ 10 ∷ [] → four ≡ three ++ (last ++ 13 ∷ 10 ∷ []) → four ≡ ended_all (first ∷ second ∷ [] ∷ last ∷ [])
added first second last empty one two three four a b c d e = rw (e, d, c, b, a) (simp append_assoc)
