-- A file of more octets than a message may have stands for nothing, and so does what was read of it.
use Rattle.std.proofs.Common.{◌≡◌, ℕ, ◌+◌, ◌<◌, ◌≤◌, Bool, true, false, cond, List, [], ◌∷◌, length, take, refl, ap, ◌∙◌, sym, subst, arith, length-append}
use Rattle.std.specs.Prelude.{◌==◌, nat_lt, IsTrue, Option, Some, None, Err}
use Rattle.std.specs.List.{flat_map}
use Rattle.std.specs.Option.{option_map}
use Rattle.std.specs.Result.{result_ok}
use Rattle.std.proofs.lemmas.Bool.{ltb-true, lt-ltb}
use Rattle.std.proofs.lemmas.List.{take_all, length-take-le}
use Rattle.mail_names.specs.Lines.{lines_of}
use Rattle.mail_message.specs.Faults.{most_octets}
use Rattle.mail_message.specs.ReadOf.{read_of, read_from}
use Rattle.mail_message.specs.declared.fault.MessageFault.TheVariants as faults
use Rattle.mail_submission.specs.Submission.{Submitted}
use Rattle.pickup_box.specs.Folder.{Folder, bytes_in, Tells, Stays}
use Rattle.pickup_box.specs.LineEnds.{has_cr, ended_line, with_crlf}
use Rattle.pickup_box.specs.PickupOf.{pickup_of, submitted_read, Gives}
use Rattle.pickup_box.specs.declared.pickup.PickupBad.{PickupBad}
use Rattle.pickup_box.specs.declared.pickup.PickupBad.TheVariants as bad

ended-le : (b : ℕ) → 1 ≤ length (ended_line b)
ended-le b = by (b == 10)
  where
    by : (t : Bool) → 1 ≤ length (cond t (13 ∷ 10 ∷ []) (b ∷ []))
    by true = omega arith
    by false = omega arith

ends-le : (file : List ℕ) → length file ≤ length (flat_map ended_line file)
ends-le [] = omega arith
ends-le (b ∷ file) =
    let rest = ends-le file in
    let one = ended-le b in
    let both = length-append (ended_line b) (flat_map ended_line file) in
    omega arith

crlf-le : (file : List ℕ) → length file ≤ length (with_crlf file)
crlf-le file = by (has_cr file)
  where
    by : (t : Bool) → length file ≤ length (cond t file (flat_map ended_line file))
    by true = omega arith
    by false = ends-le file

unread : (bytes : List ℕ) → most_octets < length bytes → read_of bytes ≡ Err faults.TooLarge
unfolding read_of
unread bytes long = ap (λ t. cond t (Err faults.TooLarge) (read_from 0 [] (lines_of bytes).lines (lines_of bytes).left)) (lt-ltb most_octets (length bytes) long)

too_long : (mark file : List ℕ) → most_octets < length file → pickup_of mark file ≡ None
too_long mark file long =
    let more = crlf-le file in
    ap (λ r. submitted_read mark (result_ok r)) (unread (with_crlf file) (omega arith))

not_longer : (n : ℕ) → nat_lt most_octets n ≡ false → n ≤ most_octets + 1
not_longer n e = grind arith

-- what is read of a file stands for the same
read_enough : (mark all : List ℕ) → pickup_of mark (take (most_octets + 1) all) ≡ pickup_of mark all
read_enough mark all = by (nat_lt most_octets (length all)) refl
  where
    by : (t : Bool) → nat_lt most_octets (length all) ≡ t → pickup_of mark (take (most_octets + 1) all) ≡ pickup_of mark all
    by true e =
        let long : most_octets < length all = ltb-true most_octets (length all) e in
        let front : length (take (most_octets + 1) all) ≡ most_octets + 1 = length-take-le (most_octets + 1) all (omega arith) in
        too_long mark (take (most_octets + 1) all) (omega arith) ∙ sym (too_long mark all long)
    by false e =
        let short : length all ≤ most_octets + 1 = not_longer (length all) e in
        ap (pickup_of mark) (take_all (most_octets + 1) all short)

pub stands : (d e : Folder) (mark label slice bytes : List ℕ) (made : Option Submitted) → Tells Stays d e → (IsTrue d.told → option_map (λ all. take (most_octets + 1) all) (bytes_in d.files mark) ≡ Some bytes) →
    label ≡ mark → slice ≡ bytes → pickup_of label slice ≡ made →
    (x : List ℕ) × (IsTrue d.told → bytes_in d.files mark ≡ Some x) × (made ≡ pickup_of mark x) × Tells Stays d e
stands d e mark label slice bytes made stays answer named read is = by d.told refl
  where
    is_made : made ≡ pickup_of mark bytes
    is_made = sym is ∙ ap (λ l. pickup_of l slice) named ∙ ap (λ b. pickup_of mark b) read

    some_same : (x y : List ℕ) → Some x ≡ Some y → x ≡ y
    some_same x y same = cc

    by_file : (o : Option (List ℕ)) → bytes_in d.files mark ≡ o → option_map (λ all. take (most_octets + 1) all) o ≡ Some bytes → (x : List ℕ) × (IsTrue d.told → bytes_in d.files mark ≡ Some x) × (made ≡ pickup_of mark x) × Tells Stays d e
    by_file None there same = absurd cc
    by_file (Some all) there same = (all, (λ t. there), is_made ∙ ap (pickup_of mark) (sym (some_same (take (most_octets + 1) all) bytes same)) ∙ read_enough mark all, stays)

    by : (t : Bool) → d.told ≡ t → (x : List ℕ) × (IsTrue d.told → bytes_in d.files mark ≡ Some x) × (made ≡ pickup_of mark x) × Tells Stays d e
    by true told = by_file (bytes_in d.files mark) refl (answer (subst IsTrue (sym told) refl))
    by false told = (bytes, (λ t. untold (subst IsTrue told t)), is_made, stays)
      where
        untold : IsTrue false → bytes_in d.files mark ≡ Some bytes
        untold no_file = absurd cc

pub unmade : (made : Option Submitted) (why : PickupBad) → why ≡ bad.Bad → Gives {T = Submitted} (Err why) made → made ≡ None
unmade made why is = subst (λ (w : PickupBad). Gives {T = Submitted} (Err w) made → made ≡ None) (sym is) (λ none. none)
