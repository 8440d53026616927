-- The text of an item's name.
use Rattle.std.specs.Prelude.{◌≡◌, ◌<◌, ◌^◌, ℕ, Bool, true, false, not, ◌==◌, ◌&&◌, List, [], ◌∷◌, ◌++◌, decimal}
use Rattle.std.specs.Ordering.{nat_cmp}
use Rattle.std.specs.declared.cmp.Ordering.{Ordering}
use Rattle.std.specs.declared.cmp.Ordering.TheVariants as orders
use Rattle.std.specs.Char.{is_ascii_digit}
use Rattle.mail_names.specs.declared.name.ItemName.{ItemName}
use Rattle.mail_names.specs.declared.name.ApprovalName.{ApprovalName}
use Rattle.mail_names.specs.declared.name.Mark.{Mark}
use Rattle.mail_names.specs.declared.name.Mark.TheVariants as marks

-- -g, -d or -u behind the name of a notice
abbrev pub mark_text : Mark → List ℕ
mark_text marks.Plain = []
mark_text marks.Gate = 45 ∷ 103 ∷ []
mark_text marks.Delay = 45 ∷ 100 ∷ []
mark_text marks.Failure = 45 ∷ 117 ∷ []

-- the place of a mark among marks
abbrev pub mark_number : Mark → ℕ
mark_number marks.Plain = 0
mark_number marks.Gate = 1
mark_number marks.Delay = 2
mark_number marks.Failure = 3

-- all four parts are the same
abbrev pub same_name : ItemName → ItemName → Bool
same_name a b =
    (a.submission == b.submission)
    && ((a.release == b.release) && ((a.place == b.place) && (mark_number a.mark == mark_number b.mark)))

-- the first comparison where it tells, and else the next
abbrev pub first_that_tells : Ordering → Ordering → Ordering
first_that_tells orders.Less next = orders.Less
first_that_tells orders.Equal next = next
first_that_tells orders.Greater next = orders.Greater

-- Names stand in the order of their submissions, then releases, places and marks.
abbrev pub name_order : ItemName → ItemName → Ordering
name_order a b =
    first_that_tells (nat_cmp a.submission b.submission)
    (first_that_tells (nat_cmp a.release b.release)
    (first_that_tells (nat_cmp a.place b.place) (nat_cmp (mark_number a.mark) (mark_number b.mark))))

-- Approvals' names stand in the order of their submissions, then releases and gates.
abbrev pub approval_order : ApprovalName → ApprovalName → Ordering
approval_order a b =
    first_that_tells (nat_cmp a.submission b.submission)
    (first_that_tells (nat_cmp a.release b.release) (nat_cmp a.gate b.gate))

-- three numbers with - between them
abbrev pub numbers_text : ℕ → ℕ → ℕ → List ℕ
numbers_text submission release place = decimal submission ++ (45 ∷ (decimal release ++ (45 ∷ decimal place)))

-- item-name = submission "-" release "-" place [ "-g" / "-d" / "-u" ]
abbrev pub name_text : ItemName → List ℕ
name_text name = numbers_text name.submission name.release name.place ++ mark_text name.mark

-- its numbers fit their types
pub record IsItemName (name : ItemName) : Type 0 where
  pub submission : name.submission < 2 ^ 64
  pub release : name.release < 2 ^ 32
  pub place : name.place < 2 ^ 32

-- approval-name = submission "-" release "-" gate
abbrev pub approval_text : ApprovalName → List ℕ
approval_text name = numbers_text name.submission name.release name.gate

-- its numbers fit their types
pub record IsApprovalName (name : ApprovalName) : Type 0 where
  pub submission : name.submission < 2 ^ 64
  pub release : name.release < 2 ^ 32
  pub gate : name.gate < 2 ^ 32

-- no leading zero: at least one digit, and 0 first only where it stands alone
abbrev pub is_short : List ℕ → Bool
is_short [] = false
is_short (d ∷ []) = true
is_short (d ∷ e ∷ ds) = not (d == 48)

abbrev pub begins_with_digit : List ℕ → Bool
begins_with_digit [] = false
begins_with_digit (b ∷ bs) = is_ascii_digit b

-- a number of at most 64 bits, and the rest behind its last digit
pub record BeginsWithNumber (bytes : List ℕ) (number : ℕ) (rest : List ℕ) : Type 0 where
  pub fits : number < 2 ^ 64
  pub is : bytes ≡ decimal number ++ rest
  pub ends : begins_with_digit rest ≡ false

-- a number of at most 32 bits behind a -
pub record BeginsWithDashAndNumber (bytes : List ℕ) (number : ℕ) (rest : List ℕ) : Type 0 where
  pub fits : number < 2 ^ 32
  pub is : bytes ≡ 45 ∷ (decimal number ++ rest)
  pub ends : begins_with_digit rest ≡ false

-- three numbers with - between them, and the rest behind the last digit
pub record BeginsWithNumbers (bytes : List ℕ) (submission release place : ℕ) (rest : List ℕ) : Type 0 where
  pub submission_fits : submission < 2 ^ 64
  pub release_fits : release < 2 ^ 32
  pub place_fits : place < 2 ^ 32
  pub is : bytes ≡ numbers_text submission release place ++ rest
  pub ends : begins_with_digit rest ≡ false
