-- The names of the pickup folder's files.
use Rattle.std.specs.Prelude.{◌≡◌, ℕ, ◌-◌, ◌==◌, ◌&&◌, not, nat_lt, Bool, true, if◌then◌else◌, List, ◌∷◌, ◌++◌, length, take, drop, filter, codes, bytes_eq, decimal, is_some, Option, Some, None, option_and_then}
use Rattle.std.specs.List.{list_all, suffix_len}
use Rattle.std.specs.Char.{is_ascii_digit}
use Rattle.mail_names.specs.Names.{is_short}

-- what stands before this ending
abbrev pub before_ending : List ℕ → List ℕ → Option (List ℕ)
before_ending ending name =
    if bytes_eq (drop (length name - length ending) name) ending then Some (take (length name - length ending) name)
    else None

-- a decimal number without leading zeros, of any size
abbrev pub is_number : List ℕ → Bool
is_number digits = is_short digits && list_all is_ascii_digit digits

-- where the bytes behind the last dot begin, or 0 where there is no dot
abbrev pub number_place : List ℕ → ℕ
number_place front = length front - suffix_len (λ b. not (b == 46)) front

-- what stands before the last dot, where a number follows it
abbrev pub before_number : List ℕ → Option (List ℕ)
before_number front =
    if nat_lt 0 (number_place front) && is_number (drop (number_place front) front)
    then Some (take (number_place front - 1) front) else None

-- the stem of the name of a file that was begun: its submission may have been made
abbrev pub begun_stem : List ℕ → Option (List ℕ)
begun_stem name = option_and_then before_number (before_ending (codes ".tmp") name)

-- the stem of the name of a new file
abbrev pub new_stem : List ℕ → Option (List ℕ)
new_stem name = before_ending (codes ".eml") name

abbrev pub is_begun : List ℕ → Bool
is_begun name = is_some (begun_stem name)

abbrev pub is_new : List ℕ → Bool
is_new name = is_some (new_stem name)

-- The files that are worked on, in order: those that were begun, then the new ones. Others are left alone.
abbrev pub order_of : List (List ℕ) → List (List ℕ)
order_of names = filter is_begun names ++ filter is_new names

-- the name under which a new file is begun
abbrev pub begun_name : List ℕ → ℕ → List ℕ
begun_name stem number = stem ++ (46 ∷ (decimal number ++ codes ".tmp"))

-- the name of a file that stands for no submission
abbrev pub bad_name : List ℕ → List ℕ
bad_name stem = stem ++ codes ".bad"

-- begun-name = stem "." number ".tmp"
pub record IsBegunName (name stem : List ℕ) : Type 0 where
  pub digits : List ℕ
  pub number : is_number digits ≡ true
  pub is : name ≡ stem ++ (46 ∷ (digits ++ codes ".tmp"))

-- new-name = stem ".eml"
abbrev pub IsNewName : List ℕ → List ℕ → Type 0
IsNewName name stem = name ≡ stem ++ codes ".eml"
