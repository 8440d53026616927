-- Whether the head of a request has come (RFC 9112 sections 2 and 3), and what refuses it.
use Rattle.std.specs.Prelude.{◌≡◌, ℕ, ◌+◌, ◌≤◌, ◌⊎◌, ◌==◌, ◌||◌, Bool, true, false, if◌then◌else◌, List, [], ◌∷◌, length, drop, slice_range, nat_lt, count_by, Ok, Err}
use Rattle.httparse.specs.Grammar.{RequestHead, ReadsRequest, NeverHasRequest, EndsInTarget, print_request}
use Rattle.http_head.specs.declared.limits.TheConstants.{MOST_FIELDS, MOST_HEAD_OCTETS}
use Rattle.http_head.specs.declared.head.Head.{Head}
use Rattle.http_head.specs.declared.head.Head.TheVariants as heads
use Rattle.http_head.specs.declared.route.HeadFault.{HeadFault}
use Rattle.http_head.specs.declared.route.HeadFault.TheVariants as faults
use Rattle.http_head.specs.declared.route.RoutedHead.{RoutedHead}
use Rattle.http_head.specs.Paths.{is_byte}
use Rattle.http_head.specs.Checks.{parts_of, head_checks}

-- A head has at most 64 fields and 16,384 octets, with the empty lines before it and the one that ends it.
pub record FitsLimits (head : RequestHead) : Type 0 where
  pub few : length head.fields ≤ MOST_FIELDS
  pub short : length (print_request head) ≤ MOST_HEAD_OCTETS

-- The text begins with this head, and rest stands behind it.
abbrev pub HasHead : List ℕ → RequestHead → List ℕ → Type 0
HasHead text head rest = ReadsRequest text head rest × FitsLimits head

-- No head within the limits has come whole.
abbrev pub HasNoHead : List ℕ → Type 0
HasNoHead text = (head : RequestHead) (rest : List ℕ) → HasHead text head rest → ⊥

-- a CR or LF
abbrev pub is_line_end : ℕ → Bool
is_line_end b = b == 10 || b == 13

-- the text without the CRs and LFs in front
abbrev pub behind_line_ends : List ℕ → List ℕ
behind_line_ends [] = []
behind_line_ends (b ∷ bs) = if is_line_end b then behind_line_ends bs else b ∷ bs

abbrev pub line_feeds : List ℕ → ℕ
line_feeds text = count_by (is_byte 10) text

-- A request line and 65 lines behind it have come, or more than 16,384 octets.
abbrev pub is_over_limits : List ℕ → Bool
is_over_limits text = nat_lt (MOST_FIELDS + 1) (line_feeds (behind_line_ends text)) || nat_lt MOST_HEAD_OCTETS (length text)

-- No octets that follow make the text a head, and it doesn't end inside a target, which is judged at its end.
abbrev pub IsHopeless : List ℕ → Type 0
IsHopeless text = NeverHasRequest text × (EndsInTarget text → ⊥)

-- The text is refused as it stands: no head within the limits has come, and none can come or a limit is passed.
pub record IsBadHead (text : List ℕ) : Type 0 where
  pub none : HasNoHead text
  pub why : IsHopeless text ⊎ (is_over_limits text ≡ true)

-- No head within the limits has come yet, and the text isn't refused.
pub record IsOpenHead (text : List ℕ) : Type 0 where
  pub none : HasNoHead text
  pub hope : IsHopeless text → ⊥
  pub within : is_over_limits text ≡ false

-- A whole head that a later check refuses.
pub record IsRefusedHead (text : List ℕ) (fault : HeadFault) : Type 0 where
  pub head : RequestHead
  pub rest : List ℕ
  pub whole : HasHead text head rest
  pub checks_are : head_checks (parts_of head) ≡ Err fault

-- A whole head that no check refuses, with its target, and the rest behind it.
pub record IsPassedHead (text : List ℕ) (routed : RoutedHead) (target rest : List ℕ) : Type 0 where
  pub head : RequestHead
  pub whole : HasHead text head rest
  pub checks_are : head_checks (parts_of head) ≡ Ok routed
  pub target_is : target ≡ head.target

-- The places of the target and of the body are in the text.
pub record PlacesFit (target_start target_end body_start size : ℕ) : Type 0 where
  pub order : target_start ≤ target_end
  pub target : target_end ≤ size
  pub body : body_start ≤ size

-- What reading the head of a text gives.
abbrev pub ReadsHead : List ℕ → Head → Type 0
ReadsHead text heads.Open = IsOpenHead text
ReadsHead text (heads.Refused fault) = ((fault ≡ faults.BadRequest) × IsBadHead text) ⊎ IsRefusedHead text fault
ReadsHead text (heads.Whole routed target_start target_end body_start) =
    IsPassedHead text routed (slice_range text target_start target_end) (drop body_start text)
    × PlacesFit target_start target_end body_start (length text)

-- Two answers on a text say the same: places of the target may differ where the same octets stand there.
abbrev pub SameAnswer : List ℕ → Head → Head → Type 0
SameAnswer text heads.Open heads.Open = Unit {0}
SameAnswer text heads.Open (heads.Refused fault) = ⊥
SameAnswer text heads.Open (heads.Whole routed target_start target_end body_start) = ⊥
SameAnswer text (heads.Refused fault) heads.Open = ⊥
SameAnswer text (heads.Refused fault) (heads.Refused other) = fault ≡ other
SameAnswer text (heads.Refused fault) (heads.Whole routed target_start target_end body_start) = ⊥
SameAnswer text (heads.Whole routed target_start target_end body_start) heads.Open = ⊥
SameAnswer text (heads.Whole routed target_start target_end body_start) (heads.Refused fault) = ⊥
SameAnswer text (heads.Whole routed target_start target_end body_start) (heads.Whole routed' target_start' target_end' body_start') =
    (routed ≡ routed') × (slice_range text target_start target_end ≡ slice_range text target_start' target_end') × (body_start ≡ body_start')
