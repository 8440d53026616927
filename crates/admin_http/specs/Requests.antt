-- What a text asks for, whatever pieces it comes in.
use Rattle.std.specs.Prelude.{◌≡◌, ℕ, ◌≤◌, ◌⊎◌, List, length, take, Some, None}
use Rattle.http_head.specs.declared.route.HeadFault.{HeadFault}
use Rattle.http_head.specs.declared.route.HeadFault.TheVariants as faults
use Rattle.http_head.specs.declared.route.RoutedHead.{RoutedHead}
use Rattle.http_head.specs.declared.deed.Deed.{Deed}
use Rattle.http_head.specs.Heads.{IsBadHead, IsRefusedHead, IsPassedHead}
use Rattle.http_head.specs.Deeds.{IsMeant}
use Rattle.http_answers.specs.declared.refusal.Refusal.{Refusal}
use Rattle.http_answers.specs.declared.refusal.Refusal.TheVariants as refusals

-- the refusal for what a head is refused for
abbrev pub refusal_of : HeadFault → Refusal
refusal_of faults.BadRequest = refusals.BadRequest
refusal_of faults.NotFound = refusals.NotFound
refusal_of faults.WrongMethod = refusals.WrongMethod
refusal_of faults.NoLength = refusals.NoLength
refusal_of faults.TooLarge = refusals.TooLarge

-- Its head passes all checks but the last: a part of the path is no key, name or verdict.
pub record IsMeaningless (text : List ℕ) : Type 0 where
  pub routed : RoutedHead
  pub target : List ℕ
  pub rest : List ℕ
  pub passed : IsPassedHead text routed target rest
  pub meant : IsMeant routed.route target None

-- A check refuses the text: the first, one of those from the second to the sixth, or the seventh.
abbrev pub Refuses : List ℕ → Refusal → Type 0
Refuses text refusal =
    ((refusal ≡ refusals.BadRequest) × IsBadHead text)
    ⊎ (((fault : HeadFault) × (refusal ≡ refusal_of fault) × IsRefusedHead text fault)
    ⊎ ((refusal ≡ refusals.NotFound) × IsMeaningless text))

-- The text begins with a whole request, which asks for this deed and has this body.
pub record Asks (text : List ℕ) (deed : Deed) (body : List ℕ) : Type 0 where
  pub routed : RoutedHead
  pub target : List ℕ
  pub rest : List ℕ
  pub passed : IsPassedHead text routed target rest
  pub meant : IsMeant routed.route target (Some deed)
  pub enough : routed.body_length ≤ length rest
  pub body_is : body ≡ take routed.body_length rest

-- No check refuses the text, and it has no whole request.
pub record IsUnfinished (text : List ℕ) : Type 0 where
  pub no_refusal : (refusal : Refusal) → Refuses text refusal → ⊥
  pub no_request : (deed : Deed) (body : List ℕ) → Asks text deed body → ⊥

-- The text has no whole request.
abbrev pub IsNotWhole : List ℕ → Type 0
IsNotWhole text = (deed : Deed) (body : List ℕ) → Asks text deed body → ⊥

-- The text begins with a head that passes all checks but the last, and its body has come.
pub record HasCome (text : List ℕ) : Type 0 where
  pub routed : RoutedHead
  pub target : List ℕ
  pub rest : List ℕ
  pub passed : IsPassedHead text routed target rest
  pub enough : routed.body_length ≤ length rest

-- the deed that a head and its path mean
abbrev pub Means : RoutedHead → List ℕ → Deed → Type 0
Means routed target deed = IsMeant routed.route target (Some deed)
