-- What becomes of a decision, and of the approval.
use Rattle.std.proofs.Common.{◌≡◌, ℕ, List, refl, ap, ◌∙◌, Option, Some, None}
use Rattle.moderation.specs.declared.approval.Verdict.{Verdict}
use Rattle.moderation.specs.declared.approval.ApprovalState.{ApprovalState}
use Rattle.moderation.specs.declared.approval.ApprovalState.TheVariants as states
use Rattle.moderation.specs.declared.approval.Decision.{Decision}
use Rattle.moderation.specs.declared.approval.Decision.TheVariants as decisions
use Rattle.moderation.specs.Approval.{Asked, answer, state_with, decide_answer, decided, place_of}

-- a moderator is answered by its place
pub answered : (a : Asked) (by : List ℕ) (moment place : ℕ) (reply : Decision) → Some place ≡ place_of a by →
    ((n : ℕ) → reply ≡ answer (Some n) a.state a.deadline moment) → reply ≡ decide_answer a by moment
answered a by moment place reply found is = is place ∙ ap (λ (p : Option ℕ). answer p a.state a.deadline moment) found

-- a decision that is taken stands
pub taken : (a : Asked) (by : List ℕ) (verdict : Verdict) (moment place : ℕ) → Some place ≡ place_of a by →
    decisions.Taken ≡ decide_answer a by moment → record a { state = states.Decided place verdict } ≡ decided a by verdict moment
taken a by verdict moment place found is =
    ap (λ (s : ApprovalState). record a { state = s })
    (ap (λ (p : Option ℕ). state_with p verdict decisions.Taken a.state) found
    ∙ ap (λ (reply : Decision). state_with (place_of a by) verdict reply a.state) is)

same_state : (place : Option ℕ) (verdict : Verdict) (reply : Decision) (state : ApprovalState) → (reply ≡ decisions.Taken → ⊥) → state ≡ state_with place verdict reply state
same_state None verdict reply state other = refl
same_state (Some n) verdict decisions.NotModerator state other = refl
same_state (Some n) verdict (decisions.Already by v) state other = refl
same_state (Some n) verdict (decisions.Expired deadline) state other = refl
same_state (Some n) verdict decisions.Taken state other = absurd (other refl)

-- every other answer leaves the approval as it is
pub left : (a : Asked) (by : List ℕ) (verdict : Verdict) (moment : ℕ) → (decide_answer a by moment ≡ decisions.Taken → ⊥) → a ≡ decided a by verdict moment
left a by verdict moment other = ap (λ (s : ApprovalState). record a { state = s }) (same_state (place_of a by) verdict (decide_answer a by moment) a.state other)
