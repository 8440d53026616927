-- Holds have moderators.
use Rattle.std.proofs.Common.{◌≡◌, ℕ, ◌<◌, ◌≤◌, Bool, true, false, List, ◌∷◌, length, refl, ◌∙◌, sym, inl, inr, arith}
use Rattle.std.specs.Prelude.{◌&&◌, nat_le}
use Rattle.std.proofs.lemmas.Bool.Decides.{leb_tells}
use Rattle.mail_plan.specs.Planning.{have_moderators}
use Rattle.mail_plan.specs.declared.release.Hold.{Hold}

true≢false : true ≡ false → ⊥
true≢false e = cc

both : (a b : Bool) → (a && b) ≡ true → (a ≡ true) × (b ≡ true)
both true b h = (refl, h)
both false b h = absurd cc

le_is : (a b : ℕ) → nat_le a b ≡ true → a ≤ b
le_is a b e =
    elim (leb_tells a b) [
      | inl h ↦ h.1
      | inr h ↦ absurd (true≢false (sym e ∙ h.0))
    ]

-- so many of the first, and those of the rest
pub have-first : (hold : Hold) (holds : List Hold) → have_moderators (hold ∷ holds) ≡ true →
    (0 < length hold.moderators) × (length hold.moderators ≤ 10) × (have_moderators holds ≡ true)
have-first hold holds e =
    let one = both _ _ e in
    let two = both _ _ one.1 in
    let some = le_is 1 (length hold.moderators) one.0 in
    (omega (arith, some), le_is (length hold.moderators) 10 two.0, two.1)
