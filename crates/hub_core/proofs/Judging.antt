-- The submission of a number, and what is answered to an outcome for it.
use Rattle.std.proofs.Common.{◌≡◌, ℕ, ◌-◌, ◌≤◌, true, cond, List, Option, Some, None, ap, ◌∙◌, sym, arith}
use Rattle.std.specs.Prelude.{nat_le, slice_get}
use Rattle.std.proofs.lemmas.Bool.Decides.{nat_tests}
use Rattle.mail_plan.specs.Planning.{Input}
use Rattle.hub_core.specs.Setup.{Texts}
use Rattle.hub_core.specs.Mail.{LiveMail}
use Rattle.hub_core.specs.Standing.{Standing, mail_of, is_moment}
use Rattle.hub_core.specs.Replies.{reply_stage, reply_mail, reply_commit}

one_or_more : (n : ℕ) → (n ≡ 0 → ⊥) → nat_le 1 n ≡ true
one_or_more n some = grind (arith, nat_tests)

pub mail-at : (s : Standing) (number : ℕ) → (number ≡ 0 → ⊥) → mail_of s number ≡ slice_get s.live (number - 1)
mail-at s number some = ap (λ t. cond t (slice_get s.live (number - 1)) None) (one_or_more number some)

pub commit-judged : (s : Standing) (input : Input) (org : Texts) (mail : LiveMail) (number : ℕ) (lives : List LiveMail) → (number ≡ 0 → ⊥) → number ≡ input.number →
    lives ≡ s.live → slice_get lives (number - 1) ≡ Some mail → reply_stage number mail input org (slice_get mail.stages input.release) ≡ reply_commit s input org
commit-judged s input org mail number lives some own all is =
    sym (ap (λ (n : ℕ). reply_mail n (mail_of s n) input org) (sym own)
    ∙ ap (λ (at : Option LiveMail). reply_mail number at input org) (mail-at s number some ∙ ap (λ (xs : List LiveMail). slice_get xs (number - 1)) (sym all) ∙ is))

-- A moment that can stand behind others is one.
pub moment-last : (s : Standing) (moment : ℕ) → is_moment s moment ≡ true → moment ≤ 253402300799
moment-last s moment is = grind (arith, nat_tests)
