-- A digest is noted in the index.
use Rattle.std.proofs.Common.{◌≡◌, ℕ, Bool, true, false, cond, List, Option, Some, None, refl, ap, ◌∙◌, sym}
use Rattle.std.specs.Prelude.{bytes_eq, is_some}
use Rattle.std.specs.Ordering.{nat_cmp, is_eq}
use Rattle.std.specs.Cmp.Lexicographic.{slice_cmp}
use Rattle.std.proofs.lemmas.Map.Text.{is_eq-slice_cmp}
use Rattle.std.proofs.lemmas.Slice.Eq.{bytes_eq-Decides}
use Rattle.rule_engine.specs.Index.{found_or}

true≢false : true ≡ false → ⊥
true≢false e = cc

kept : (o : Option ℕ) (place : ℕ) → found_or o false place ≡ o
kept (Some p) place = refl
kept None place = refl

noted_by : (find : List ℕ → Option ℕ) (digest other : List ℕ) (place : ℕ) (new : Option ℕ) (t : Bool) → bytes_eq digest other ≡ t → find digest ≡ None → new ≡ cond t (Some place) (find other) → new ≡ found_or (find other) t place
noted_by find digest other place new true e none h =
    let same = (bytes_eq-Decides digest other).0 e in
    h ∙ sym (ap (λ o. found_or o true place) (ap find (sym same) ∙ none))
noted_by find digest other place new false e none h = h ∙ sym (kept (find other) place)

pub noted : (find : List ℕ → Option ℕ) (digest other : List ℕ) (place : ℕ) (new : Option ℕ) → find digest ≡ None → new ≡ cond (is_eq (slice_cmp nat_cmp digest other)) (Some place) (find other) → new ≡ found_or (find other) (bytes_eq digest other) place
noted find digest other place new none h =
    noted_by find digest other place new (bytes_eq digest other) refl none (h ∙ ap (λ t. cond t (Some place) (find other)) (is_eq-slice_cmp digest other))

pub none_from : (o : Option ℕ) (has : Bool) → has ≡ is_some o → has ≡ false → o ≡ None
none_from None has same e = refl
none_from (Some place) has same e = absurd (true≢false (sym same ∙ e))
