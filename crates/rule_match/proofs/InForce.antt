-- A rule in force, by its conditions and exceptions.
use Rattle.std.proofs.Common.{◌≡◌, ℕ, Bool, true, false, List, refl, sym, ap, ◌∙◌}
use Rattle.std.specs.Prelude.{◌&&◌, not}
use Rattle.std.specs.List.{list_all, list_any}
use Rattle.mail_message.specs.Message.{Mail}
use Rattle.rule_terms.specs.declared.rule.Rule.{Rule}
use Rattle.rule_terms.specs.declared.term.Term.{Term}
use Rattle.rule_match.specs.Applies.{Setting, applies, has_begun, has_ended, holds}

judged : (enabled begun ended all any : Bool) → enabled ≡ true → begun ≡ true → ended ≡ false
    → (all && not any) ≡ (enabled && (begun && (not ended && (all && not any))))
judged false begun ended all any e b n = absurd cc
judged true false ended all any e b n = absurd cc
judged true true true all any e b n = absurd cc
judged true true false all any e b n = refl

module _ (s : Setting) (recipient : List ℕ) (m : Mail) (r : Rule) (enabled : r.enabled ≡ true) (begun : has_begun r.from s.moment ≡ true) (ended : has_ended r.until s.moment ≡ false) where
  pub fails : (when : List Term) (all : Bool) → all ≡ list_all (holds s recipient m) when → when ≡ r.when → all ≡ false → false ≡ applies s recipient m r
  fails when all is same h =
      let none = sym (is ∙ ap (list_all (holds s recipient m)) same) ∙ h in
      ap (λ (b : Bool). b && not (list_any (holds s recipient m) r.unless)) (sym none)
      ∙ judged r.enabled (has_begun r.from s.moment) (has_ended r.until s.moment) (list_all (holds s recipient m) r.when) (list_any (holds s recipient m) r.unless) enabled begun ended

  pub succeeds : (when unless : List Term) (all any : Bool) → all ≡ list_all (holds s recipient m) when → when ≡ r.when → all ≡ true
      → any ≡ list_any (holds s recipient m) unless → unless ≡ r.unless → not any ≡ applies s recipient m r
  succeeds when unless all any is same h kept also =
      let each = sym (is ∙ ap (list_all (holds s recipient m)) same) ∙ h in
      ap not (kept ∙ ap (list_any (holds s recipient m)) also)
      ∙ ap (λ (b : Bool). b && not (list_any (holds s recipient m) r.unless)) (sym each)
      ∙ judged r.enabled (has_begun r.from s.moment) (has_ended r.until s.moment) (list_all (holds s recipient m) r.when) (list_any (holds s recipient m) r.unless) enabled begun ended
