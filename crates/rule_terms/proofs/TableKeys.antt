-- The keys of a table, the items of an array, and the forms of texts, as the code meets them.
use Rattle.std.proofs.Common.{◌≡◌, ℕ, ◌+◌, ◌&&◌, Bool, true, false, List, [], ◌∷◌, length, String, Global, string_bytes, refl, ap, ◌∙◌, sym, add-one}
use Rattle.std.specs.List.{list_all}
use Rattle.std.specs.Map.{keys_of as keys_in}
use Rattle.toml.specs.View.{items_view, members_view}
use Rattle.toml.specs.declared.value.Value.{Value}
use Rattle.toml.proofs.Views.{Entry}
use Rattle.mail_message.specs.Lines.{is_name_byte}
use Rattle.org_directory.specs.Register.{among}
use Rattle.rule_terms.specs.Forms.{is_field, is_within}
use Rattle.rule_terms.specs.Lists.{count}
use Rattle.rule_terms.specs.Parts.{has_only}

pub has_only-keys : (names : List (List ℕ)) (es : List Entry) → list_all (λ (k : String Global). among (string_bytes k) names) (keys_in es) ≡ has_only names (members_view es)
has_only-keys names [] = refl
has_only-keys names (e ∷ es) = ap (λ b. among (string_bytes e.0) names && b) (has_only-keys names es)

pub count-items_view : (vs : List Value) → count (items_view vs) ≡ length vs
count-items_view [] = refl
count-items_view (v ∷ vs) = ap (λ n. n + 1) (count-items_view vs) ∙ add-one (length vs)

pub is_field-bytes : (text : List ℕ) → (is_within 1 64 (length text) && list_all is_name_byte text) ≡ is_field text
is_field-bytes [] = refl
is_field-bytes (b ∷ bs) = refl

pub and-true : (a b : Bool) → b ≡ true → a ≡ (a && b)
and-true true b e = sym e
and-true false b e = refl
