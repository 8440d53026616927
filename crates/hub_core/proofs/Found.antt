-- Something is found exactly where something passes.
use Rattle.std.proofs.Common.{◌≡◌, Bool, true, false, cond, List, [], ◌∷◌, Option, Some, None, refl, ap, ◌∙◌}
use Rattle.std.proofs.Common.{Bor}
use Rattle.std.specs.Prelude.{find, is_some, option_copied, ◌||◌}
use Rattle.std.specs.List.{list_any}

either : {X : Type 0} (b : Bool) (x : X) (r : Option X) → is_some (cond b (Some x) r) ≡ (b || is_some r)
either true x r = refl
either false x r = refl

pub is_some-find : {X : Type 0} (p : X → Bool) (xs : List X) → is_some (find p xs) ≡ list_any p xs
is_some-find p [] = refl
is_some-find p (x ∷ xs) = either (p x) x (find p xs) ∙ ap (λ t. p x || t) (is_some-find p xs)

pub is_some-copied : {X : Type 0} (r : Option (Bor X)) → is_some (option_copied r) ≡ is_some r
is_some-copied None = refl
is_some-copied (Some x) = refl
