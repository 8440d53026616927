use Rattle.std.proofs.Common.{◌≡◌, ℕ, List, ◌∙◌, sym, ap, map, length}
use Rattle.std.specs.Prelude.{[], ◌∷◌, ◌<◌, Option, Some, None, slice_get, refl}
use Rattle.std.proofs.Common.{arith}
use Rattle.org_directory.specs.Reading.{first_place, place_or_0}
use Rattle.org_directory.proofs.second_pass.forward_place.Goals as goal

no-key : (named ks : List (List ℕ)) → length ks ≡ 0 → None ≡ first_place (map (place_or_0 named) ks)
no-key named [] h = refl
no-key named (k ∷ ks) h = absurd (omega (arith, h))

first-key : (named ks : List (List ℕ)) (k : List ℕ) → slice_get ks 0 ≡ Some k → Some (place_or_0 named k) ≡ first_place (map (place_or_0 named) ks)
first-key named [] k h = absurd (cc h)
first-key named (x ∷ ks) k h = let same : x ≡ k = cc h in ap (λ y. Some (place_or_0 named y)) (sym same)

pub returns-then-len-eq0 : goal.returns-then-len-eq0
returns-then-len-eq0 c = no-key c.args.named.now c.args.forward.now (sym c.len.ensures ∙ c.if-len-eq0.true)

pub returns : goal.returns
returns c =
    ap Some c.place_or_0.ensures ∙ first-key c.args.named.now c.args.forward.now c.name.result.now c.name.ensures
