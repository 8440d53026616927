-- Keys as values.
use Rattle.std.specs.Prelude.{◌≡◌, ℕ, true, List}
use Rattle.std.proofs.Common.{rules}
use Rattle.std.specs.Str.{bytes_eq}
use Rattle.std.proofs.lemmas.Slice.Eq.{bytes_eq-Decides}

pub same_key : (a b : List ℕ) → bytes_eq a b ≡ true → a ≡ b
same_key a b h = search (rules, bytes_eq-Decides)

pub key_is_itself : (a : List ℕ) → bytes_eq a a ≡ true
key_is_itself a = search (rules, bytes_eq-Decides)
