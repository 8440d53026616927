-- Which command words that begin so can mean.
use Rattle.std.proofs.Common.{◌≡◌, ◌∙◌, ℕ, ap, ap₂, sym, subst, refl, true, false, List, [], ◌∷◌, drop, map, Option, Some, None, codes}
use Rattle.std.specs.Prelude.{slice_get}
use Rattle.std.specs.Str.{bytes_eq}
use Rattle.std.proofs.lemmas.Slice.Eq.{bytes_eq-Decides}
use Rattle.std.specs.Borrow.{Bor}
use Rattle.command_words.specs.Words.{Follows, IsMake, IsNumber, IsTurn, Means, Text, name_of}
use Rattle.command_words.proofs.Readings.{WorkersBy, make_gives, turn_gives}
use Rattle.command_words.specs.declared.command.Command.{Command}
use Rattle.command_words.specs.declared.command.Command.TheVariants as commands

abbrev texts : List (Bor Text) → List Text
texts words = map (λ word. word.now) words

differs : (a b : Text) → bytes_eq a b ≡ false → a ≡ b → ⊥
differs a b apart same = let equal : true ≡ false = sym ((bytes_eq-Decides a b).1 same) ∙ apart in cc

turn_named : (word : Text) (rest : List Text) (command : Command) → word ≡ codes "turn" → ((workers : ℕ) → IsTurn rest workers → ⊥) → Means (word ∷ rest) command → ⊥
turn_named word rest commands.Session is none m = differs (codes "turn") (codes "session") refl (sym is ∙ m.0)
turn_named word rest (commands.Turn workers) is none m = none workers m.1
turn_named word rest commands.Admin is none m = differs (codes "turn") (codes "admin") refl (sym is ∙ m.0)
turn_named word rest commands.Check is none m = differs (codes "turn") (codes "check") refl (sym is ∙ m.0)
turn_named word rest (commands.Make submissions workers) is none m = differs (codes "turn") (codes "make") refl (sym is ∙ m.0)

-- no command has these words where `turn` has none
pub no_turn : (words : List (Bor Text)) (first : Bor Text) (command : Command) → Some first ≡ slice_get words 0 → first.now ≡ codes "turn"
    → ((workers : ℕ) → IsTurn (drop 1 (texts words)) workers → ⊥) → Means (texts words) command → ⊥
no_turn [] first command at is none m = m
no_turn (word ∷ rest) first command at is none m =
    let same : first ≡ word = cc in turn_named word.now (texts rest) command (sym (ap (λ w. w.now) same) ∙ is) none m

make_named : (word : Text) (rest : List Text) (command : Command) → word ≡ codes "make" → ((submissions workers : ℕ) → IsMake rest submissions workers → ⊥)
    → Means (word ∷ rest) command → ⊥
make_named word rest commands.Session is none m = differs (codes "make") (codes "session") refl (sym is ∙ m.0)
make_named word rest (commands.Turn workers) is none m = differs (codes "make") (codes "turn") refl (sym is ∙ m.0)
make_named word rest commands.Admin is none m = differs (codes "make") (codes "admin") refl (sym is ∙ m.0)
make_named word rest commands.Check is none m = differs (codes "make") (codes "check") refl (sym is ∙ m.0)
make_named word rest (commands.Make submissions workers) is none m = none submissions workers m.1

-- nor where `make` has none
pub no_make : (words : List (Bor Text)) (first : Bor Text) (command : Command) → Some first ≡ slice_get words 0 → first.now ≡ codes "make"
    → ((submissions workers : ℕ) → IsMake (drop 1 (texts words)) submissions workers → ⊥) → Means (texts words) command → ⊥
no_make [] first command at is none m = m
no_make (word ∷ rest) first command at is none m =
    let same : first ≡ word = cc in make_named word.now (texts rest) command (sym (ap (λ w. w.now) same) ∙ is) none m

-- ---- no words mean two commands

same_number : (least most : ℕ) (text : Text) (n m : ℕ) → IsNumber least most text n → IsNumber least most text m → n ≡ m
same_number least most text n m a b = a.value ∙ sym b.value

same_workers : (given : Option Text) (n m : ℕ) → WorkersBy given n → WorkersBy given m → n ≡ m
same_workers None n m a b = a ∙ sym b
same_workers (Some text) n m a b = same_number 1 16 text n m a b

one_turn : (rest : List Text) (n m : ℕ) → IsTurn rest n → IsTurn rest m → n ≡ m
one_turn rest n m a b =
    let first = turn_gives [] rest n a in
    let second = turn_gives [] rest m b in
    let same : first.0 ≡ second.0 = sym first.2.workers ∙ second.2.workers in
    same_workers second.0 n m (subst (λ g. WorkersBy g n) same first.1) second.1

one_make : (rest : List Text) (s t n m : ℕ) → IsMake rest s n → IsMake rest t m → (s ≡ t) × (n ≡ m)
one_make rest s t n m a b =
    let first = make_gives [] rest s n a in
    let second = make_gives [] rest t m b in
    let same : first.0 ≡ second.0 = sym first.2.workers ∙ second.2.workers in
    let texts : Some a.text ≡ Some b.text = sym first.2.submissions ∙ second.2.submissions in
    let text : a.text ≡ b.text = cc in
    (same_number 1 10000 b.text s t (subst (λ x. IsNumber 1 10000 x s) text a.number) b.number, same_workers second.0 n m (subst (λ g. WorkersBy g n) same first.1) second.1)

same_named : (rest : List Text) (a b : Command) → Follows a rest → Follows b rest → name_of a ≡ name_of b → a ≡ b
same_named rest commands.Session commands.Session p q e = refl
same_named rest commands.Admin commands.Admin p q e = refl
same_named rest commands.Check commands.Check p q e = refl
same_named rest (commands.Turn n) (commands.Turn m) p q e = ap commands.Turn (one_turn rest n m p q)
same_named rest (commands.Make s n) (commands.Make t m) p q e = let both = one_make rest s t n m p q in ap₂ commands.Make both.0 both.1
same_named rest a b p q e = absurd (differs (name_of a) (name_of b) refl e)

pub one_command : (words : List Text) (a b : Command) → Means words a → Means words b → a ≡ b
one_command [] a b p q = absurd p
one_command (word ∷ rest) a b p q = same_named rest a b p.1 q.1 (sym p.0 ∙ q.0)
