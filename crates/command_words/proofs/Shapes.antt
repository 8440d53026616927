-- The commands as `clap` builds them.
use Rattle.std.proofs.Common.{◌≡◌, ◌⊎◌, ◌==◌, ℕ, Bool, true, false, refl, sym, inl, inr, List, [], Option, Some, None, codes}
use Rattle.std.specs.Str.{bytes_eq}
use Rattle.std.proofs.lemmas.Slice.Eq.{bytes_eq-Decides}
use Rattle.clap.specs.Walk.{Held, Row, Rule, Text, arg_by_long, arg_by_short}
use Rattle.clap.specs.Simple.{Shape, built, filled, help_rule}
use Rattle.clap.specs.Kinds.{Kinds}
use Rattle.clap.specs.Faults.{is_simple_and_free, long_fault, short_fault}
use Rattle.command_words.specs.Parsers.{bare_app, make_app, turn_app}
use Rattle.command_words.proofs.Steps.{held, or_else_none, some_fault}
use Rattle.command_words.proofs.Classes.{HasFlags}

pub bare_simple : (name : Text) → is_simple_and_free (bare_app name) ≡ true
bare_simple name = refl

pub turn_simple : is_simple_and_free turn_app ≡ true
turn_simple = refl

pub make_simple : is_simple_and_free make_app ≡ true
make_simple = refl

abbrev pub bare : Text → Shape
bare name = (built (bare_app name)).top

abbrev pub turn : Shape
turn = (built turn_app).top

abbrev pub make : Shape
make = (built make_app).top

abbrev helper : Rule
helper = filled help_rule

-- a request for help never passes
help_fails : (rules : List Rule) (text : Option Text) (rows : List Row) (pending : Option (Text × List Text))
    → long_fault rules false (Some helper) text (held rows pending) ≡ [] → ⊥
help_fails rules None rows pending h = some_fault _ _ (or_else_none _ _ h).1
help_fails rules (Some text) rows pending h = some_fault _ _ h

short_help_fails : (rules : List Rule) (rest : Text) (rows : List Row) (pending : Option (Text × List Text)) (more : Held → Kinds)
    → short_fault rules false (Some helper) rest (held rows pending) more ≡ [] → ⊥
short_help_fails rules rest rows pending more h = some_fault _ _ (or_else_none _ _ (or_else_none _ _ h).0).1

bare_help : (name : Text) (word : Text) (text : Option Text) (rows : List Row) (pending : Option (Text × List Text)) (is : Bool) → bytes_eq (codes "help") word ≡ is
    → long_fault (bare name).rules false (arg_by_long (bare name).rules word) text (held rows pending) ≡ [] → ⊥
bare_help name word text rows pending true e h = help_fails (bare name).rules text rows pending (rw e at h)
bare_help name word text rows pending false e h = some_fault _ _ (rw e at h)

bare_short : (name : Text) (x : ℕ) (rest : Text) (rows : List Row) (pending : Option (Text × List Text)) (more : Held → Kinds) (is : Bool) → (104 == x) ≡ is
    → short_fault (bare name).rules false (arg_by_short (bare name).rules x) rest (held rows pending) more ≡ [] → ⊥
bare_short name x rest rows pending more true e h = short_help_fails (bare name).rules rest rows pending more (rw e at h)
bare_short name x rest rows pending more false e h = some_fault _ _ (rw e at h)

pub bare_flags : (name : Text) → HasFlags (bare name)
bare_flags name = record {
  long = λ word text. inr (λ rows pending h. bare_help name word text rows pending (bytes_eq (codes "help") word) refl h);
  short = λ x rest rows pending more h. bare_short name x rest rows pending more (104 == x) refl h;
}

turn_help : (word : Text) (text : Option Text) (rows : List Row) (pending : Option (Text × List Text)) (is : Bool) → bytes_eq (codes "help") word ≡ is
    → bytes_eq (codes "workers") word ≡ false
    → long_fault turn.rules false (arg_by_long turn.rules word) text (held rows pending) ≡ [] → ⊥
turn_help word text rows pending true e w h = help_fails turn.rules text rows pending (rw (w, e) at h)
turn_help word text rows pending false e w h = some_fault _ _ (rw (w, e) at h)

turn_long : (word : Text) (text : Option Text) (is : Bool) → bytes_eq (codes "workers") word ≡ is → (word ≡ codes "workers")
    ⊎ ((rows : List Row) (pending : Option (Text × List Text)) → long_fault turn.rules false (arg_by_long turn.rules word) text (held rows pending) ≡ [] → ⊥)
turn_long word text true e = inl (sym ((bytes_eq-Decides (codes "workers") word).0 e))
turn_long word text false e = inr (λ rows pending h. turn_help word text rows pending (bytes_eq (codes "help") word) refl e h)

turn_short : (x : ℕ) (rest : Text) (rows : List Row) (pending : Option (Text × List Text)) (more : Held → Kinds) (is : Bool) → (104 == x) ≡ is
    → short_fault turn.rules false (arg_by_short turn.rules x) rest (held rows pending) more ≡ [] → ⊥
turn_short x rest rows pending more true e h = short_help_fails turn.rules rest rows pending more (rw e at h)
turn_short x rest rows pending more false e h = some_fault _ _ (rw e at h)

pub turn_flags : HasFlags turn
turn_flags = record {
  long = λ word text. turn_long word text (bytes_eq (codes "workers") word) refl;
  short = λ x rest rows pending more h. turn_short x rest rows pending more (104 == x) refl h;
}

make_help : (word : Text) (text : Option Text) (rows : List Row) (pending : Option (Text × List Text)) (is : Bool) → bytes_eq (codes "help") word ≡ is
    → bytes_eq (codes "workers") word ≡ false
    → long_fault make.rules false (arg_by_long make.rules word) text (held rows pending) ≡ [] → ⊥
make_help word text rows pending true e w h = help_fails make.rules text rows pending (rw (w, e) at h)
make_help word text rows pending false e w h = some_fault _ _ (rw (w, e) at h)

make_long : (word : Text) (text : Option Text) (is : Bool) → bytes_eq (codes "workers") word ≡ is → (word ≡ codes "workers")
    ⊎ ((rows : List Row) (pending : Option (Text × List Text)) → long_fault make.rules false (arg_by_long make.rules word) text (held rows pending) ≡ [] → ⊥)
make_long word text true e = inl (sym ((bytes_eq-Decides (codes "workers") word).0 e))
make_long word text false e = inr (λ rows pending h. make_help word text rows pending (bytes_eq (codes "help") word) refl e h)

make_short : (x : ℕ) (rest : Text) (rows : List Row) (pending : Option (Text × List Text)) (more : Held → Kinds) (is : Bool) → (104 == x) ≡ is
    → short_fault make.rules false (arg_by_short make.rules x) rest (held rows pending) more ≡ [] → ⊥
make_short x rest rows pending more true e h = short_help_fails make.rules rest rows pending more (rw e at h)
make_short x rest rows pending more false e h = some_fault _ _ (rw e at h)

pub make_flags : HasFlags make
make_flags = record {
  long = λ word text. make_long word text (bytes_eq (codes "workers") word) refl;
  short = λ x rest rows pending more h. make_short x rest rows pending more (104 == x) refl h;
}
