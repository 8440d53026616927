-- What a step of a parse makes of a word, where no subcommand is known and no flag of a bundle is passed over.
use Rattle.std.proofs.Common.{◌≡◌, ◌∙◌, ℕ, Bool, true, false, refl, sym, ap, ap₂, List, [], ◌∷◌, Option, None}
use Rattle.std.specs.Prelude.{fold, if◌then◌else◌}
use Rattle.std.specs.Str.{bytes_eq}
use Rattle.clap.specs.Lexer.{long_of}
use Rattle.clap.specs.Walk.{Held, Row, Step, Text, Waiting, Walk, after_step, arg_by_id, arg_by_index, finished, long_or_other, option_word, plain_word, nothing_held, to_positional, walk_from, walked, word_met}
use Rattle.clap.specs.Walk.{idle, option, positional, trailing, value}
use Rattle.clap.specs.Simple.{Shape}
use Rattle.clap.specs.Kinds.{Kinds, or_else}
use Rattle.clap.specs.Faults.{check_fault, level_fault, other_fault, settle_fault, step_fault, turn_fault, walk_fault}
use Rattle.clap.specs.declared.error.kind.ErrorKind.{ErrorKind}

-- nothing fails where neither of two does
pub or_else_none : (a b : Kinds) → or_else a b ≡ [] → (a ≡ []) × (b ≡ [])
or_else_none [] b h = (refl, h)
or_else_none (k ∷ ks) b h = cc

-- a fault is one
pub some_fault : (k : ErrorKind) (ks : Kinds) → k ∷ ks ≡ [] → ⊥
some_fault k ks h = cc

pub none_or_else : (a b : Kinds) → a ≡ [] → b ≡ [] → or_else a b ≡ []
none_or_else a b h k = ap₂ or_else h k

-- the walk's end
abbrev pub end_of : Shape → Walk → List Text → Held
end_of s w words = (fold (walked s.rules []) w words).held

-- from here on the words pass
pub record Passes (s : Shape) (w : Walk) (words : List Text) : Type 0 where
  pub walk : walk_fault s [] w words ≡ []
  pub settle : settle_fault s.rules s.args_override_self (end_of s w words) ≡ []
  pub check : check_fault s (finished s.rules (end_of s w words)) false ≡ []

-- a level passes where its walk does
pub level_passes : (s : Shape) (words : List Text) → level_fault s [] nothing_held words false [] ≡ [] → Passes s (walk_from nothing_held) words
level_passes s words h =
    let walk = or_else_none _ _ h in
    let after = or_else_none _ _ walk.1 in
    record { walk = walk.0; settle = after.0; check = (or_else_none _ _ after.1).1 }

-- one word passes, and then the others
pub one_more : (s : Shape) (w : Walk) (word : Text) (words : List Text) → Passes s w (word ∷ words)
    → (turn_fault s [] w word ≡ []) × Passes s (walked s.rules [] w word) words
unfolding walk_fault
one_more s w word words p =
    let parts = or_else_none _ _ p.walk in
    (parts.0, record { walk = parts.1; settle = p.settle; check = p.check })

-- a walk that goes on
abbrev pub at : List Row → Option (Text × List Text) → Waiting → ℕ → Bool → Walk
at rows pending waiting position is_trailing = record {
  held = record { rows = rows; pending = pending; skip = 0 };
  waiting = waiting;
  position = position;
  is_trailing = is_trailing;
  stopped = None;
}

-- ---- behind `--`

pub trailing_fault : (s : Shape) (rows : List Row) (pending : Option (Text × List Text)) (waiting : Waiting) (position : ℕ) (word : Text)
    → turn_fault s [] (at rows pending waiting position true) word ≡ step_fault s position (at rows pending waiting position true).held value
trailing_fault s rows pending waiting position word = refl

pub trailing_walked : (s : Shape) (rows : List Row) (pending : Option (Text × List Text)) (waiting : Waiting) (position : ℕ) (word : Text)
    → walked s.rules [] (at rows pending waiting position true) word
    ≡ to_positional s.rules (arg_by_index s.rules position) word (at rows pending waiting position true) (at rows pending waiting position true).held
unfolding walked
trailing_walked s rows pending waiting position word = refl

-- ---- `--`

abbrev pub dashes : Text
dashes = 45 ∷ 45 ∷ []

pub dashes_walked : (s : Shape) (rows : List Row) (pending : Option (Text × List Text)) (waiting : Waiting) (position : ℕ)
    → walked s.rules [] (at rows pending waiting position false) dashes ≡ at rows pending waiting position true
unfolding walked
dashes_walked s rows pending idle position = refl
dashes_walked s rows pending (option id) position = refl
dashes_walked s rows pending positional position = refl

-- ---- other words

abbrev pub held : List Row → Option (Text × List Text) → Held
held rows pending = record { rows = rows; pending = pending; skip = 0 }

-- the word is a value wherever it stands
pub record IsPlain (s : Shape) (word : Text) : Type 0 where
  pub no_dashes : bytes_eq word dashes ≡ false
  pub passes : (rows : List Row) (pending : Option (Text × List Text)) → other_fault s None word (held rows pending) ≡ []
  pub met : (rows : List Row) (pending : Option (Text × List Text)) (waiting : Waiting)
      → long_or_other s.rules waiting word (long_of word) (held rows pending) ≡ plain_word s.rules waiting word (held rows pending)

-- the word fails wherever it stands before `--`
pub record IsRefused (s : Shape) (word : Text) : Type 0 where
  pub fails : (rows : List Row) (pending : Option (Text × List Text)) → other_fault s None word (held rows pending) ≡ [] → ⊥

plain_met : (s : Shape) (word : Text) → IsPlain s word → (rows : List Row) (pending : Option (Text × List Text)) (waiting : Waiting) (position : ℕ)
    → word_met s.rules [] false waiting position word (held rows pending) ≡ plain_word s.rules waiting word (held rows pending)
plain_met s word p rows pending idle position =
    ap (λ b. if b then (held rows pending, trailing position) else long_or_other s.rules idle word (long_of word) (held rows pending)) p.no_dashes
    ∙ p.met rows pending idle
plain_met s word p rows pending (option id) position =
    ap (λ b. if b then (held rows pending, trailing position) else long_or_other s.rules (option id) word (long_of word) (held rows pending)) p.no_dashes
    ∙ p.met rows pending (option id)
plain_met s word p rows pending positional position =
    ap (λ b. if b then (held rows pending, trailing position) else long_or_other s.rules positional word (long_of word) (held rows pending)) p.no_dashes
    ∙ p.met rows pending positional

-- a word that comes to a positional
pub plain_fault : (s : Shape) (word : Text) → IsPlain s word → (rows : List Row) (pending : Option (Text × List Text)) (position : ℕ)
    → turn_fault s [] (at rows pending idle position false) word ≡ [] → step_fault s position (held rows pending) value ≡ []
plain_fault s word p rows pending position h =
    sym (ap (λ (m : Held × Step). step_fault s position m.0 m.1) (plain_met s word p rows pending idle position)) ∙ (or_else_none _ _ h).1

pub plain_walked : (s : Shape) (word : Text) → IsPlain s word → (rows : List Row) (pending : Option (Text × List Text)) (position : ℕ)
    → walked s.rules [] (at rows pending idle position false) word
    ≡ to_positional s.rules (arg_by_index s.rules position) word (at rows pending idle position false) (held rows pending)
unfolding walked
plain_walked s word p rows pending position =
    ap (λ (m : Held × Step). after_step s.rules word (at rows pending idle position false) m.0 m.1) (plain_met s word p rows pending idle position)

-- a word that comes to an option
pub value_walked : (s : Shape) (word : Text) → IsPlain s word → (rows : List Row) (pending : Option (Text × List Text)) (id : Text) (position : ℕ)
    → walked s.rules [] (at rows pending (option id) position false) word
    ≡ record (at rows pending (option id) position false) {
      held = (option_word (arg_by_id s.rules id) id word (held rows pending)).0;
      waiting = (option_word (arg_by_id s.rules id) id word (held rows pending)).1;
    }
unfolding walked
value_walked s word p rows pending id position =
    ap (λ (m : Held × Step). after_step s.rules word (at rows pending (option id) position false) m.0 m.1) (plain_met s word p rows pending (option id) position)

pub refused_fault : (s : Shape) (word : Text) → IsRefused s word → (rows : List Row) (pending : Option (Text × List Text)) (waiting : Waiting) (position : ℕ)
    → turn_fault s [] (at rows pending waiting position false) word ≡ [] → ⊥
refused_fault s word r rows pending idle position h = r.fails rows pending (or_else_none _ _ h).0
refused_fault s word r rows pending (option id) position h = r.fails rows pending (or_else_none _ _ h).0
refused_fault s word r rows pending positional position h = r.fails rows pending (or_else_none _ _ h).0
