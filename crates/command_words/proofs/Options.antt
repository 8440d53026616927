-- A command that takes `--workers`: what passes behind a place where the option was given.
use Rattle.std.proofs.Common.{◌≡◌, ◌∙◌, ℕ, Bool, true, false, refl, sym, ap, ap₂, subst, inl, inr, List, [], ◌∷◌, ◌++◌, Option, Some, None, codes, length}
use Rattle.std.specs.Prelude.{◌&&◌, if◌then◌else◌, nat_lt}
use Rattle.std.specs.Option.{option_map_or}
use Rattle.clap.specs.Walk.{Held, Row, Rule, Text, Waiting, Walk, after_flag, after_step, arg_by_id, arg_by_index, arg_by_long, has_row, long_met, option_word, settled_rows, to_positional, used, walked}
use Rattle.clap.specs.Walk.{idle, option, positional, value}
use Rattle.clap.specs.Simple.{Shape, filled}
use Rattle.clap.specs.Kinds.{or_else}
use Rattle.clap.specs.Faults.{long_fault, repeat_fault, settle_fault, step_fault, turn_fault, use_fault, values_fault}
use Rattle.clap.specs.ValueTests.{accepts}
use Rattle.clap.specs.declared.builder.value_parser.ValueParser.TheVariants as parsers
use Rattle.clap.specs.declared.error.kind.ErrorKind.TheVariants as kind
use Rattle.command_words.specs.Parsers.{workers_rule}
use Rattle.clap.specs.declared.error.kind.ErrorKind.{ErrorKind}
use Rattle.command_words.specs.Words.{IsEnd, IsNumber}
use Rattle.command_words.proofs.Numbers.{number_accepted, number_in}
use Rattle.command_words.proofs.Steps.{IsPlain, IsRefused, Passes, at, dashes, dashes_walked, held, one_more, or_else_none, plain_fault, plain_walked, refused_fault, some_fault, trailing_fault, trailing_walked, value_walked}
use Rattle.command_words.proofs.Classes.{Class, HasFlags, class_of, is_end, is_value, is_refused, is_workers}

abbrev pub option_rule : Rule
option_rule = filled workers_rule

abbrev pub option_id : Text
option_id = codes "workers"

-- the command takes `--workers` once
pub record TakesWorkers (s : Shape) : Type 0 where
  pub flags : HasFlags s
  pub long : arg_by_long s.rules option_id ≡ Some option_rule
  pub by_id : arg_by_id s.rules option_id ≡ Some option_rule
  pub once : s.args_override_self ≡ false
  -- a word that comes to a positional settles the option
  pub position : (position : ℕ) (rows : List Row) (values : List Text)
      → step_fault s position (held rows (Some (option_id, values))) value ≡ []
      → settle_fault s.rules s.args_override_self (held rows (Some (option_id, values))) ≡ []

-- ---- one word, and where the walk goes on

pub end_goes : (s : Shape) (word : Text) (words : List Text) (rows : List Row) (pending : Option (Text × List Text)) (waiting : Waiting) (position : ℕ)
    → word ≡ dashes → Passes s (at rows pending waiting position false) (word ∷ words) → Passes s (at rows pending waiting position true) words
end_goes s word words rows pending waiting position same p =
    let here = subst (λ t. Passes s (at rows pending waiting position false) (t ∷ words)) same p in
    subst (λ w. Passes s w words) (dashes_walked s rows pending waiting position) (one_more s (at rows pending waiting position false) dashes words here).1

pub refused_never : (s : Shape) (word : Text) (words : List Text) (rows : List Row) (pending : Option (Text × List Text)) (waiting : Waiting) (position : ℕ)
    → IsRefused s word → Passes s (at rows pending waiting position false) (word ∷ words) → ⊥
refused_never s word words rows pending waiting position r p =
    refused_fault s word r rows pending waiting position (one_more s (at rows pending waiting position false) word words p).0

pub trailing_goes : (s : Shape) (word : Text) (words : List Text) (rows : List Row) (pending : Option (Text × List Text)) (waiting : Waiting) (position : ℕ)
    → Passes s (at rows pending waiting position true) (word ∷ words)
    → (step_fault s position (held rows pending) value ≡ [])
    × Passes s (to_positional s.rules (arg_by_index s.rules position) word (at rows pending waiting position true) (held rows pending)) words
trailing_goes s word words rows pending waiting position p =
    let both = one_more s (at rows pending waiting position true) word words p in (
      sym (trailing_fault s rows pending waiting position word) ∙ both.0,
      subst (λ w. Passes s w words) (trailing_walked s rows pending waiting position word) both.1,
    )

pub plain_goes : (s : Shape) (word : Text) (words : List Text) (rows : List Row) (pending : Option (Text × List Text)) (position : ℕ)
    → IsPlain s word → Passes s (at rows pending idle position false) (word ∷ words)
    → (step_fault s position (held rows pending) value ≡ [])
    × Passes s (to_positional s.rules (arg_by_index s.rules position) word (at rows pending idle position false) (held rows pending)) words
plain_goes s word words rows pending position plain p =
    let both = one_more s (at rows pending idle position false) word words p in
    (plain_fault s word plain rows pending position both.0, subst (λ w. Passes s w words) (plain_walked s word plain rows pending position) both.1)

-- where the option waits for its value
abbrev pub waiting_if : Bool → Waiting
waiting_if waits = if waits then option option_id else idle

abbrev pub still_waits : List Text → Bool
still_waits values = nat_lt (length values) 1

value_met : (s : Shape) (k : TakesWorkers s) (word : Text) (rows : List Row) (values : List Text)
    → ((option_word (arg_by_id s.rules option_id) option_id word (held rows (Some (option_id, values)))).0 ≡ held rows (Some (option_id, values ++ word ∷ [])))
    × ((option_word (arg_by_id s.rules option_id) option_id word (held rows (Some (option_id, values)))).1 ≡ waiting_if (still_waits (values ++ word ∷ [])))
value_met s k word rows values =
    let by : Option Rule → Held × Waiting = λ a. option_word a option_id word (held rows (Some (option_id, values))) in
    (ap (λ a. (by a).0) k.by_id, ap (λ a. (by a).1) k.by_id)

pub value_goes : (s : Shape) (k : TakesWorkers s) (word : Text) (words : List Text) (rows : List Row) (values : List Text) (position : ℕ)
    → IsPlain s word → Passes s (at rows (Some (option_id, values)) (option option_id) position false) (word ∷ words)
    → Passes s (at rows (Some (option_id, values ++ word ∷ [])) (waiting_if (still_waits (values ++ word ∷ []))) position false) words
value_goes s k word words rows values position plain p =
    let met = value_met s k word rows values in
    let start = at rows (Some (option_id, values)) (option option_id) position false in
    let next : Walk = record start {
      held = (option_word (arg_by_id s.rules option_id) option_id word (held rows (Some (option_id, values)))).0;
      waiting = (option_word (arg_by_id s.rules option_id) option_id word (held rows (Some (option_id, values)))).1;
    } in
    let after : Passes s next words =
    subst (λ w. Passes s w words) (value_walked s word plain rows (Some (option_id, values)) option_id position) (one_more s start word words p).1 in
    subst (λ w. Passes s w words) (ap₂ (λ (h : Held) (w : Waiting). record start { held = h; waiting = w }) met.0 met.1) after

-- `--workers` alone
abbrev alone : Text
alone = codes "--workers"

alone_fault : (s : Shape) (k : TakesWorkers s) (rows : List Row) (pending : Option (Text × List Text)) (waiting : Waiting) (position : ℕ)
    → turn_fault s [] (at rows pending waiting position false) alone ≡ [] → settle_fault s.rules s.args_override_self (held rows pending) ≡ []
alone_fault s k rows pending idle position h =
    sym (ap (λ a. long_fault s.rules s.args_override_self a None (held rows pending)) k.long) ∙ (or_else_none _ _ h).0
alone_fault s k rows pending (option id) position h =
    sym (ap (λ a. long_fault s.rules s.args_override_self a None (held rows pending)) k.long) ∙ (or_else_none _ _ h).0
alone_fault s k rows pending positional position h =
    sym (ap (λ a. long_fault s.rules s.args_override_self a None (held rows pending)) k.long) ∙ (or_else_none _ _ h).0

abbrev walked_by : Shape → List Row → Option (Text × List Text) → Waiting → ℕ → Text → Option Text → Option Rule → Walk
walked_by s rows pending waiting position word text a =
    let met = long_met s.rules a text (held rows pending) in
    let step = after_flag s.rules waiting word met.0 met.1 in
    after_step s.rules word (at rows pending waiting position false) step.0 step.1

alone_walked : (s : Shape) (k : TakesWorkers s) (rows : List Row) (pending : Option (Text × List Text)) (waiting : Waiting) (position : ℕ)
    → walked s.rules [] (at rows pending waiting position false) alone
    ≡ at (settled_rows s.rules pending rows) (Some (option_id, [])) (option option_id) position false
unfolding walked
alone_walked s k rows pending idle position = ap (walked_by s rows pending idle position alone None) k.long
alone_walked s k rows pending (option id) position = ap (walked_by s rows pending (option id) position alone None) k.long
alone_walked s k rows pending positional position = ap (walked_by s rows pending positional position alone None) k.long

pub alone_goes : (s : Shape) (k : TakesWorkers s) (words : List Text) (rows : List Row) (pending : Option (Text × List Text)) (waiting : Waiting) (position : ℕ)
    → Passes s (at rows pending waiting position false) (alone ∷ words)
    → (settle_fault s.rules s.args_override_self (held rows pending) ≡ [])
    × Passes s (at (settled_rows s.rules pending rows) (Some (option_id, [])) (option option_id) position false) words
alone_goes s k words rows pending waiting position p =
    let both = one_more s (at rows pending waiting position false) alone words p in
    (alone_fault s k rows pending waiting position both.0, subst (λ w. Passes s w words) (alone_walked s k rows pending waiting position) both.1)

-- `--workers=` with a text
abbrev joined : Text → Text
joined text = codes "--workers=" ++ text

joined_fault : (s : Shape) (k : TakesWorkers s) (text : Text) (rows : List Row) (pending : Option (Text × List Text)) (waiting : Waiting) (position : ℕ)
    → turn_fault s [] (at rows pending waiting position false) (joined text) ≡ []
    → (settle_fault s.rules s.args_override_self (held rows pending) ≡ [])
    × (use_fault s.args_override_self option_rule (text ∷ []) (settled_rows s.rules pending rows) ≡ [])
joined_fault s k text rows pending idle position h =
    or_else_none _ _ (sym (ap (λ a. long_fault s.rules s.args_override_self a (Some text) (held rows pending)) k.long) ∙ (or_else_none _ _ h).0)
joined_fault s k text rows pending (option id) position h =
    or_else_none _ _ (sym (ap (λ a. long_fault s.rules s.args_override_self a (Some text) (held rows pending)) k.long) ∙ (or_else_none _ _ h).0)
joined_fault s k text rows pending positional position h =
    or_else_none _ _ (sym (ap (λ a. long_fault s.rules s.args_override_self a (Some text) (held rows pending)) k.long) ∙ (or_else_none _ _ h).0)

joined_walked : (s : Shape) (k : TakesWorkers s) (text : Text) (rows : List Row) (pending : Option (Text × List Text)) (waiting : Waiting) (position : ℕ)
    → walked s.rules [] (at rows pending waiting position false) (joined text)
    ≡ at (used option_rule (text ∷ []) (settled_rows s.rules pending rows)) None idle position false
unfolding walked
joined_walked s k text rows pending idle position = ap (walked_by s rows pending idle position (joined text) (Some text)) k.long
joined_walked s k text rows pending (option id) position = ap (walked_by s rows pending (option id) position (joined text) (Some text)) k.long
joined_walked s k text rows pending positional position = ap (walked_by s rows pending positional position (joined text) (Some text)) k.long

pub joined_goes : (s : Shape) (k : TakesWorkers s) (text : Text) (words : List Text) (rows : List Row) (pending : Option (Text × List Text)) (waiting : Waiting)
    (position : ℕ) → Passes s (at rows pending waiting position false) (joined text ∷ words)
    → (settle_fault s.rules s.args_override_self (held rows pending) ≡ [])
    × (use_fault s.args_override_self option_rule (text ∷ []) (settled_rows s.rules pending rows) ≡ [])
    × Passes s (at (used option_rule (text ∷ []) (settled_rows s.rules pending rows)) None idle position false) words
joined_goes s k text words rows pending waiting position p =
    let both = one_more s (at rows pending waiting position false) (joined text) words p in
    let faults = joined_fault s k text rows pending waiting position both.0 in
    (faults.0, faults.1, subst (λ w. Passes s w words) (joined_walked s k text rows pending waiting position) both.1)

-- ---- an option that is given again never passes

use_of : (s : Shape) (k : TakesWorkers s) (rows : List Row) (values : List Text)
    → settle_fault s.rules s.args_override_self (held rows (Some (option_id, values))) ≡ use_fault false option_rule values rows
use_of s k rows values =
    ap (λ a. option_map_or (λ r. use_fault s.args_override_self r values rows) a []) k.by_id
    ∙ ap (λ again. use_fault again option_rule values rows) k.once

pub again_fails : (rows : List Row) (values : List Text) → has_row option_id rows ≡ true → use_fault false option_rule values rows ≡ [] → ⊥
again_fails rows values has h =
    let repeat : repeat_fault false option_id rows ≡ [] = (or_else_none _ _ (or_else_none _ _ h).1).0 in
    some_fault _ _ (sym (ap (λ b. if b && true then kind.ArgumentConflict ∷ [] else []) has) ∙ repeat)

settles_never : (s : Shape) (k : TakesWorkers s) (rows : List Row) (values : List Text) → has_row option_id rows ≡ true
    → settle_fault s.rules s.args_override_self (held rows (Some (option_id, values))) ≡ [] → ⊥
settles_never s k rows values has h = again_fails rows values has (sym (use_of s k rows values) ∙ h)

given_again_trailing : (s : Shape) (k : TakesWorkers s) (words : List Text) (rows : List Row) (values : List Text) (waiting : Waiting) (position : ℕ)
    → has_row option_id rows ≡ true → Passes s (at rows (Some (option_id, values)) waiting position true) words → ⊥
given_again_trailing s k [] rows values waiting position has p = settles_never s k rows values has p.settle
given_again_trailing s k (w ∷ ws) rows values waiting position has p =
    settles_never s k rows values has (k.position position rows values (trailing_goes s w ws rows (Some (option_id, values)) waiting position p).0)

again_more : (s : Shape) (k : TakesWorkers s) (w : Text) (ws : List Text) (rows : List Row) (values : List Text) (waits : Bool) (position : ℕ)
    → has_row option_id rows ≡ true → Class s w
    → ((values : List Text) (waits : Bool) → Passes s (at rows (Some (option_id, values)) (waiting_if waits) position false) ws → ⊥)
    → Passes s (at rows (Some (option_id, values)) (waiting_if waits) position false) (w ∷ ws) → ⊥
again_more s k w ws rows values waits position has (is_end same) more p =
    given_again_trailing s k ws rows values (waiting_if waits) position has (end_goes s w ws rows (Some (option_id, values)) (waiting_if waits) position same p)
again_more s k w ws rows values true position has (is_value plain) more p =
    more (values ++ w ∷ []) _ (value_goes s k w ws rows values position plain p)
again_more s k w ws rows values false position has (is_value plain) more p =
    settles_never s k rows values has (k.position position rows values (plain_goes s w ws rows (Some (option_id, values)) position plain p).0)
again_more s k w ws rows values waits position has (is_refused r) more p =
    refused_never s w ws rows (Some (option_id, values)) (waiting_if waits) position r p
again_more s k w ws rows values waits position has (is_workers None same) more p =
    let here = subst (λ t. Passes s (at rows (Some (option_id, values)) (waiting_if waits) position false) (t ∷ ws)) same p in
    settles_never s k rows values has (alone_goes s k ws rows (Some (option_id, values)) (waiting_if waits) position here).0
again_more s k w ws rows values waits position has (is_workers (Some text) same) more p =
    let here = subst (λ t. Passes s (at rows (Some (option_id, values)) (waiting_if waits) position false) (t ∷ ws)) same p in
    settles_never s k rows values has (joined_goes s k text ws rows (Some (option_id, values)) (waiting_if waits) position here).0

pub given_again : (s : Shape) (k : TakesWorkers s) (words : List Text) (rows : List Row) (values : List Text) (waits : Bool) (position : ℕ)
    → has_row option_id rows ≡ true → Passes s (at rows (Some (option_id, values)) (waiting_if waits) position false) words → ⊥
given_again s k [] rows values waits position has p = settles_never s k rows values has p.settle
given_again s k (w ∷ ws) rows values waits position has p =
    again_more s k w ws rows values waits position has (class_of s w k.flags)
    (λ vs ws'. given_again s k ws rows vs ws' position has) p

-- ---- one use of the option

pub passed_test : (is : Bool) (k : ErrorKind) → (if is then [] else k ∷ []) ≡ [] → is ≡ true
passed_test true k h = refl
passed_test false k h = absurd (some_fault _ _ h)

pub use_number : (rows : List Row) (text : Text) → use_fault false option_rule (text ∷ []) rows ≡ [] → IsNumber 1 16 text (number_in text)
use_number rows text h =
    let set : or_else (repeat_fault false option_id rows) (values_fault option_rule (text ∷ [])) ≡ [] = h in
    let one : or_else (if accepts false (parsers.Unsigned 1 16) text then [] else kind.ValueValidation ∷ []) [] ≡ [] = (or_else_none _ _ set).1 in
    number_accepted 1 16 text (passed_test _ _ (or_else_none _ _ one).0)

pub settled_number : (s : Shape) (k : TakesWorkers s) (rows : List Row) (text : Text)
    → settle_fault s.rules s.args_override_self (held rows (Some (option_id, text ∷ []))) ≡ [] → IsNumber 1 16 text (number_in text)
settled_number s k rows text h = use_number rows text (sym (use_of s k rows (text ∷ [])) ∙ h)

-- an option with no value never passes
pub valueless_never : (s : Shape) (k : TakesWorkers s) (rows : List Row) → settle_fault s.rules s.args_override_self (held rows (Some (option_id, []))) ≡ [] → ⊥
valueless_never s k rows h = some_fault kind.InvalidValue _ (sym (use_of s k rows []) ∙ h)

-- ---- where no positional is left

-- a word that is no flag has no place
abbrev pub IsLast : Shape → ℕ → Type 0
IsLast s position = (rows : List Row) (pending : Option (Text × List Text)) → step_fault s position (held rows pending) value ≡ [] → ⊥

-- nothing stands behind the mark, and what is pending passes
pub trailing_end : (s : Shape) (position : ℕ) → IsLast s position → (words : List Text) (rows : List Row) (pending : Option (Text × List Text)) (waiting : Waiting)
    → Passes s (at rows pending waiting position true) words → (words ≡ []) × (settle_fault s.rules s.args_override_self (held rows pending) ≡ [])
trailing_end s position last [] rows pending waiting p = (refl, p.settle)
trailing_end s position last (w ∷ ws) rows pending waiting p = absurd (last rows pending (trailing_goes s w ws rows pending waiting position p).0)

abbrev End : Shape → List Row → Option (Text × List Text) → List Text → Type 0
End s rows pending words = IsEnd words × (settle_fault s.rules s.args_override_self (held rows pending) ≡ [])

end_more : (s : Shape) (k : TakesWorkers s) (position : ℕ) → IsLast s position → (rows : List Row) (pending : Option (Text × List Text)) (w : Text) (ws : List Text)
    → has_row option_id (settled_rows s.rules pending rows) ≡ true → Class s w → Passes s (at rows pending idle position false) (w ∷ ws) → End s rows pending (w ∷ ws)
end_more s k position last rows pending w ws has (is_end same) p =
    let after = trailing_end s position last ws rows pending idle (end_goes s w ws rows pending idle position same p) in
    (inr (ap (λ t. t ∷ ws) same ∙ ap (λ l. dashes ∷ l) after.0), after.1)
end_more s k position last rows pending w ws has (is_value plain) p = absurd (last rows pending (plain_goes s w ws rows pending position plain p).0)
end_more s k position last rows pending w ws has (is_refused r) p = absurd (refused_never s w ws rows pending idle position r p)
end_more s k position last rows pending w ws has (is_workers None same) p =
    let here = subst (λ t. Passes s (at rows pending idle position false) (t ∷ ws)) same p in
    absurd (given_again s k ws (settled_rows s.rules pending rows) [] true position has (alone_goes s k ws rows pending idle position here).1)
end_more s k position last rows pending w ws has (is_workers (Some text) same) p =
    let here = subst (λ t. Passes s (at rows pending idle position false) (t ∷ ws)) same p in
    let again = (joined_goes s k text ws rows pending idle position here).1 in
    absurd (again_fails (settled_rows s.rules pending rows) (text ∷ []) has (sym (ap (λ again. use_fault again option_rule (text ∷ []) (settled_rows s.rules pending rows)) k.once) ∙ again))

-- where the option was given, only the mark may follow
pub only_end : (s : Shape) (k : TakesWorkers s) (position : ℕ) → IsLast s position → (rows : List Row) (pending : Option (Text × List Text)) (words : List Text)
    → has_row option_id (settled_rows s.rules pending rows) ≡ true → Passes s (at rows pending idle position false) words → End s rows pending words
only_end s k position last rows pending [] has p = (inl refl, p.settle)
only_end s k position last rows pending (w ∷ ws) has p = end_more s k position last rows pending w ws has (class_of s w k.flags) p

abbrev pub Given : List Text → Type 0
Given [] = ⊥
Given (w ∷ ws) = IsEnd ws × IsNumber 1 16 w (number_in w)

given_more : (s : Shape) (k : TakesWorkers s) (position : ℕ) → IsLast s position → (rows : List Row) (w : Text) (ws : List Text)
    → ((text : Text) → has_row option_id (settled_rows s.rules (Some (option_id, text ∷ [])) rows) ≡ true)
    → Class s w → Passes s (at rows (Some (option_id, [])) (option option_id) position false) (w ∷ ws) → Given (w ∷ ws)
given_more s k position last rows w ws has (is_end same) p =
    let end = trailing_end s position last ws rows (Some (option_id, [])) (option option_id)
    (end_goes s w ws rows (Some (option_id, [])) (option option_id) position same p) in
    absurd (valueless_never s k rows end.1)
given_more s k position last rows w ws has (is_value plain) p =
    let end = only_end s k position last rows (Some (option_id, w ∷ [])) ws (has w) (value_goes s k w ws rows [] position plain p) in
    (end.0, settled_number s k rows w end.1)
given_more s k position last rows w ws has (is_refused r) p = absurd (refused_never s w ws rows (Some (option_id, [])) (option option_id) position r p)
given_more s k position last rows w ws has (is_workers None same) p =
    let here = subst (λ t. Passes s (at rows (Some (option_id, [])) (option option_id) position false) (t ∷ ws)) same p in
    absurd (valueless_never s k rows (alone_goes s k ws rows (Some (option_id, [])) (option option_id) position here).0)
given_more s k position last rows w ws has (is_workers (Some text) same) p =
    let here = subst (λ t. Passes s (at rows (Some (option_id, [])) (option option_id) position false) (t ∷ ws)) same p in
    absurd (valueless_never s k rows (joined_goes s k text ws rows (Some (option_id, [])) (option option_id) position here).0)

-- where the option waits for its value, the value follows, and then the end
pub given_words : (s : Shape) (k : TakesWorkers s) (position : ℕ) → IsLast s position → (rows : List Row) (words : List Text)
    → ((text : Text) → has_row option_id (settled_rows s.rules (Some (option_id, text ∷ [])) rows) ≡ true)
    → Passes s (at rows (Some (option_id, [])) (option option_id) position false) words → Given words
given_words s k position last rows [] has p = absurd (valueless_never s k rows p.settle)
given_words s k position last rows (w ∷ ws) has p = given_more s k position last rows w ws has (class_of s w k.flags) p
