-- The words behind `make`.
use Rattle.std.proofs.Common.{◌≡◌, ◌⊎◌, ◌==◌, ◌∙◌, ℕ, Bool, true, false, refl, sym, ap, subst, inl, inr, List, [], ◌∷◌, ◌++◌, Option, Some, None, codes}
use Rattle.std.specs.Prelude.{if◌then◌else◌}
use Rattle.clap.specs.Walk.{Row, Rule, Text, Waiting, finished, has_row, nothing_held, settled_rows, used, value}
use Rattle.clap.specs.Walk.{idle, option}
use Rattle.clap.specs.Simple.{built, filled, with_index}
use Rattle.clap.specs.Kinds.{or_else}
use Rattle.clap.specs.Faults.{check_fault, fault_of, repeat_fault, settle_fault, step_fault, values_fault}
use Rattle.clap.specs.ValueTests.{accepts}
use Rattle.clap.specs.declared.builder.value_parser.ValueParser.TheVariants as parsers
use Rattle.clap.specs.declared.error.kind.ErrorKind.TheVariants as kind
use Rattle.clap.proofs.FaultLemmas.{leaf_fault}
use Rattle.command_words.specs.Parsers.{make_app, submissions_rule}
use Rattle.command_words.specs.Words.{GivesWorkers, IsEnd, IsMake, IsNumber}
use Rattle.command_words.proofs.Numbers.{number_accepted, number_in}
use Rattle.command_words.proofs.Steps.{IsPlain, Passes, at, dashes, held, level_passes, or_else_none, some_fault}
use Rattle.command_words.proofs.Classes.{Class, class_of, is_end, is_value, is_refused, is_workers}
use Rattle.command_words.proofs.Shapes.{make, make_flags}
use Rattle.command_words.proofs.Turn.{Turns, apart, end_alone, joined_end, nothing}
use Rattle.command_words.proofs.Options.{IsLast, TakesWorkers, again_fails, alone_goes, end_goes, given_again, given_words, joined_goes, only_end, option_id, option_rule, passed_test, plain_goes, refused_never, settled_number, trailing_end, trailing_goes, use_number, value_goes, valueless_never}

abbrev number_rule : Rule
number_rule = with_index 1 (filled submissions_rule)

abbrev number_id : Text
number_id = codes "submissions"

settles_option : (position : ℕ) (rows : List Row) (values : List Text) (is : Bool) → (1 == position) ≡ is
    → step_fault make position (held rows (Some (option_id, values))) value ≡ [] → settle_fault make.rules false (held rows (Some (option_id, values))) ≡ []
settles_option position rows values true e h = rw e at h
settles_option position rows values false e h = absurd (some_fault _ _ (rw e at h))

make_takes : TakesWorkers make
make_takes = record {
  flags = make_flags;
  long = refl;
  by_id = refl;
  once = refl;
  position = λ position rows values h. settles_option position rows values (1 == position) refl h;
}

make_last : IsLast make 2
make_last rows pending h = some_fault _ _ h

number_settled : (rows : List Row) (text : Text) → settle_fault make.rules false (held rows (Some (number_id, text ∷ []))) ≡ [] → IsNumber 1 10000 text (number_in text)
number_settled rows text h =
    let set : or_else (repeat_fault false number_id rows) (values_fault number_rule (text ∷ [])) ≡ [] = h in
    let one : or_else (if accepts false (parsers.Unsigned 1 10000) text then [] else kind.ValueValidation ∷ []) [] ≡ [] = (or_else_none _ _ set).1 in
    number_accepted 1 10000 text (passed_test _ _ (or_else_none _ _ one).0)

-- ---- the number

-- an option whose value was read, or none
abbrev option_of : Option Text → Option (Text × List Text)
option_of None = None
option_of (Some text) = Some (option_id, text ∷ [])

abbrev Settles : List Row → Option (Text × List Text) → Type 0
Settles rows pending = settle_fault make.rules false (held rows pending) ≡ []

abbrev behind : List Row → Option Text → List Row
behind rows given = settled_rows make.rules (option_of given) rows

number_goes : (rows : List Row) (given : Option Text) (w : Text) (ws : List Text) → IsPlain make w → Passes make (at rows (option_of given) idle 1 false) (w ∷ ws)
    → Settles rows (option_of given) × Passes make (at (behind rows given) (Some (number_id, w ∷ [])) idle 2 false) ws
number_goes rows None w ws plain p = plain_goes make w ws rows None 1 plain p
number_goes rows (Some text) w ws plain p = plain_goes make w ws rows (option_of (Some text)) 1 plain p

-- behind the mark the number is the last word
mark_number : (rows : List Row) (given : Option Text) (waiting : Waiting) (w : Text) (ws : List Text) → Passes make (at rows (option_of given) waiting 1 true) (w ∷ ws)
    → Settles rows (option_of given) × (ws ≡ []) × IsNumber 1 10000 w (number_in w)
mark_number rows None waiting w ws p =
    let step = trailing_goes make w ws rows None waiting 1 p in
    let end = trailing_end make 2 make_last ws (behind rows None) (Some (number_id, w ∷ [])) idle step.1 in
    (step.0, end.0, number_settled (behind rows None) w end.1)
mark_number rows (Some text) waiting w ws p =
    let step = trailing_goes make w ws rows (option_of (Some text)) waiting 1 p in
    let end = trailing_end make 2 make_last ws (behind rows (Some text)) (Some (number_id, w ∷ [])) idle step.1 in
    (step.0, end.0, number_settled (behind rows (Some text)) w end.1)

-- the number is still to come
abbrev Lacks : List Row → Option Text → Type 0
Lacks rows given = check_fault make (finished make.rules (held rows (option_of given))) false ≡ [] → ⊥

abbrev MarkNumber : List Text → Type 0
MarkNumber words = (text : Text) × (words ≡ text ∷ []) × IsNumber 1 10000 text (number_in text)

mark_words : (rows : List Row) (given : Option Text) (waiting : Waiting) (words : List Text) → Lacks rows given
    → Passes make (at rows (option_of given) waiting 1 true) words → Settles rows (option_of given) × MarkNumber words
mark_words rows given waiting [] lacks p = absurd (lacks p.check)
mark_words rows given waiting (w ∷ ws) lacks p =
    let number = mark_number rows given waiting w ws p in
    (number.0, (w, ap (λ l. w ∷ l) number.1, number.2))

-- ---- behind the option

-- the number behind the mark, or before an end
abbrev Rest : List Text → Type 0
Rest words = (text : Text) × IsNumber 1 10000 text (number_in text)
    × ((words ≡ dashes ∷ text ∷ []) ⊎ ((end : List Text) × IsEnd end × (words ≡ text ∷ end)))

rest_more : (rows : List Row) (given : Option Text) (w : Text) (ws : List Text) → Lacks rows given → has_row option_id (behind rows given) ≡ true
    → ((text : Text) → has_row option_id (settled_rows make.rules (Some (number_id, text ∷ [])) (behind rows given)) ≡ true)
    → Class make w → Passes make (at rows (option_of given) idle 1 false) (w ∷ ws) → Settles rows (option_of given) × Rest (w ∷ ws)
rest_more rows given w ws lacks has still (is_end same) p =
    let mark = mark_words rows given idle ws lacks (end_goes make w ws rows (option_of given) idle 1 same p) in
    let number = mark.1 in
    (mark.0, (number.0, number.2, inl (ap (λ t. t ∷ ws) same ∙ ap (λ l. dashes ∷ l) number.1)))
rest_more rows given w ws lacks has still (is_value plain) p =
    let number = number_goes rows given w ws plain p in
    let end = only_end make make_takes 2 make_last (behind rows given) (Some (number_id, w ∷ [])) ws (still w) number.1 in
    (number.0, (w, number_settled (behind rows given) w end.1, inr (ws, end.0, refl)))
rest_more rows given w ws lacks has still (is_refused r) p = absurd (refused_never make w ws rows (option_of given) idle 1 r p)
rest_more rows given w ws lacks has still (is_workers None same) p =
    let here = subst (λ t. Passes make (at rows (option_of given) idle 1 false) (t ∷ ws)) same p in
    absurd (given_again make make_takes ws (behind rows given) [] true 1 has (alone_goes make make_takes ws rows (option_of given) idle 1 here).1)
rest_more rows given w ws lacks has still (is_workers (Some text) same) p =
    let here = subst (λ t. Passes make (at rows (option_of given) idle 1 false) (t ∷ ws)) same p in
    absurd (again_fails (behind rows given) (text ∷ []) has (joined_goes make make_takes text ws rows (option_of given) idle 1 here).1)

rest_words : (rows : List Row) (given : Option Text) (words : List Text) → Lacks rows given → has_row option_id (behind rows given) ≡ true
    → ((text : Text) → has_row option_id (settled_rows make.rules (Some (number_id, text ∷ [])) (behind rows given)) ≡ true)
    → Passes make (at rows (option_of given) idle 1 false) words → Settles rows (option_of given) × Rest words
rest_words rows given [] lacks has still p = absurd (lacks p.check)
rest_words rows given (w ∷ ws) lacks has still p = rest_more rows given w ws lacks has still (class_of make w make_flags) p

-- the option waits for its value
abbrev OptionRest : List Text → Type 0
OptionRest [] = ⊥
OptionRest (w ∷ ws) = IsNumber 1 16 w (number_in w) × Rest ws

valueless_mark : (words : List Text) → Passes make (at [] (Some (option_id, [])) (option option_id) 1 true) words → ⊥
valueless_mark [] p = valueless_never make make_takes [] p.settle
valueless_mark (w ∷ ws) p = valueless_never make make_takes [] (trailing_goes make w ws [] (Some (option_id, [])) (option option_id) 1 p).0

option_more : (w : Text) (ws : List Text) → Class make w → Passes make (at [] (Some (option_id, [])) (option option_id) 1 false) (w ∷ ws) → OptionRest (w ∷ ws)
option_more w ws (is_end same) p = absurd (valueless_mark ws (end_goes make w ws [] (Some (option_id, [])) (option option_id) 1 same p))
option_more w ws (is_value plain) p =
    let rest = rest_words [] (Some w) ws (λ h. some_fault _ _ h) refl (λ text. refl) (value_goes make make_takes w ws [] [] 1 plain p) in
    (settled_number make make_takes [] w rest.0, rest.1)
option_more w ws (is_refused r) p = absurd (refused_never make w ws [] (Some (option_id, [])) (option option_id) 1 r p)
option_more w ws (is_workers None same) p =
    let here = subst (λ t. Passes make (at [] (Some (option_id, [])) (option option_id) 1 false) (t ∷ ws)) same p in
    absurd (valueless_never make make_takes [] (alone_goes make make_takes ws [] (Some (option_id, [])) (option option_id) 1 here).0)
option_more w ws (is_workers (Some text) same) p =
    let here = subst (λ t. Passes make (at [] (Some (option_id, [])) (option option_id) 1 false) (t ∷ ws)) same p in
    absurd (valueless_never make make_takes [] (joined_goes make make_takes text ws [] (Some (option_id, [])) (option option_id) 1 here).0)

option_words : (words : List Text) → Passes make (at [] (Some (option_id, [])) (option option_id) 1 false) words → OptionRest words
option_words [] p = absurd (valueless_never make make_takes [] p.settle)
option_words (w ∷ ws) p = option_more w ws (class_of make w make_flags) p

-- ---- behind the number, where no option was given

-- the number, and then the option or none
abbrev Late : Text → List Text → Type 0
Late text words = IsNumber 1 10000 text (number_in text) × Turns words

abbrev Pending : Text → Option (Text × List Text)
Pending text = Some (number_id, text ∷ [])

late_more : (text w : Text) (ws : List Text) → Class make w → Passes make (at [] (Pending text) idle 2 false) (w ∷ ws) → Late text (w ∷ ws)
late_more text w ws (is_end same) p =
    let after = trailing_end make 2 make_last ws [] (Pending text) idle (end_goes make w ws [] (Pending text) idle 2 same p) in
    (number_settled [] text after.1, end_alone w ws same after.0)
late_more text w ws (is_value plain) p = absurd (make_last [] (Pending text) (plain_goes make w ws [] (Pending text) 2 plain p).0)
late_more text w ws (is_refused r) p = absurd (refused_never make w ws [] (Pending text) idle 2 r p)
late_more text w ws (is_workers None same) p =
    let here = subst (λ t. Passes make (at [] (Pending text) idle 2 false) (t ∷ ws)) same p in
    let after = alone_goes make make_takes ws [] (Pending text) idle 2 here in
    let given = given_words make make_takes 2 make_last (used number_rule (text ∷ []) []) ws (λ text. refl) after.1 in
    (number_settled [] text after.0, subst (λ t. Turns (t ∷ ws)) (sym same) (apart ws given))
late_more text w ws (is_workers (Some given) same) p =
    let here = subst (λ t. Passes make (at [] (Pending text) idle 2 false) (t ∷ ws)) same p in
    let rows = used number_rule (text ∷ []) [] in
    let after = joined_goes make make_takes given ws [] (Pending text) idle 2 here in
    let end = only_end make make_takes 2 make_last (used option_rule (given ∷ []) rows) None ws refl after.2 in
    (number_settled [] text after.0, joined_end given w ws same (use_number rows given after.1) end.0)

late_words : (text : Text) (words : List Text) → Passes make (at [] (Pending text) idle 2 false) words → Late text words
late_words text [] p = (number_settled [] text p.settle, nothing)
late_words text (w ∷ ws) p = late_more text w ws (class_of make w make_flags) p

-- ---- the words behind `make`

abbrev pub Makes : List Text → Type 0
Makes words = (submissions : ℕ) × (workers : ℕ) × IsMake words submissions workers

-- an option and then the rest
with_option : (options words : List Text) (workers : ℕ) → GivesWorkers options workers → Rest words → Makes (options ++ words)
with_option options words workers gives (text, number, inl same) = (
  number_in text,
  workers,
  record {
    options = options;
    text = text;
    option = gives;
    number = number;
    order = inl (ap (λ l. options ++ l) same);
  },
)
with_option options words workers gives (text, number, inr (end, ends, same)) = (
  number_in text,
  workers,
  record {
    options = options;
    text = text;
    option = gives;
    number = number;
    order = inr (end, ends, inl (ap (λ l. options ++ l) same));
  },
)

make_apart : (words : List Text) → OptionRest words → Makes (codes "--workers" ∷ words)
make_apart [] rest = absurd rest
make_apart (w ∷ ws) rest = with_option (codes "--workers" ∷ w ∷ []) ws (number_in w) (inr (w, inl refl, rest.0)) rest.1

make_more : (w : Text) (ws : List Text) → Class make w → Passes make (at [] None idle 1 false) (w ∷ ws) → Makes (w ∷ ws)
make_more w ws (is_end same) p =
    let mark = (mark_words [] None idle ws (λ h. some_fault _ _ h) (end_goes make w ws [] None idle 1 same p)).1 in (
      number_in mark.0,
      1,
      record {
        options = [];
        text = mark.0;
        option = inl (refl, refl);
        number = mark.2;
        order = inl (ap (λ t. t ∷ ws) same ∙ ap (λ l. dashes ∷ l) mark.1);
      },
    )
make_more w ws (is_value plain) p =
    let late = late_words w ws (number_goes [] None w ws plain p).1 in
    let turn = late.1.1 in (
      number_in w,
      late.1.0,
      record {
        options = turn.options;
        text = w;
        option = turn.number;
        number = late.0;
        order = inr (turn.end, turn.ends, inr (ap (λ l. w ∷ l) turn.whole));
      },
    )
make_more w ws (is_refused r) p = absurd (refused_never make w ws [] None idle 1 r p)
make_more w ws (is_workers None same) p =
    let here = subst (λ t. Passes make (at [] None idle 1 false) (t ∷ ws)) same p in
    subst (λ t. Makes (t ∷ ws)) (sym same) (make_apart ws (option_words ws (alone_goes make make_takes ws [] None idle 1 here).1))
make_more w ws (is_workers (Some text) same) p =
    let here = subst (λ t. Passes make (at [] None idle 1 false) (t ∷ ws)) same p in
    let after = joined_goes make make_takes text ws [] None idle 1 here in
    let rest = rest_words (used option_rule (text ∷ []) []) None ws (λ h. some_fault _ _ h) refl (λ text. refl) after.2 in
    with_option (w ∷ []) ws (number_in text) (inr (text, inr (ap (λ t. t ∷ []) same), use_number [] text after.1)) rest.1

make_words : (words : List Text) → Passes make (at [] None idle 1 false) words → Makes words
make_words [] p = absurd (some_fault _ _ p.check)
make_words (w ∷ ws) p = make_more w ws (class_of make w make_flags) p

-- the words that `clap` takes for `make` are words of it
pub make_reads : (first : Text) (words : List Text) → fault_of make_app (first ∷ words) ≡ [] → Makes words
make_reads first words h = make_words words (level_passes make words (sym (leaf_fault (built make_app) nothing_held words refl) ∙ h))
