-- What is read of the matches.
use Rattle.std.proofs.Common.{◌≡◌, ◌∙◌, ◌<◌, ◌^◌, ℕ, Bool, true, false, refl, sym, ap, ap₂, subst, inl, inr, arith, List, [], ◌∷◌, ◌++◌, drop, Option, Some, None, Result, Ok, Err, codes}
use Rattle.std.specs.Prelude.{unwrap_or}
use Rattle.std.specs.Str.Parse.{ExplainsUnsignedError, HasUnsignedDigitsIfOk, ParsesUnsigned}
use Rattle.std.specs.declared.num.ParseIntError.{ParseIntError}
use Rattle.clap.specs.Walk.{Text, one_of, rows_of}
use Rattle.clap.specs.Simple.{App, HasMatchesOf, is_simple, matches_of}
use Rattle.clap.specs.Matches.{ReadsOne, found_of, one_text}
use Rattle.clap.specs.Faults.{fault_of, is_simple_and_free}
use Rattle.clap.specs.declared.parser.matches.ArgMatches.{ArgMatches}
use Rattle.clap.proofs.WalkLemmas.{one_text-rows}
use Rattle.command_words.specs.Parsers.{bare_app, make_app, turn_app}
use Rattle.command_words.specs.Words.{GivesWorkers, IsEnd, IsInOrder, IsMake, IsNumber, IsOption, IsTurn}
use Rattle.command_words.proofs.Bare.{bare_reads}
use Rattle.command_words.proofs.Turn.{turn_reads}
use Rattle.command_words.proofs.Make.{make_reads}
use Rattle.command_words.proofs.Steps.{dashes}
use Rattle.command_words.proofs.Taken.{Takes, bare_taken, end_words, fits, make_before, make_behind, make_marked, make_none, make_option_marked, option_words, turn_none, turn_option}

-- the number of workers, by its text
abbrev pub WorkersBy : Option Text → ℕ → Type 0
WorkersBy None workers = workers ≡ 1
WorkersBy (Some text) workers = IsNumber 1 16 text workers

-- ---- the shapes of the words

ends_as : (end : List Text) → IsEnd end → (ends : Bool) × (end ≡ end_words ends)
ends_as end (inl same) = (false, same)
ends_as end (inr same) = (true, same)

option_as : (options : List Text) (text : Text) → IsOption options text → (apart : Bool) × (options ≡ option_words apart text)
option_as options text (inl same) = (true, same)
option_as options text (inr same) = (false, same)

same_taken : (a : App) (words other : List Text) (given number : Option Text) → words ≡ other → Takes a other given number → Takes a words given number
same_taken a words other given number same takes = subst (λ ws. Takes a ws given number) (sym same) takes

abbrev pub TurnGives : Text → List Text → ℕ → Type 0
TurnGives first words workers = (given : Option Text) × WorkersBy given workers × Takes turn_app (first ∷ words) given None

turn_by : (first : Text) (words options : List Text) (workers : ℕ) (ends : Bool) → words ≡ options ++ end_words ends → GivesWorkers options workers
    → TurnGives first words workers
turn_by first words options workers ends whole (inl none) =
    (None, none.1, same_taken turn_app _ _ None None (ap (λ ws. first ∷ ws) (whole ∙ ap (λ o. o ++ end_words ends) none.0)) (turn_none first ends))
turn_by first words options workers ends whole (inr (text, is_option, number)) =
    let option = option_as options text is_option in (
      Some text,
      number,
      same_taken turn_app _ _ (Some text) None (ap (λ ws. first ∷ ws) (whole ∙ ap (λ o. o ++ end_words ends) option.1))
          (turn_option first text option.0 ends (fits 16 text workers (omega arith) number)),
    )

pub turn_gives : (first : Text) (words : List Text) (workers : ℕ) → IsTurn words workers → TurnGives first words workers
turn_gives first words workers turn =
    let end = ends_as turn.end turn.ends in
    turn_by first words turn.options workers end.0 (turn.whole ∙ ap (λ e. turn.options ++ e) end.1) turn.number

abbrev pub MakeGives : Text → List Text → ℕ → Text → Type 0
MakeGives first words workers number = (given : Option Text) × WorkersBy given workers × Takes make_app (first ∷ words) given (Some number)

-- the number stands alone
make_alone : (first : Text) (words options : List Text) (number : Text) (submissions workers : ℕ) → IsNumber 1 10000 number submissions
    → (options ≡ []) × (workers ≡ 1) → IsInOrder words options number → MakeGives first words workers number
make_alone first words options number submissions workers is none (inl same) = (
  None,
  none.1,
  same_taken make_app _ _ None (Some number) (ap (λ ws. first ∷ ws) (same ∙ ap (λ o. o ++ dashes ∷ number ∷ []) none.0))
      (make_marked first number (fits 10000 number submissions (omega arith) is)),
)
make_alone first words options number submissions workers is none (inr (end, is_end, inl same)) =
    let ends = ends_as end is_end in (
      None,
      none.1,
      same_taken make_app _ _ None (Some number) (ap (λ ws. first ∷ ws) (same ∙ ap₂ (λ o e. o ++ number ∷ e) none.0 ends.1))
          (make_none first number ends.0 (fits 10000 number submissions (omega arith) is)),
    )
make_alone first words options number submissions workers is none (inr (end, is_end, inr same)) =
    let ends = ends_as end is_end in (
      None,
      none.1,
      same_taken make_app _ _ None (Some number) (ap (λ ws. first ∷ ws) (same ∙ ap₂ (λ o e. number ∷ (o ++ e)) none.0 ends.1))
          (make_none first number ends.0 (fits 10000 number submissions (omega arith) is)),
    )

-- an option stands with it
make_with : (first : Text) (words options : List Text) (text number : Text) (submissions workers : ℕ) → IsNumber 1 10000 number submissions
    → IsNumber 1 16 text workers → (apart : Bool) × (options ≡ option_words apart text) → IsInOrder words options number → MakeGives first words workers number
make_with first words options text number submissions workers is by option (inl same) = (
  Some text,
  by,
  same_taken make_app _ _ (Some text) (Some number) (ap (λ ws. first ∷ ws) (same ∙ ap (λ o. o ++ dashes ∷ number ∷ []) option.1))
      (make_option_marked first text number option.0 (fits 16 text workers (omega arith) by) (fits 10000 number submissions (omega arith) is)),
)
make_with first words options text number submissions workers is by option (inr (end, is_end, inl same)) =
    let ends = ends_as end is_end in (
      Some text,
      by,
      same_taken make_app _ _ (Some text) (Some number) (ap (λ ws. first ∷ ws) (same ∙ ap₂ (λ o e. o ++ number ∷ e) option.1 ends.1))
          (make_behind first text number option.0 ends.0 (fits 16 text workers (omega arith) by) (fits 10000 number submissions (omega arith) is)),
    )
make_with first words options text number submissions workers is by option (inr (end, is_end, inr same)) =
    let ends = ends_as end is_end in (
      Some text,
      by,
      same_taken make_app _ _ (Some text) (Some number) (ap (λ ws. first ∷ ws) (same ∙ ap₂ (λ o e. number ∷ (o ++ e)) option.1 ends.1))
          (make_before first text number option.0 ends.0 (fits 16 text workers (omega arith) by) (fits 10000 number submissions (omega arith) is)),
    )

make_by : (first : Text) (words options : List Text) (number : Text) (submissions workers : ℕ) → IsNumber 1 10000 number submissions
    → GivesWorkers options workers → IsInOrder words options number → MakeGives first words workers number
make_by first words options number submissions workers is (inl none) order = make_alone first words options number submissions workers is none order
make_by first words options number submissions workers is (inr (text, is_option, by)) order =
    make_with first words options text number submissions workers is by (option_as options text is_option) order

pub make_gives : (first : Text) (words : List Text) (submissions workers : ℕ) (make : IsMake words submissions workers) → MakeGives first words workers make.text
make_gives first words submissions workers make = make_by first words make.options make.text submissions workers make.number make.option make.order

-- ---- what is read

-- a number as `u32` reads it
read_number : {E : Type 0} (G : Text → Result ℕ E → Type 0) (least most n : ℕ) (text : Text) (r : Option ℕ)
    → ((t : Text) (x : Result ℕ E) → G t x → ParsesUnsigned 32 10 t x) → most < 2 ^ 32 → IsNumber least most text n → ReadsOne G text r → r ≡ Some n
read_number G least most n text (Some v) parses bound number reads =
    ap Some ((parses text (Ok v) reads).1 ∙ sym number.value)
read_number G least most n text None parses bound number reads =
    absurd (parses text (Err reads.0) reads.1 (number.digits, (let below : n < 2 ^ 32 = omega (arith, number.high) in rw (← number.value) below)))

-- what `get_one` of a `u32` gives of an id
abbrev pub Gets : {E : Type 0} → (Text → Result ℕ E → Type 0) → Option Text → Option ℕ → Type 0
Gets G None r = r ≡ None
Gets G (Some text) r = ReadsOne G text r

workers_read : {E : Type 0} (G : Text → Result ℕ E → Type 0) (given : Option Text) (workers : ℕ) (r : Option ℕ)
    → ((t : Text) (x : Result ℕ E) → G t x → ParsesUnsigned 32 10 t x) → WorkersBy given workers → Gets G given r → unwrap_or r 1 ≡ workers
workers_read G None workers r parses by gets = ap (λ o. unwrap_or o 1) gets ∙ sym by
workers_read G (Some text) workers r parses by gets = ap (λ o. unwrap_or o 1) (read_number G 1 16 workers text r parses (omega arith) by gets)

pub gets_from : {E : Type 0} (G : Text → Result ℕ E → Type 0) (o : Option Text) (r : Option ℕ) → (o ≡ None → r ≡ None)
    → ((t : Text) → o ≡ Some t → ReadsOne G t r) → Gets G o r
gets_from G None r none some = none refl
gets_from G (Some text) r none some = some text refl

turn_known : {E : Type 0} (G : Text → Result ℕ E → Type 0) (first : Text) (words : List Text) (o : Option Text) (r : Option ℕ) (workers : ℕ)
    → ((t : Text) (x : Result ℕ E) → G t x → ParsesUnsigned 32 10 t x) → one_of (codes "workers") (matches_of turn_app (first ∷ words)) ≡ o
    → Gets G o r → IsTurn words workers → workers ≡ unwrap_or r 1
turn_known G first words o r workers parses texts gets turn =
    let given = turn_gives first words workers turn in
    let same : o ≡ given.0 = sym texts ∙ given.2.workers in
    sym (workers_read G given.0 workers r parses given.1 (subst (λ t. Gets G t r) same gets))

-- the words that were read as `turn`
pub record ReadsTurn (words : List Text) (workers : ℕ) : Type 0 where
  pub is : IsTurn words workers
  pub only : (other : ℕ) → IsTurn words other → other ≡ workers

turn_after : {E : Type 0} (G : Text → Result ℕ E → Type 0) (first : Text) (words : List Text) (o : Option Text) (r : Option ℕ)
    → ((t : Text) (x : Result ℕ E) → G t x → ParsesUnsigned 32 10 t x) → fault_of turn_app (first ∷ words) ≡ []
    → one_of (codes "workers") (matches_of turn_app (first ∷ words)) ≡ o → Gets G o r → ReadsTurn words (unwrap_or r 1)
turn_after G first words o r parses passes texts gets =
    let read = turn_reads first words passes in
    let known = turn_known G first words o r read.0 parses texts gets read.1 in
    record { is = subst (λ n. IsTurn words n) known read.1; only = λ other turn. turn_known G first words o r other parses texts gets turn }

pub turn_read : {E : Type 0} (G : Text → Result ℕ E → Type 0) (words : List Text) (o : Option Text) (r : Option ℕ)
    → ((t : Text) (x : Result ℕ E) → G t x → ParsesUnsigned 32 10 t x) → fault_of turn_app words ≡ []
    → one_of (codes "workers") (matches_of turn_app words) ≡ o → Gets G o r → ReadsTurn (drop 1 words) (unwrap_or r 1)
turn_read G [] o r parses passes texts gets = turn_after G [] [] o r parses passes texts gets
turn_read G (first ∷ words) o r parses passes texts gets = turn_after G first words o r parses passes texts gets

pub turn_refused : (words : List Text) (workers : ℕ) → IsTurn (drop 1 words) workers → fault_of turn_app words ≡ []
turn_refused [] workers turn = (turn_gives [] [] workers turn).2.passes
turn_refused (first ∷ words) workers turn = (turn_gives first words workers turn).2.passes

pub bare_read : (name : Text) (words : List Text) → fault_of (bare_app name) words ≡ [] → IsEnd (drop 1 words)
bare_read name [] passes = bare_reads name [] [] passes
bare_read name (first ∷ words) passes = bare_reads name first words passes

pub bare_refused : (name : Text) (words : List Text) → IsEnd (drop 1 words) → fault_of (bare_app name) words ≡ []
bare_refused name [] end = bare_taken name [] [] end
bare_refused name (first ∷ words) end = bare_taken name first words end

-- the words that were read as `make`
pub record ReadsMake (words : List Text) (submissions workers : ℕ) : Type 0 where
  pub is : IsMake words submissions workers
  pub only : (other with : ℕ) → IsMake words other with → (other ≡ submissions) × (with ≡ workers)

-- what was read of the matches, which has to have a number
pub record MakeGot {E : Type 0} (G : Text → Result ℕ E → Type 0) (words : List Text) (number with : Option ℕ) : Type 0 where
  pub parses : (t : Text) (x : Result ℕ E) → G t x → ParsesUnsigned 32 10 t x
  pub passes : fault_of make_app words ≡ []
  pub workers : Gets G (one_of (codes "workers") (matches_of make_app words)) with
  pub submissions : Gets G (one_of (codes "submissions") (matches_of make_app words)) number

make_known : {E : Type 0} (G : Text → Result ℕ E → Type 0) (first : Text) (words : List Text) (number workers : Option ℕ) (submissions by : ℕ)
    → MakeGot G (first ∷ words) number workers → IsMake words submissions by → (number ≡ Some submissions) × (by ≡ unwrap_or workers 1)
make_known G first words number workers submissions by got make =
    let given = make_gives first words submissions by make in
    let with = subst (λ t. Gets G t workers) given.2.workers got.workers in
    let text = subst (λ t. Gets G t number) given.2.submissions got.submissions in
    (read_number G 1 10000 submissions make.text number got.parses (omega arith) make.number text, sym (workers_read G given.0 by workers got.parses given.1 with))

make_after : {E : Type 0} (G : Text → Result ℕ E → Type 0) (first : Text) (words : List Text) (number workers : Option ℕ)
    → MakeGot G (first ∷ words) number workers → (submissions : ℕ) × (number ≡ Some submissions) × ReadsMake words submissions (unwrap_or workers 1)
make_after G first words number workers got =
    let read = make_reads first words got.passes in
    let known = make_known G first words number workers read.0 read.1 got read.2 in (
      read.0,
      known.0,
      record {
        is = subst (λ n. IsMake words read.0 n) known.1 read.2;
        only = λ other with make. let also = make_known G first words number workers other with got make in
            let same : Some other ≡ Some read.0 = sym also.0 ∙ known.0 in
            (cc, also.1);
      },
    )

pub make_read : {E : Type 0} (G : Text → Result ℕ E → Type 0) (words : List Text) (number workers : Option ℕ)
    → MakeGot G words number workers → (submissions : ℕ) × (number ≡ Some submissions) × ReadsMake (drop 1 words) submissions (unwrap_or workers 1)
make_read G [] number workers got =
    make_after G [] [] number workers (record { parses = got.parses; passes = got.passes; workers = got.workers; submissions = got.submissions })
make_read G (first ∷ words) number workers got = make_after G first words number workers got

pub make_refused : (words : List Text) (submissions workers : ℕ) → IsMake (drop 1 words) submissions workers → fault_of make_app words ≡ []
make_refused [] submissions workers make = (make_gives [] [] submissions workers make).2.passes
make_refused (first ∷ words) submissions workers make = (make_gives first words submissions workers make).2.passes

-- ---- from the matches

-- a parse gave these matches of the words
pub record Gave (a : App) (words : List Text) (m : ArgMatches) : Type 0 where
  pub passes : fault_of a words ≡ []
  pub rows : rows_of (found_of m) ≡ matches_of a words

pub gave : (a b : App) (words : List Text) (m : ArgMatches) → a ≡ b → is_simple_and_free b ≡ true → is_simple b ≡ true
    → (is_simple_and_free a ≡ true → fault_of a words ≡ []) → HasMatchesOf a words m → Gave b words m
gave a b words m same free simple passes matches = record {
  passes = subst (λ x. fault_of x words ≡ []) same (passes (ap is_simple_and_free same ∙ free));
  rows = (matches (ap is_simple same ∙ simple)).0 ∙ ap (λ x. matches_of x words) same;
}

pub gets : {E : Type 0} (G : Text → Result ℕ E → Type 0) (a : App) (words : List Text) (m : ArgMatches) (id : Text) (r : Option ℕ) → Gave a words m
    → (one_text (found_of m) id ≡ None → r ≡ None) → ((t : Text) → one_text (found_of m) id ≡ Some t → ReadsOne G t r)
    → Gets G (one_of id (matches_of a words)) r
gets G a words m id r given none some =
    subst (λ o. Gets G o r) (one_text-rows (found_of m) id ∙ ap (one_of id) given.rows) (gets_from G (one_text (found_of m) id) r none some)

-- a text as `u32` reads it
abbrev pub u32_reads : Text → Result ℕ ParseIntError → Type 0
u32_reads bs r = ParsesUnsigned 32 10 bs r × ExplainsUnsignedError 10 bs r × HasUnsignedDigitsIfOk bs r

-- `make` as it is read of the matches
pub make_given : (words : List Text) (m : ArgMatches) (number with : Option ℕ) → Gave make_app words m
    → Gets u32_reads (one_of (codes "submissions") (matches_of make_app words)) number → Gets u32_reads (one_of (codes "workers") (matches_of make_app words)) with
    → (submissions : ℕ) × (number ≡ Some submissions) × ReadsMake (drop 1 words) submissions (unwrap_or with 1)
make_given words m number with given submissions workers =
    make_read u32_reads words number with (record { parses = λ t x reads. reads.0; passes = given.passes; workers = workers; submissions = submissions })
