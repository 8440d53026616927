-- What kinds of words a command tells apart, where its one flag is `--workers`.
use Rattle.std.proofs.Common.{◌≡◌, ◌⊎◌, ◌∙◌, ℕ, Bool, true, false, zero, suc, refl, sym, ap, inl, inr, List, [], length, Option, Some, None, codes}
use Rattle.std.specs.Prelude.{if◌then◌else◌, slice_get}
use Rattle.std.specs.Option.{option_map_or}
use Rattle.std.specs.Str.{bytes_eq, chars}
use Rattle.std.proofs.lemmas.Slice.Eq.{bytes_eq-Decides}
use Rattle.clap.specs.Lexer.{long_of, short_of}
use Rattle.clap.specs.Walk.{Held, Row, Text, after_flag, arg_by_long, arg_by_short, bundle_met, long_or_other, plain, short_or_plain}
use Rattle.clap.specs.Simple.{Shape}
use Rattle.clap.specs.Kinds.{Kinds}
use Rattle.clap.specs.Faults.{flag_word_fault, flags_fault, long_fault, other_fault, short_fault}
use Rattle.command_words.proofs.Cuts.{long_word, long_word_of}
use Rattle.command_words.proofs.Steps.{IsPlain, IsRefused, dashes, held}

pub data Class (s : Shape) (word : Text) : Type 0 where
  is_end : word ≡ dashes → Class s word
  is_value : IsPlain s word → Class s word
  is_refused : IsRefused s word → Class s word
  is_workers : (text : Option Text) → word ≡ long_word_of (codes "workers") text → Class s word

-- the flags of a command are `--workers` and those of help
pub record HasFlags (s : Shape) : Type 0 where
  pub long : (name : Text) (text : Option Text) → (name ≡ codes "workers")
      ⊎ ((rows : List Row) (pending : Option (Text × List Text)) → long_fault s.rules s.args_override_self (arg_by_long s.rules name) text (held rows pending) ≡ [] → ⊥)
  pub short : (x : ℕ) (rest : Text) (rows : List Row) (pending : Option (Text × List Text)) (more : Held → Kinds)
      → short_fault s.rules s.args_override_self (arg_by_short s.rules x) rest (held rows pending) more ≡ [] → ⊥

-- what a word before `--` that is not `--` fails by
flag_fault : (s : Shape) (word : Text) (rows : List Row) (pending : Option (Text × List Text)) → bytes_eq word dashes ≡ false
    → other_fault s None word (held rows pending) ≡ flag_word_fault s.rules s.args_override_self (long_of word) word (held rows pending)
flag_fault s word rows pending e =
    ap (λ b. if b then [] else flag_word_fault s.rules s.args_override_self (long_of word) word (held rows pending)) e

-- the words of one hyphen
of_flags : (s : Shape) (word flags : Text) (n : ℕ) (x : Option ℕ) → HasFlags s → bytes_eq word dashes ≡ false → long_of word ≡ None → short_of word ≡ Some flags
    → length flags ≡ n → slice_get (chars flags) 0 ≡ x → Class s word
unfolding flags_fault bundle_met
of_flags s word flags zero x has e f g m o = is_value (record {
  no_dashes = e;
  passes = λ rows pending. flag_fault s word rows pending e
      ∙ ap (λ p. flag_word_fault s.rules s.args_override_self p word (held rows pending)) f
      ∙ ap (λ p. option_map_or (λ r. flags_fault s.rules s.args_override_self (length r) r 0 (held rows pending)) p []) g
      ∙ ap (λ k. flags_fault s.rules s.args_override_self k flags 0 (held rows pending)) m;
  met = λ rows pending waiting. ap (λ p. long_or_other s.rules waiting word p (held rows pending)) f
      ∙ ap (λ p. short_or_plain s.rules waiting word p (held rows pending)) g
      ∙ ap (λ k. after_flag s.rules waiting word (bundle_met s.rules k flags 0 plain (held rows pending)).0 (bundle_met s.rules k flags 0 plain (held rows pending)).1) m;
})
of_flags s word flags (suc n) None has e f g m o = is_value (record {
  no_dashes = e;
  passes = λ rows pending. flag_fault s word rows pending e
      ∙ ap (λ p. flag_word_fault s.rules s.args_override_self p word (held rows pending)) f
      ∙ ap (λ p. option_map_or (λ r. flags_fault s.rules s.args_override_self (length r) r 0 (held rows pending)) p []) g
      ∙ ap (λ k. flags_fault s.rules s.args_override_self k flags 0 (held rows pending)) m
      ∙ rw o;
  met = λ rows pending waiting. ap (λ p. long_or_other s.rules waiting word p (held rows pending)) f
      ∙ ap (λ p. short_or_plain s.rules waiting word p (held rows pending)) g
      ∙ ap (λ k. after_flag s.rules waiting word (bundle_met s.rules k flags 0 plain (held rows pending)).0 (bundle_met s.rules k flags 0 plain (held rows pending)).1) m
      ∙ rw o;
})
of_flags s word flags (suc n) (Some x) has e f g m o = is_refused (record {
  fails = λ rows pending h.
      let all : other_fault s None word (held rows pending) ≡ flags_fault s.rules s.args_override_self (suc n) flags 0 (held rows pending) =
      flag_fault s word rows pending e
      ∙ ap (λ p. flag_word_fault s.rules s.args_override_self p word (held rows pending)) f
      ∙ ap (λ p. option_map_or (λ r. flags_fault s.rules s.args_override_self (length r) r 0 (held rows pending)) p []) g
      ∙ ap (λ k. flags_fault s.rules s.args_override_self k flags 0 (held rows pending)) m in
      has.short x _ rows pending _ (rw o at (sym all ∙ h));
})

of_short : (s : Shape) (word : Text) (flags : Option Text) → HasFlags s → bytes_eq word dashes ≡ false → long_of word ≡ None → short_of word ≡ flags → Class s word
of_short s word None has e f g = is_value (record {
  no_dashes = e;
  passes = λ rows pending. flag_fault s word rows pending e
      ∙ ap (λ p. flag_word_fault s.rules s.args_override_self p word (held rows pending)) f
      ∙ ap (λ p. option_map_or (λ r. flags_fault s.rules s.args_override_self (length r) r 0 (held rows pending)) p []) g;
  met = λ rows pending waiting. ap (λ p. long_or_other s.rules waiting word p (held rows pending)) f
      ∙ ap (λ p. short_or_plain s.rules waiting word p (held rows pending)) g;
})
of_short s word (Some flags) has e f g = of_flags s word flags (length flags) (slice_get (chars flags) 0) has e f g refl refl

long_is : (s : Shape) (word name : Text) (text : Option Text) → bytes_eq word dashes ≡ false → long_of word ≡ Some (name, text)
    → (name ≡ codes "workers")
    ⊎ ((rows : List Row) (pending : Option (Text × List Text)) → long_fault s.rules s.args_override_self (arg_by_long s.rules name) text (held rows pending) ≡ [] → ⊥)
    → Class s word
long_is s word name text e f (inl same) = is_workers text (long_word word name text f ∙ ap (λ n. long_word_of n text) same)
long_is s word name text e f (inr fails) = is_refused (record {
  fails = λ rows pending h. fails rows pending
      (sym (flag_fault s word rows pending e ∙ ap (λ p. flag_word_fault s.rules s.args_override_self p word (held rows pending)) f) ∙ h);
})

of_long : (s : Shape) (word : Text) (flag : Option (Text × Option Text)) → HasFlags s → bytes_eq word dashes ≡ false → long_of word ≡ flag → Class s word
of_long s word None has e f = of_short s word (short_of word) has e f refl
of_long s word (Some p) has e f = long_is s word p.0 p.1 e f (has.long p.0 p.1)

of_dashes : (s : Shape) (word : Text) (is : Bool) → HasFlags s → bytes_eq word dashes ≡ is → Class s word
of_dashes s word true has e = is_end ((bytes_eq-Decides word dashes).0 e)
of_dashes s word false has e = of_long s word (long_of word) has e refl

-- each word is one of these
pub class_of : (s : Shape) (word : Text) → HasFlags s → Class s word
class_of s word has = of_dashes s word (bytes_eq word dashes) has refl
