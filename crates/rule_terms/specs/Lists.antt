-- Reading the items of an array in order, up to the first that can't be read.
use Rattle.std.specs.Prelude.{ℕ, ◌+◌, List, [], ◌∷◌, Option, Some, None, Result, Ok, Err}
use Rattle.toml.specs.Data.{Data, Items, no_items, item}
use Rattle.rule_terms.specs.declared.flaw.Flaw.{Flaw}
use Rattle.rule_terms.specs.declared.flaw.Flaw.TheVariants as flaws

-- What is no value of its kind is bad.
abbrev pub or_bad : {X : Type 0} → Option X → Result X Flaw
or_bad None = Err flaws.Bad
or_bad (Some x) = Ok x

-- what is made of a value that was read
abbrev pub made : {X Y E : Type 0} → (X → Y) → Result X E → Result Y E
made f (Ok x) = Ok (f x)
made f (Err e) = Err e

-- the rest, where there was no flaw
abbrev pub and_then : {X Y E : Type 0} → Result X E → (X → Result Y E) → Result Y E
and_then (Ok x) more = more x
and_then (Err e) more = Err e

-- one value before the others, or the first flaw
abbrev pub both : {X E : Type 0} → Result X E → Result (List X) E → Result (List X) E
both (Ok x) (Ok xs) = Ok (x ∷ xs)
both (Ok x) (Err e) = Err e
both (Err e) others = Err e

-- what the items read to, or the first flaw
abbrev pub each : {X E : Type 0} → (Data → Result X E) → Items → Result (List X) E
each read no_items = Ok []
each read (item d ds) = both (read d) (each read ds)

-- the same where each is read with its number, from n on
abbrev pub each_from : {X E : Type 0} → (ℕ → Data → Result X E) → ℕ → Items → Result (List X) E
each_from read n no_items = Ok []
each_from read n (item d ds) = both (read n d) (each_from read (n + 1) ds)

-- how many items there are
abbrev pub count : Items → ℕ
count no_items = 0
count (item d ds) = count ds + 1
