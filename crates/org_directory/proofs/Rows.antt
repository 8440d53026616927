-- The records of a text, one at a time: each takes a byte.
use Rattle.std.specs.Prelude.{◌≡◌, ◌<◌, ◌≤◌, ◌+◌, ◌==◌, ℕ, zero, suc, Bool, true, false, if◌then◌else◌, List, [], ◌∷◌, ◌++◌, length, Some, None, refl}
use Rattle.std.proofs.Common.{sym, ◌∙◌, ap, subst, arith}
use Rattle.csv.specs.declared.parser.Action.{Action}
use Rattle.csv.specs.declared.parser.State.{State}
use Rattle.csv.specs.Machine.{Read, ends_at_end, ends_with, in_field, is_end, next_record, start_field, start_record, step, fields_after, field_after}
use Rattle.csv.specs.Reading.{Reached, default_config, records_from, records_next}
use Rattle.csv.specs.declared.parser.State.TheVariants as st
use Rattle.csv.specs.declared.parser.Action.TheVariants as act

-- what a step that ends a record leaves is between records
abbrev pub EndsWell : State × Action → Type 0
EndsWell x = is_end x.1 ≡ true → ends_at_end x.0 ≡ false

pick : (b : Bool) (u v : State × Action) → EndsWell u → EndsWell v → EndsWell (if b then u else v)
pick true u v f g = f
pick false u v f g = g

off : (s : State) (a : Action) → is_end a ≡ false → EndsWell (s, a)
off s a e h = absurd (cc (e, h))

after : (b : Bool) → ends_at_end (if b then st.AfterCr else st.StartRecord) ≡ false
after true = refl
after false = refl

in-field-ends : (c : ℕ) → EndsWell (in_field default_config c)
in-field-ends c =
    pick (c == 44) (st.StartField, act.EndField) _ (off st.StartField act.EndField refl)
    (pick (ends_with default_config.terminator c) _ (st.InField, act.Copy) (λ h. after (c == 13)) (off st.InField act.Copy refl))

start-field-ends : (c : ℕ) → EndsWell (start_field default_config c)
start-field-ends c = pick (c == 34) (st.InQuoted, act.Skip) (in_field default_config c) (off st.InQuoted act.Skip refl) (in-field-ends c)

start-record-ends : (c : ℕ) → EndsWell (start_record default_config c)
start-record-ends c = pick (ends_with default_config.terminator c) (st.StartRecord, act.Skip) (start_field default_config c) (off st.StartRecord act.Skip refl) (start-field-ends c)

step-ends : (s : State) (c : ℕ) → EndsWell (step default_config s c)
step-ends st.StartRecord c = start-record-ends c
step-ends st.StartField c = start-field-ends c
step-ends st.InField c = in-field-ends c
step-ends st.InQuoted c = pick (c == 34) (st.AfterQuote, act.Skip) (st.InQuoted, act.Copy) (off st.AfterQuote act.Skip refl) (off st.InQuoted act.Copy refl)
step-ends st.InEscape c = off st.InQuoted act.Copy refl
step-ends st.AfterQuote c = pick (c == 34) (st.InQuoted, act.Copy) (in_field default_config c) (off st.InQuoted act.Copy refl) (in-field-ends c)
step-ends st.InComment c = pick (c == 10) (st.StartRecord, act.Skip) (st.InComment, act.Skip) (off st.StartRecord act.Skip refl) (off st.InComment act.Skip refl)
step-ends st.AfterCr c = pick (c == 10) (st.StartRecord, act.Skip) (start_record default_config c) (off st.StartRecord act.Skip refl) (start-record-ends c)

-- a record was taken from these bytes
pub record Took (s : State) (xs : List ℕ) (p : Read) : Type 0 where
  pub between : ends_at_end p.1 ≡ false
  pub less : length p.2 ≤ length xs
  pub shorter : ends_at_end s ≡ false → length p.2 < length xs

took : (s : State) (fields : List (List ℕ)) (field xs : List ℕ) (p : Read) → next_record default_config s fields field xs ≡ Some p → Took s xs p
unfolding next_record
took s fields field [] p h = at_end (ends_at_end s) refl h
  where
    at_end : (b : Bool) → ends_at_end s ≡ b → (if b then Some (fields ++ field ∷ [], st.StartRecord, []) else None) ≡ Some p → Took s [] p
    at_end true e h =
        let is : (fields ++ field ∷ [], st.StartRecord, []) ≡ p = cc h in
        subst (Took s []) is (record { between = refl; less = omega arith; shorter = λ o. absurd (cc (e, o)) })
    at_end false e h = absurd (cc h)
took s fields field (c ∷ rest) p h = at_byte (λ h. took (step default_config s c).0 (fields_after (step default_config s c).1 fields field) (field_after (step default_config s c).1 c field) rest p h)
    (is_end (step default_config s c).1) refl h
  where
    longer : Took (step default_config s c).0 rest p → Took s (c ∷ rest) p
    longer t = record { between = t.between; less = omega (arith, t.less); shorter = λ o. omega (arith, t.less) }

    at_byte : (next_record default_config (step default_config s c).0 (fields_after (step default_config s c).1 fields field) (field_after (step default_config s c).1 c field) rest ≡ Some p
        → Took (step default_config s c).0 rest p) → (b : Bool) → is_end (step default_config s c).1 ≡ b
        → (if b then Some (fields_after (step default_config s c).1 fields field, (step default_config s c).0, rest)
        else next_record default_config (step default_config s c).0 (fields_after (step default_config s c).1 fields field) (field_after (step default_config s c).1 c field) rest) ≡ Some p
        → Took s (c ∷ rest) p
    at_byte again true e h =
        let is : (fields_after (step default_config s c).1 fields field, (step default_config s c).0, rest) ≡ p = cc h in
        subst (Took s (c ∷ rest)) is (record { between = step-ends s c e; less = omega arith; shorter = λ o. omega arith })
    at_byte again false e h = longer (again h)

-- the rest of the records
pub record Left (s : State) (y : List ℕ) (rows : List (List (List ℕ))) : Type 0 where
  pub room : ℕ
  pub enough : length y < room
  pub between : ends_at_end s ≡ false
  pub is : rows ≡ records_from default_config room s y

pub left-all : (y : List ℕ) → Left st.StartRecord y (records_from default_config (length y + 1) st.StartRecord y)
left-all y = record { room = length y + 1; enough = omega arith; between = refl; is = refl }

pub left-more : (s s2 : State) (y z : List ℕ) (f : List (List ℕ)) (rows : List (List (List ℕ))) → Left s y rows
    → Reached default_config s y (f ∷ []) s2 z → (later : List (List (List ℕ))) × (rows ≡ f ∷ later) × Left s2 z later
unfolding Reached records_from
left-more s s2 y z f rows l r = at l.room l.enough l.is
  where
    t : Took s y r.0
    t = took s [] [] y r.0 r.1

    at : (n : ℕ) → length y < n → rows ≡ records_from default_config n s y → (later : List (List (List ℕ))) × (rows ≡ f ∷ later) × Left s2 z later
    at zero h is = absurd (omega (arith, h))
    at (suc n) h is = (
      records_from default_config n s2 z,
      is ∙ (ap (records_next (records_from default_config n)) r.1
          ∙ (ap (λ g. g ∷ records_from default_config n r.0.1 r.0.2) (sym r.2)
          ∙ (ap (λ q. f ∷ records_from default_config n q r.0.2) r.3.0 ∙ ap (λ w. f ∷ records_from default_config n s2 w) r.3.1))),
      record {
        room = n;
        enough = let less : length r.0.2 < length y = t.shorter l.between in subst (λ w. length w < n) r.3.1 (omega (arith, less, h));
        between = subst (λ q. ends_at_end q ≡ false) r.3.0 t.between;
        is = refl;
      },
    )

pub left-none : (s : State) (y : List ℕ) (rows : List (List (List ℕ))) → Left s y rows → next_record default_config s [] [] y ≡ None → rows ≡ []
unfolding records_from
left-none s y rows l none = at l.room l.is
  where
    at : (n : ℕ) → rows ≡ records_from default_config n s y → rows ≡ []
    at zero is = is
    at (suc n) is = is ∙ ap (records_next (records_from default_config n)) none
