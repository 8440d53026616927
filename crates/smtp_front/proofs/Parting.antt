-- Words between spaces.
use Rattle.std.proofs.Common.{◌≡◌, ℕ, zero, suc, ◌+◌, ◌<◌, ◌≤◌, Bool, true, false, cond, eqb, List, [], ◌∷◌, length, take, drop, get_or, refl, ap, ◌∙◌, sym, arith, Option, Some, None, min, ◌*◌, ◌-◌, ◌^◌}
use Rattle.std.specs.Prelude.{not}
use Rattle.std.specs.List.{before_first, position_or_len}
use Rattle.std.proofs.lemmas.List.{take_more, length-drop}
use Rattle.std.proofs.lemmas.Bool.{eqb-true, false≢true}
use Rattle.std.proofs.lemmas.List.Sums.{fold-append}
use Rattle.smtp_front.specs.declared.reply.Line.{Line}
use Rattle.smtp_front.specs.declared.reply.Line.TheVariants as lines
use Rattle.smtp_front.specs.Commands.{is_byte, unspaced, is_apart}
use Rattle.smtp_front.specs.Parameters.{onto_first, words_of, number_of, any_refusal, first_refusal, parameter_refusal, or_refusal}

-- The text is empty or begins with another octet than a space.
abbrev pub Starts : List ℕ → Type 0
Starts [] = Unit {0}
Starts (b ∷ bs) = eqb b 32 ≡ false

spaces : (t : Bool) (b : ℕ) (bs : List ℕ) → eqb b 32 ≡ t → words_of (unspaced bs) ≡ words_of bs → words_of (cond t (unspaced bs) (b ∷ bs)) ≡ words_of (b ∷ bs)
spaces true b bs e h = h ∙ sym (ap (λ (t : Bool). cond t (words_of bs) (cond (is_apart bs) ((b ∷ []) ∷ words_of bs) (onto_first b (words_of bs)))) e)
spaces false b bs e h = refl

pub words_of-unspaced : (text : List ℕ) → words_of (unspaced text) ≡ words_of text
words_of-unspaced [] = refl
words_of-unspaced (b ∷ bs) = spaces (eqb b 32) b bs refl (words_of-unspaced bs)

begins : (t : Bool) (b : ℕ) (bs : List ℕ) → eqb b 32 ≡ t → Starts (unspaced bs) → Starts (cond t (unspaced bs) (b ∷ bs))
begins true b bs e h = h
begins false b bs e h = e

pub Starts-unspaced : (text : List ℕ) → Starts (unspaced text)
Starts-unspaced [] = tt
Starts-unspaced (b ∷ bs) = begins (eqb b 32) b bs refl (Starts-unspaced bs)

shrinks : (t : Bool) (b : ℕ) (bs : List ℕ) → length (unspaced bs) ≤ length bs → length (cond t (unspaced bs) (b ∷ bs)) ≤ length (b ∷ bs)
shrinks true b bs h = omega (arith, h)
shrinks false b bs h = omega arith

pub length-unspaced : (text : List ℕ) → length (unspaced text) ≤ length text
length-unspaced [] = omega arith
length-unspaced (b ∷ bs) = shrinks (eqb b 32) b bs (length-unspaced bs)

before-cons : (b : ℕ) (bs : List ℕ) → eqb b 32 ≡ false → before_first (is_byte 32) (b ∷ bs) ≡ b ∷ before_first (is_byte 32) bs
before-cons b bs e =
    let n = position_or_len (is_byte 32) bs in
    let one : 1 + n ≡ suc n = omega arith in
    ap (λ (t : Bool). take (cond (not t) (1 + n) 0) (b ∷ bs)) e ∙ ap (λ k. take k (b ∷ bs)) one

no-before : (c : ℕ) (cs : List ℕ) → eqb c 32 ≡ true → before_first (is_byte 32) (c ∷ cs) ≡ []
no-before c cs e = ap (λ (t : Bool). take (cond (not t) (1 + position_or_len (is_byte 32) cs) 0) (c ∷ cs)) e

begun : (b : ℕ) (bs : List ℕ) → eqb b 32 ≡ false → words_of (b ∷ bs) ≡ cond (is_apart bs) ((b ∷ []) ∷ words_of bs) (onto_first b (words_of bs))
begun b bs e = ap (λ (t : Bool). cond t (words_of bs) (cond (is_apart bs) ((b ∷ []) ∷ words_of bs) (onto_first b (words_of bs)))) e

-- the words behind the first of a text
abbrev pub words_behind : List ℕ → List ℕ → List (List ℕ)
words_behind text word = word ∷ words_of (drop (length word) text)

second : (t : Bool) (b c : ℕ) (cs : List ℕ) → eqb c 32 ≡ t → (t ≡ false → words_of (c ∷ cs) ≡ words_behind (c ∷ cs) (before_first (is_byte 32) (c ∷ cs))) →
    cond t ((b ∷ []) ∷ words_of (c ∷ cs)) (onto_first b (words_of (c ∷ cs))) ≡ words_behind (b ∷ c ∷ cs) (b ∷ before_first (is_byte 32) (c ∷ cs))
second true b c cs e h = sym (ap (λ (w : List ℕ). words_behind (b ∷ c ∷ cs) (b ∷ w)) (no-before c cs e))
second false b c cs e h = ap (onto_first b) (h refl)

-- The first word is what stands before the first space.
pub words_of-first : (b : ℕ) (bs : List ℕ) → eqb b 32 ≡ false → words_of (b ∷ bs) ≡ words_behind (b ∷ bs) (before_first (is_byte 32) (b ∷ bs))
words_of-first b [] e = begun b [] e ∙ sym (ap (words_behind (b ∷ [])) (before-cons b [] e))
words_of-first b (c ∷ cs) e =
    begun b (c ∷ cs) e ∙ second (eqb c 32) b c cs refl (λ f. words_of-first c cs f)
    ∙ sym (ap (words_behind (b ∷ c ∷ cs)) (before-cons b (c ∷ cs) e))

pub first-word : (text : List ℕ) → Starts text → 0 < length text → words_of text ≡ words_behind text (before_first (is_byte 32) text)
first-word [] starts some = absurd (omega (arith, some))
first-word (b ∷ bs) starts some = words_of-first b bs starts

pub word-some : (text : List ℕ) → Starts text → 0 < length text → 0 < length (before_first (is_byte 32) text)
word-some [] starts some = absurd (omega (arith, some))
word-some (b ∷ bs) starts some = omega (arith, ap length (before-cons b bs starts))

some-tested : (n : ℕ) → eqb n 0 ≡ false → 0 < n
some-tested zero e = absurd (false≢true (sym e))
some-tested (suc n) e = omega arith

pub some-length : (text : List ℕ) → eqb (length text) 0 ≡ false → 0 < length text
some-length text e = some-tested (length text) e

pub none-length : (text : List ℕ) → eqb (length text) 0 ≡ true → length text ≤ 0
none-length text e = omega (arith, eqb-true (length text) 0 e)

pub any-some : (text : List ℕ) → Starts text → 0 < length text → any_refusal (words_of text) ≡ Some lines.UnknownParameter
any-some text starts some = ap any_refusal (first-word text starts some)

pub no-words : (text : List ℕ) → length text ≤ 0 → words_of text ≡ []
no-words [] none = refl
no-words (b ∷ bs) none = absurd (omega (arith, none))

pub refusal-here : (text word : List ℕ) (line : Line) → Starts text → 0 < length text → word ≡ before_first (is_byte 32) text → Some line ≡ parameter_refusal word →
    Some line ≡ first_refusal (words_of text)
refusal-here text word line starts some is here =
    ap (λ (r : Option Line). or_refusal r (first_refusal (words_of (drop (length word) text)))) here
    ∙ ap (λ (w : List ℕ). first_refusal (words_behind text w)) is ∙ sym (ap first_refusal (first-word text starts some))

pub refusal-later : (text word : List ℕ) → Starts text → 0 < length text → word ≡ before_first (is_byte 32) text → None ≡ parameter_refusal word →
    first_refusal (words_of (drop (length word) text)) ≡ first_refusal (words_of text)
refusal-later text word starts some is here =
    ap (λ (r : Option Line). or_refusal r (first_refusal (words_of (drop (length word) text)))) here
    ∙ ap (λ (w : List ℕ). first_refusal (words_behind text w)) is ∙ sym (ap first_refusal (first-word text starts some))

pub shorter : (text word : List ℕ) → Starts text → 0 < length text → word ≡ before_first (is_byte 32) text → length (unspaced (drop (length word) text)) < length text
shorter text word starts some is =
    omega (arith, length-unspaced (drop (length word) text), length-drop (length word) text, word-some text starts some, ap length is)

-- numbers

pub number-more : (digits : List ℕ) (i : ℕ) → i < length digits → number_of (take (i + 1) digits) ≡ number_of (take i digits) * 10 + (get_or digits i 0 - 48)
number-more digits i within =
    ap number_of (take_more digits i 0 within) ∙ fold-append (λ n b. n * 10 + (b - 48)) 0 (take i digits) (get_or digits i 0 ∷ [])

pub least : (x digit : ℕ) → min (min (min x (2 ^ 64 - 1) * 10) (2 ^ 64 - 1) + digit) (2 ^ 64 - 1) ≡ min (x * 10 + digit) (2 ^ 64 - 1)
least x digit = omega arith
