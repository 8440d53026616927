-- What `read_of` gives is what bytes read to.
use Rattle.std.proofs.Common.{◌≡◌, ℕ, ◌+◌, ◌<◌, ◌≤◌, Bool, true, false, cond, List, [], ◌∷◌, ◌++◌, length, drop, Option, Some, None, Err, refl, ap, ◌∙◌, sym, subst, arith}
use Rattle.std.specs.Prelude.{◌==◌, ◌&&◌, nat_lt}
use Rattle.mail_names.specs.Lines.{Lines, lines_of, onto}
use Rattle.mail_message.specs.Lines.{ended_all, crlf_from, has_crlf, goes_on, Cuts}
use Rattle.mail_message.specs.Message.{Reads}
use Rattle.mail_message.specs.Reading.{with_line}
use Rattle.mail_message.specs.Faults.{most_octets, Reading}
use Rattle.mail_message.specs.ReadOf.{read_from, read_of}
use Rattle.mail_message.specs.declared.fault.MessageFault.TheVariants as faults
use Rattle.mail_message.proofs.Cut.{or_false, none}
use Rattle.mail_message.proofs.Beginning.{Begins, begins, goes, reads, ends, breaks, cut_at}

abbrev cased : Bool → ℕ → List ℕ → List ℕ → Lines
cased t b rest bs = cond t (record { lines = [] ∷ (lines_of bs).lines; left = (lines_of bs).left }) (onto b (lines_of rest).lines (lines_of rest).left)

-- a text with no CR LF is no line
whole : (t : List ℕ) → has_crlf t ≡ false → lines_of t ≡ record { lines = []; left = t }
unfolding lines_of
whole [] h = refl
whole (b ∷ []) h = refl
whole (b ∷ c ∷ bs) h =
    let parts = or_false (b == 13 && c == 10) (has_crlf (c ∷ bs)) h in
    ap (λ t. cased t b (c ∷ bs) bs) parts.0 ∙ ap (λ (p : Lines). onto b p.lines p.left) (whole (c ∷ bs) parts.1)

-- a line, its end and a text
split : (line back : List ℕ) → has_crlf line ≡ false → lines_of (line ++ 13 ∷ 10 ∷ back) ≡ record { lines = line ∷ (lines_of back).lines; left = (lines_of back).left }
unfolding lines_of
split [] back h = refl
split (b ∷ []) back h = ap (λ t. cased t b (13 ∷ 10 ∷ back) (10 ∷ back)) (no_end b)
  where
    no_end : (b : ℕ) → (b == 13 && 13 == 10) ≡ false
    no_end b = grind arith
split (b ∷ c ∷ bs) back h =
    let parts = or_false (b == 13 && c == 10) (has_crlf (c ∷ bs)) h in
    ap (λ t. cased t b (c ∷ bs ++ 13 ∷ 10 ∷ back) (bs ++ 13 ∷ 10 ∷ back)) parts.0 ∙ ap (λ (p : Lines). onto b p.lines p.left) (split (c ∷ bs) back parts.1)

onto-joins : (b : ℕ) (lines : List (List ℕ)) (left : List ℕ) → ended_all (onto b lines left).lines ++ (onto b lines left).left ≡ b ∷ (ended_all lines ++ left)
onto-joins b [] left = refl
onto-joins b (line ∷ lines) left = refl

crlf_is : (b c : ℕ) → (b == 13 && c == 10) ≡ true → (b ≡ 13) × (c ≡ 10)
crlf_is b c h = grind arith

by_test : (t : Bool) (b c : ℕ) (bs : List ℕ) → (t ≡ true → (b ≡ 13) × (c ≡ 10))
    → ended_all (lines_of bs).lines ++ (lines_of bs).left ≡ bs
    → ended_all (lines_of (c ∷ bs)).lines ++ (lines_of (c ∷ bs)).left ≡ c ∷ bs
    → ended_all (cased t b (c ∷ bs) bs).lines ++ (cased t b (c ∷ bs) bs).left ≡ b ∷ c ∷ bs
by_test true b c bs is p q = let both = is refl in let first = both.0 in let second = both.1 in ap (λ (xs : List ℕ). 13 ∷ 10 ∷ xs) p ∙ cc
by_test false b c bs is p q = onto-joins b (lines_of (c ∷ bs)).lines (lines_of (c ∷ bs)).left ∙ ap (λ (xs : List ℕ). b ∷ xs) q

-- the lines and what is left are the text
pub joins : (t : List ℕ) → ended_all (lines_of t).lines ++ (lines_of t).left ≡ t
unfolding lines_of
joins [] = refl
joins (b ∷ []) = refl
joins (b ∷ c ∷ bs) = by_test (b == 13 && c == 10) b c bs (crlf_is b c) (joins bs) (joins (c ∷ bs))

cons≢nil : (x : List ℕ) (xs : List (List ℕ)) → x ∷ xs ≡ [] → ⊥
cons≢nil x xs e = cc

heads : (a b : List ℕ) (xs ys : List (List ℕ)) → a ∷ xs ≡ b ∷ ys → a ≡ b
heads a b xs ys e = cc

tails : (a b : List ℕ) (xs ys : List (List ℕ)) → a ∷ xs ≡ b ∷ ys → xs ≡ ys
tails a b xs ys e = cc

-- a text's first line, and what stands behind its end
record First (rest line : List ℕ) (lines : List (List ℕ)) : Type 0 where
  back : List ℕ
  cut : Cuts rest line back
  more : (lines_of back).lines ≡ lines
  left : (lines_of back).left ≡ (lines_of rest).left

cut_lines : (rest line back : List ℕ) → Cuts rest line back → lines_of rest ≡ record { lines = line ∷ (lines_of back).lines; left = (lines_of back).left }
cut_lines rest line back cut = ap lines_of cut.1 ∙ split line back cut.0

no_lines : (rest : List ℕ) → (lines_of rest).lines ≡ [] → has_crlf rest ≡ false
no_lines rest same = by_place (crlf_from 0 rest) refl
  where
    by_place : (o : Option ℕ) → crlf_from 0 rest ≡ o → has_crlf rest ≡ false
    by_place None e = none 0 rest e
    by_place (Some at) e =
        let cut = cut_at rest at e in
        absurd (cons≢nil _ _ (sym (ap (λ (p : Lines). p.lines) (cut_lines rest _ _ cut)) ∙ same))

first_line : (rest line : List ℕ) (lines : List (List ℕ)) → (lines_of rest).lines ≡ line ∷ lines → First rest line lines
first_line rest line lines same = by_place (crlf_from 0 rest) refl
  where
    along : (rest found back line : List ℕ) → Cuts rest found back → found ≡ line → Cuts rest line back
    along rest found back line cut e = subst (λ (x : List ℕ). Cuts rest x back) e cut

    by_place : (o : Option ℕ) → crlf_from 0 rest ≡ o → First rest line lines
    by_place None e = absurd (cons≢nil line lines (sym same ∙ ap (λ (p : Lines). p.lines) (whole rest (none 0 rest e))))
    by_place (Some at) e =
        let cut = cut_at rest at e in
        let parts = cut_lines rest _ _ cut in
        let both = sym (ap (λ (p : Lines). p.lines) parts) ∙ same in
        record {
          back = drop (at + 2) rest;
          cut = along rest _ _ line cut (heads _ _ _ _ both);
          more = tails _ _ _ _ both;
          left = sym (ap (λ (p : Lines). p.left) parts);
        }

abbrev at_test : List ℕ → List (List ℕ) → ℕ → List ℕ → List (List ℕ) → List ℕ → Bool → Type 0
at_test bytes raws count line lines left t = Reading bytes (cond t (read_from (count + 1) (with_line raws line) lines left) (Err (faults.BadField count)))

by_line : (bytes : List ℕ) (raws : List (List ℕ)) (count : ℕ) (line : List ℕ) (lines : List (List ℕ)) (left : List ℕ) (t : Bool) →
    (t ≡ true → Reading bytes (read_from (count + 1) (with_line raws line) lines left)) → (t ≡ false → Reading bytes (Err (faults.BadField count))) →
    at_test bytes raws count line lines left t
by_line bytes raws count line lines left true on off = on refl
by_line bytes raws count line lines left false on off = off refl

-- the header is read on, behind what was read of it
reading_from : (bytes : List ℕ) (raws : List (List ℕ)) (count : ℕ) (rest : List ℕ) (lines : List (List ℕ)) (left : List ℕ) →
    length bytes ≤ most_octets → Begins bytes raws count rest → (lines_of rest).lines ≡ lines → (lines_of rest).left ≡ left →
    Reading bytes (read_from count raws lines left)
reading_from bytes raws count rest [] left small begun same behind = (small, ends bytes raws count rest begun (no_lines rest same))
reading_from bytes raws count rest ([] ∷ lines) left small begun same behind =
    let f = first_line rest [] lines same in
    let body : f.back ≡ ended_all lines ++ left = sym (joins f.back) ∙ ap (λ (x : List (List ℕ)). ended_all x ++ (lines_of f.back).left) f.more ∙ ap (λ (x : List ℕ). ended_all lines ++ x) (f.left ∙ behind) in
    (small, subst (λ (x : List ℕ). Reads bytes (record { fields = raws; body = x })) body (reads bytes raws count rest [] f.back begun f.cut refl))
reading_from bytes raws count rest ((b ∷ line) ∷ lines) left small begun same behind =
    let f = first_line rest (b ∷ line) lines same in
    by_line bytes raws count (b ∷ line) lines left (goes_on (nat_lt 0 count) (b ∷ line))
    (λ e. reading_from bytes (with_line raws (b ∷ line)) (count + 1) f.back lines left small (goes bytes raws count rest (b ∷ line) f.back begun f.cut e) f.more (f.left ∙ behind))
    (λ e. (small, breaks bytes raws count rest (b ∷ line) f.back begun f.cut (omega arith) e))

by_size : (bytes : List ℕ) (t : Bool) → nat_lt most_octets (length bytes) ≡ t →
    Reading bytes (cond t (Err faults.TooLarge) (read_from 0 [] (lines_of bytes).lines (lines_of bytes).left))
by_size bytes true e = above e
  where
    above : nat_lt most_octets (length bytes) ≡ true → most_octets < length bytes
    above e = grind arith
by_size bytes false e = reading_from bytes [] 0 bytes (lines_of bytes).lines (lines_of bytes).left (below e) (begins bytes) refl refl
  where
    below : nat_lt most_octets (length bytes) ≡ false → length bytes ≤ most_octets
    below e = grind arith

-- what is given is what the bytes read to
pub reading_of : (bytes : List ℕ) → Reading bytes (read_of bytes)
unfolding read_of
reading_of bytes = by_size bytes (nat_lt most_octets (length bytes)) refl
