-- The first field of a message's text, and the others.
use Rattle.std.proofs.Common.{◌≡◌, ℕ, suc, add-one, ◌+◌, ◌-◌, ◌<◌, ◌≤◌, Bool, true, false, cond, List, [], ◌∷◌, ◌++◌, length, take, drop, get_or, drop-cons, refl, ap, ◌∙◌, sym, subst, arith, append_assoc, append-nil, length-append, zero-add, add-zero}
use Rattle.std.specs.Prelude.{◌&&◌, ◌||◌, ◌==◌, not, map, Ok}
use Rattle.std.proofs.lemmas.List.{take_at, drop_at, take_rest}
use Rattle.std.specs.List.{flat_map}
use Rattle.mail_message.specs.Lines.{crlf, begins_with, ended_all, has_crlf, is_blank, is_name_byte, ends_name, is_header, is_continuation}
use Rattle.mail_message.specs.Message.{Mail, AreContinuations, IsField, AreFields, text, starts_crlf}
use Rattle.mail_message.specs.Faults.{most_octets, Reading}
use Rattle.pickup_box.specs.Header.{alone, ends_field, field_len}

or_false : (a b : Bool) → (a || b) ≡ false → (a ≡ false) × (b ≡ false)
or_false true b h = absurd cc
or_false false b h = (refl, h)

-- No field ends inside a line, and neither where its own end begins.
inside_line : (b : ℕ) (line back : List ℕ) → has_crlf (b ∷ line) ≡ false → ends_field (b ∷ (line ++ 13 ∷ 10 ∷ back)) ≡ false
inside_line b [] back h = grind arith
inside_line b (c ∷ line) back h = not_here b c (not (is_continuation (line ++ 13 ∷ 10 ∷ back))) (or_false (b == 13 && c == 10) (has_crlf (c ∷ line)) h).0
  where
    not_here : (b c : ℕ) (t : Bool) → (b == 13 && c == 10) ≡ false → (b == 13 && (c == 10 && t)) ≡ false
    not_here b c true h = grind arith
    not_here b c false h = grind arith

-- the length of the first field where a line stands at the front, by what follows the line
line-len : (line back : List ℕ) → has_crlf line ≡ false → field_len (line ++ 13 ∷ 10 ∷ back) ≡ length line + field_len (13 ∷ 10 ∷ back)
line-len [] back h = sym (zero-add (field_len (13 ∷ 10 ∷ back)))
line-len (b ∷ line) back h =
    ap (λ t. cond t 2 (field_len (line ++ 13 ∷ 10 ∷ back) + 1)) (inside_line b line back h)
    ∙ ap (λ n. n + 1) (line-len line back (or_false (b == 13 && begins_with 10 line) (has_crlf line) h).1)
    ∙ shifted (length line) (field_len (13 ∷ 10 ∷ back))
  where
    shifted : (m n : ℕ) → m + n + 1 ≡ suc m + n
    shifted m n = omega arith

after_end : (back : List ℕ) → is_continuation back ≡ false → field_len (13 ∷ 10 ∷ back) ≡ 2
after_end back h = ap (λ t. cond (not t) 2 (field_len (10 ∷ back) + 1)) h

after_fold : (back : List ℕ) → is_continuation back ≡ true → field_len (13 ∷ 10 ∷ back) ≡ field_len back + 1 + 1
after_fold back h = ap (λ t. cond (not t) 2 (field_len back + 1 + 1)) h

blank_first : (line back : List ℕ) → is_continuation line ≡ true → is_continuation (line ++ back) ≡ true
blank_first [] back h = absurd cc
blank_first (b ∷ line) back h = h

regroup : (first more rest : List ℕ) → ((first ++ crlf) ++ more) ++ rest ≡ first ++ 13 ∷ 10 ∷ (more ++ rest)
regroup first more rest = ap (λ x. x ++ rest) (append_assoc first crlf more) ∙ append_assoc first (crlf ++ more) rest

size : (first more : List ℕ) → length ((first ++ crlf) ++ more) ≡ length first + 2 + length more
size first more = length-append (first ++ crlf) more ∙ ap (λ n. n + length more) (length-append first crlf)

lines-len : (first : List ℕ) (more : List (List ℕ)) (rest : List ℕ) → has_crlf first ≡ false → AreContinuations more → is_continuation rest ≡ false → field_len (ended_all (first ∷ more) ++ rest) ≡ length (ended_all (first ∷ more))
lines-len first [] rest clean later ends =
    ap field_len (regroup first [] rest)
    ∙ line-len first rest clean
    ∙ ap (λ n. length first + n) (after_end rest ends)
    ∙ sym (add-zero (length first + 2))
    ∙ sym (size first [])
lines-len first (line ∷ more) rest clean later ends =
    let behind = ended_all (line ∷ more) in
    let folds : is_continuation (behind ++ rest) ≡ true = ap is_continuation (regroup line (ended_all more) rest) ∙ blank_first line (13 ∷ 10 ∷ (ended_all more ++ rest)) later.1 in
    let more_len = lines-len line more rest later.0 later.2 ends in
    ap field_len (regroup first behind rest)
    ∙ line-len first (behind ++ rest) clean
    ∙ ap (λ n. length first + n) (after_fold (behind ++ rest) folds)
    ∙ ap (λ n. length first + (n + 1 + 1)) more_len
    ∙ shifted (length first) (length behind)
    ∙ sym (size first behind)
  where
    shifted : (m n : ℕ) → m + (n + 1 + 1) ≡ m + 2 + n
    shifted m n = omega arith

field-len : (raw rest : List ℕ) → IsField raw → is_continuation rest ≡ false → field_len (raw ++ rest) ≡ length raw
field-len raw rest f ends =
    ap (λ x. field_len (x ++ rest)) f.bytes
    ∙ lines-len f.first f.more rest f.line f.later ends
    ∙ ap length (sym f.bytes)

-- bytes that begin with a byte of a name
record Named (bytes : List ℕ) : Type 0 where
  byte : ℕ
  behind : List ℕ
  is_name : is_name_byte byte ≡ true
  is : bytes ≡ byte ∷ behind

named : (line back : List ℕ) → is_header line ≡ true → Named (line ++ back)
named [] back h = absurd cc
named (b ∷ line) back h = record { byte = b; behind = line ++ back; is_name = left_of (is_name_byte b) (ends_name true line) h; is = refl }
  where
    left_of : (a b : Bool) → (a && b) ≡ true → a ≡ true
    left_of true b h = refl
    left_of false b h = absurd cc

field_named : (raw rest : List ℕ) → IsField raw → Named (raw ++ rest)
field_named raw rest f =
    subst Named (sym (ap (λ x. x ++ rest) f.bytes ∙ regroup f.first (ended_all f.more) rest)) (named f.first (13 ∷ 10 ∷ (ended_all f.more ++ rest)) f.header)

no_blank : (bytes : List ℕ) → Named bytes → is_continuation bytes ≡ false
no_blank bytes n = ap is_continuation n.is ∙ visible n.byte n.is_name
  where
    visible : (b : ℕ) → is_name_byte b ≡ true → is_blank b ≡ false
    visible b h = grind arith

no_end : (bytes : List ℕ) → Named bytes → starts_crlf bytes ≡ false
no_end bytes n = ap starts_crlf n.is ∙ visible n.byte (begins_with 10 n.behind) n.is_name
  where
    visible : (b : ℕ) (t : Bool) → is_name_byte b ≡ true → (b == 13 && t) ≡ false
    visible b t h = grind arith

pub one_more : (bytes : List ℕ) (i : ℕ) → i < length bytes → ends_field (take (length bytes - i) (drop i bytes)) ≡ false → i + field_len (drop i bytes) ≡ field_len bytes → i + 1 + field_len (drop (i + 1) bytes) ≡ field_len bytes
one_more bytes i lt h e =
    let split : drop i bytes ≡ get_or bytes i 0 ∷ drop (i + 1) bytes = rw add-one (drop-cons bytes i 0 lt) in
    let here : ends_field (get_or bytes i 0 ∷ drop (i + 1) bytes) ≡ false = sym (ap ends_field (take_rest bytes i ∙ split)) ∙ h in
    let longer : field_len (drop i bytes) ≡ field_len (drop (i + 1) bytes) + 1 = ap field_len split ∙ ap (λ t. cond t 2 (field_len (drop (i + 1) bytes) + 1)) here in
    omega arith

pub reads_alone : (raw bytes : List ℕ) → IsField raw → length raw + 2 ≤ most_octets → bytes ≡ raw ++ crlf → Reading bytes (Ok (alone raw))
reads_alone raw bytes f short e = (
  (let n = ap length e ∙ length-append raw crlf in omega arith),
  ((f, tt), e ∙ ap (λ x. x ++ crlf) (sym (append-nil raw))),
)

abbrev mail : List (List ℕ) → List ℕ → Mail
mail raws body = record { fields = raws; body = body }

-- what is left of a message's text behind the fields that are done
pub record Left (m : Mail) (done : List Mail) (rest : List ℕ) : Type 0 where
  pub raws : List (List ℕ)
  pub fields : AreFields raws
  pub same : done ++ map alone raws ≡ map alone m.fields
  pub is : rest ≡ text (mail raws m.body)
  pub short : length rest ≤ most_octets

pub begins : (m : Mail) (bytes : List ℕ) → AreFields m.fields → bytes ≡ text m → length (text m) ≤ most_octets → Left m [] bytes
begins m bytes f e short = record { raws = m.fields; fields = f; same = refl; is = e; short = (let n = ap length e in omega arith) }

text_first : (raw : List ℕ) (raws : List (List ℕ)) (body : List ℕ) → text (mail (raw ∷ raws) body) ≡ raw ++ text (mail raws body)
text_first raw raws body = append_assoc raw (flat_map (λ r. r) raws) (crlf ++ body)

no_blank_left : (raws : List (List ℕ)) (body : List ℕ) → AreFields raws → is_continuation (text (mail raws body)) ≡ false
no_blank_left [] body f = refl
no_blank_left (raw ∷ raws) body f = ap is_continuation (text_first raw raws body) ∙ no_blank (raw ++ text (mail raws body)) (field_named raw (text (mail raws body)) f.0)

pub finished : (m : Mail) (done : List Mail) (rest : List ℕ) → Left m done rest → starts_crlf rest ≡ true → done ≡ map alone m.fields
finished m done rest left h = by_raws left.raws left.fields left.same left.is
  where
    by_raws : (raws : List (List ℕ)) → AreFields raws → done ++ map alone raws ≡ map alone m.fields → rest ≡ text (mail raws m.body) → done ≡ map alone m.fields
    by_raws [] f same e = sym (append-nil done) ∙ same
    by_raws (raw ∷ raws) f same e =
        let other : starts_crlf rest ≡ false = ap starts_crlf (e ∙ text_first raw raws m.body) ∙ no_end (raw ++ text (mail raws m.body)) (field_named raw (text (mail raws m.body)) f.0) in
        absurd (let both = sym h ∙ other in cc)

-- a field is at the front of what is left
pub record Goes (m : Mail) (done : List Mail) (rest : List ℕ) (n : ℕ) : Type 0 where
  pub field : IsField (take n rest)
  pub short : length (take n rest) + 2 ≤ most_octets
  pub shorter : length (take (length rest - n) (drop n rest)) < length rest
  pub left : Left m (done ++ alone (take n rest) ∷ []) (take (length rest - n) (drop n rest))

ends_long : (raws : List (List ℕ)) (body : List ℕ) → 2 ≤ length (text (mail raws body))
ends_long raws body =
    let l = length-append (flat_map (λ r. r) raws) (crlf ++ body) in
    let k = length-append crlf body in
    omega arith

field_long : (raw : List ℕ) → IsField raw → 0 < length raw
field_long raw f =
    let l = ap length f.bytes ∙ size f.first (ended_all f.more) in
    omega arith

pub goes : (m : Mail) (done : List Mail) (rest : List ℕ) (n : ℕ) → Left m done rest → starts_crlf rest ≡ false → n ≡ field_len rest → Goes m done rest n
goes m done rest n left h en = by_raws left.raws left.fields left.same left.is
  where
    by_raws : (raws : List (List ℕ)) → AreFields raws → done ++ map alone raws ≡ map alone m.fields → rest ≡ text (mail raws m.body) → Goes m done rest n
    by_raws [] f same e = absurd (let no = sym h ∙ ap starts_crlf e in cc)
    by_raws (raw ∷ raws) f same e =
        let behind = text (mail raws m.body) in
        let split : rest ≡ raw ++ behind = e ∙ text_first raw raws m.body in
        let long : length raw ≡ n = sym (en ∙ ap field_len split ∙ field-len raw behind f.0 (no_blank_left raws m.body f.1)) in
        let first : take n rest ≡ raw = ap (take n) split ∙ take_at raw behind n long in
        let others : take (length rest - n) (drop n rest) ≡ behind = take_rest rest n ∙ ap (drop n) split ∙ drop_at raw behind n long in
        let whole = left.short in
        let lengths = ap length split ∙ length-append raw behind in
        let ending = ends_long raws m.body in
        let begun = field_long raw f.0 in
        record {
          field = subst IsField (sym first) f.0;
          short = (let l = ap length first in omega arith);
          shorter = (let l = ap length others in omega arith);
          left = record {
            raws = raws;
            fields = f.1;
            same = append_assoc done (alone (take n rest) ∷ []) (map alone raws) ∙ ap (λ r. done ++ alone r ∷ map alone raws) first ∙ same;
            is = others;
            short = (let l = ap length others in omega arith);
          };
        }
