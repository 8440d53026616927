-- The body of a message stands behind the first empty line of its text.
use Rattle.std.proofs.Common.{◌≡◌, ℕ, ◌+◌, ◌<◌, ◌≤◌, Bool, true, false, List, [], ◌∷◌, ◌++◌, length, drop, get_or, refl, sym, ap, ◌∙◌, arith, append_assoc}
use Rattle.std.specs.Prelude.{◌==◌, ◌&&◌, ◌||◌, if◌then◌else◌}
use Rattle.std.specs.List.{flat_map}
use Rattle.std.proofs.lemmas.List.{drop_more}
use Rattle.mail_message.specs.Lines.{crlf, ended, ended_all, begins_with, has_crlf, is_header, is_continuation}
use Rattle.mail_message.specs.Message.{Mail, AreContinuations, IsField, AreFields, Reads}
use Rattle.rule_match.specs.Header.{behind_blank}

-- ---- a step of the walk

two_bytes : (t : List ℕ) (at : ℕ) → at + 1 < length t → drop at t ≡ get_or t at 0 ∷ get_or t (at + 1) 0 ∷ drop (at + 2) t
two_bytes t at h =
    drop_more t at 0 (omega arith)
    ∙ ap (λ x. get_or t at 0 ∷ x) (drop_more t (at + 1) 0 h ∙ ap (λ n. get_or t (at + 1) 0 ∷ drop n t) (by_two at))
  where
    by_two : (n : ℕ) → n + 1 + 1 ≡ n + 2
    by_two n = omega arith

pub line_end : (t : List ℕ) (at : ℕ) (starts : Bool) → at + 1 < length t → (get_or t at 0 == 13 && get_or t (at + 1) 0 == 10) ≡ true
    → behind_blank starts (drop at t) ≡ (if starts then drop (at + 2) t else behind_blank true (drop (at + 2) t))
line_end t at starts h is =
    ap (behind_blank starts) (two_bytes t at h)
    ∙ ap (λ (e : Bool). if e then (if starts then drop (at + 2) t else behind_blank true (drop (at + 2) t)) else behind_blank false (get_or t (at + 1) 0 ∷ drop (at + 2) t)) is

pub no_line_end : (t : List ℕ) (at : ℕ) (starts : Bool) → at + 1 < length t → (get_or t at 0 == 13 && get_or t (at + 1) 0 == 10) ≡ false
    → behind_blank starts (drop at t) ≡ behind_blank false (drop (at + 1) t)
no_line_end t at starts h is =
    ap (behind_blank starts) (two_bytes t at h)
    ∙ ap (λ (e : Bool). if e then (if starts then drop (at + 2) t else behind_blank true (drop (at + 2) t)) else behind_blank false (get_or t (at + 1) 0 ∷ drop (at + 2) t)) is
    ∙ ap (behind_blank false) (sym (drop_more t (at + 1) 0 h ∙ ap (λ n. get_or t (at + 1) 0 ∷ drop n t) (by_two at)))
  where
    by_two : (n : ℕ) → n + 1 + 1 ≡ n + 2
    by_two n = omega arith

pub too_short : (starts : Bool) (t : List ℕ) → length t ≤ 1 → behind_blank starts t ≡ []
too_short starts [] h = refl
too_short starts (b ∷ []) h = refl
too_short starts (b ∷ c ∷ bs) h = absurd (omega arith)

-- ---- the header is passed over

neither : (a b : Bool) → (a || b) ≡ false → (a ≡ false) × (b ≡ false)
neither true b h = absurd cc
neither false b h = (refl, h)

no_end : (a : Bool) → (a && false) ≡ false
no_end true = refl
no_end false = refl

-- no end of a line stands where one begins with a byte
passes_first : (starts : Bool) (b : ℕ) (line rest : List ℕ) → has_crlf (b ∷ line) ≡ false
    → behind_blank starts ((b ∷ line) ++ 13 ∷ 10 ∷ rest) ≡ behind_blank false (line ++ 13 ∷ 10 ∷ rest)
passes_first starts b [] rest h =
    ap (λ (e : Bool). if e then (if starts then 10 ∷ rest else behind_blank true (10 ∷ rest)) else behind_blank false (13 ∷ 10 ∷ rest)) (no_end (b == 13))
passes_first starts b (c ∷ line) rest h =
    ap (λ (e : Bool). if e then (if starts then line ++ 13 ∷ 10 ∷ rest else behind_blank true (line ++ 13 ∷ 10 ∷ rest)) else behind_blank false (c ∷ (line ++ 13 ∷ 10 ∷ rest)))
    (neither (b == 13 && c == 10) (has_crlf (c ∷ line)) h).0

passes_rest : (line rest : List ℕ) → has_crlf line ≡ false → behind_blank false (line ++ 13 ∷ 10 ∷ rest) ≡ behind_blank true rest
passes_rest [] rest h = refl
passes_rest (b ∷ line) rest h =
    passes_first false b line rest h ∙ passes_rest line rest (neither (b == 13 && begins_with 10 line) (has_crlf line) h).1

passes_line : (b : ℕ) (line rest : List ℕ) → has_crlf (b ∷ line) ≡ false → behind_blank true (ended (b ∷ line) ++ rest) ≡ behind_blank true rest
passes_line b line rest h =
    ap (behind_blank true) (append_assoc (b ∷ line) crlf rest)
    ∙ passes_first true b line rest h
    ∙ passes_rest line rest (neither (b == 13 && begins_with 10 line) (has_crlf line) h).1

passes_header : (line rest : List ℕ) → has_crlf line ≡ false → is_header line ≡ true → behind_blank true (ended line ++ rest) ≡ behind_blank true rest
passes_header [] rest h is = absurd cc
passes_header (b ∷ line) rest h is = passes_line b line rest h

passes_continuation : (line rest : List ℕ) → has_crlf line ≡ false → is_continuation line ≡ true → behind_blank true (ended line ++ rest) ≡ behind_blank true rest
passes_continuation [] rest h is = absurd cc
passes_continuation (b ∷ line) rest h is = passes_line b line rest h

passes_more : (lines : List (List ℕ)) (rest : List ℕ) → AreContinuations lines → behind_blank true (ended_all lines ++ rest) ≡ behind_blank true rest
passes_more [] rest h = refl
passes_more (line ∷ lines) rest h =
    ap (behind_blank true) (append_assoc (ended line) (ended_all lines) rest)
    ∙ passes_continuation line (ended_all lines ++ rest) h.0 h.1
    ∙ passes_more lines rest h.2

passes_field : (raw rest : List ℕ) → IsField raw → behind_blank true (raw ++ rest) ≡ behind_blank true rest
passes_field raw rest f =
    ap (λ x. behind_blank true (x ++ rest)) f.bytes
    ∙ ap (behind_blank true) (append_assoc (ended f.first) (ended_all f.more) rest)
    ∙ passes_header f.first (ended_all f.more ++ rest) f.line f.header
    ∙ passes_more f.more rest f.later

passes_fields : (raws : List (List ℕ)) (rest : List ℕ) → AreFields raws → behind_blank true (flat_map (λ raw. raw) raws ++ rest) ≡ behind_blank true rest
passes_fields [] rest h = refl
passes_fields (raw ∷ raws) rest h =
    ap (behind_blank true) (append_assoc raw (flat_map (λ x. x) raws) rest)
    ∙ passes_field raw (flat_map (λ x. x) raws ++ rest) h.0
    ∙ passes_fields raws rest h.1

pub body-is : (bytes : List ℕ) (m : Mail) → Reads bytes m → behind_blank true bytes ≡ m.body
body-is bytes m h = ap (behind_blank true) h.1 ∙ passes_fields m.fields (crlf ++ m.body) h.0
