-- A refusal stays, whatever follows.
use Rattle.std.proofs.Common.{◌≡◌, ℕ, ◌+◌, ◌≤◌, ◌<◌, ◌⊎◌, Bool, true, false, cond, eqb, List, [], ◌∷◌, ◌++◌, length, drop, refl, sym, ap, ◌∙◌, subst, arith, append_assoc, length-append, inl, inr}
use Rattle.std.proofs.lemmas.List.{append-nil, length-drop}
use Rattle.std.proofs.lemmas.List.Elements.{All-head, All-tail}
use Rattle.std.proofs.lemmas.Bool.{eqb-true, false≢true}
use Rattle.std.proofs.lemmas.Bool.Decides.{nat_tests, leb_tells}
use Rattle.std.proofs.lemmas.Str.{IsUtf8-from_ascii}
use Rattle.std.proofs.lemmas.Str.Ascii.{IsAscii-cons, IsAscii-nil}
use Rattle.std.specs.Prelude.{nat_le, flat_map, All}
use Rattle.httparse.specs.Grammar.{LineEnd, crlf, lf, print_end, print_blank, print_version, Field, IsField, print_field, print_section, RequestHead, print_request, IsRequestHead, HasNoRequest, NeverHasRequest, EndsInTarget, IsToken, AllPass, is_token_byte, is_uri_byte, is_value_byte}
use Rattle.httparse.proofs.GrammarLemmas.{print_request-append}
use Rattle.matchit.proofs.LookupLemmas.{append-cancel}
use Rattle.http_head.specs.Heads.{HasNoHead, is_line_end, behind_line_ends, line_feeds, is_over_limits, IsBadHead}
use Rattle.http_head.proofs.LineFeeds.{lf-append, lf-end, behind_line_ends-more, behind_line_ends-blank, behind_line_ends-token}
use Rattle.http_head.proofs.TargetLemmas.{head-of, tail-of, none-of, more-of}

-- ---- lists

pub same-front : (xs ys fs bs : List ℕ) → xs ++ ys ≡ fs ++ bs → length fs ≤ length xs → xs ≡ fs ++ drop (length fs) xs
same-front xs ys [] bs e h = refl
same-front [] ys (a ∷ fs) bs e h = absurd (omega arith)
same-front (x ∷ xs) ys (a ∷ fs) bs e h =
    let first : x ≡ a = cc in
    let rest : xs ++ ys ≡ fs ++ bs = cc in
    ap (λ (n : ℕ). n ∷ xs) first ∙ ap (λ (t : List ℕ). a ∷ t) (same-front xs ys fs bs rest (omega arith))

pub EndsLf : List ℕ → Type 0
EndsLf text = (front : List ℕ) × (text ≡ front ++ 10 ∷ [])

last-lf : (e : LineEnd) → EndsLf (print_end e)
unfolding EndsLf
last-lf crlf = (13 ∷ [], refl)
last-lf lf = ([], refl)

more-lf : (xs ys : List ℕ) → EndsLf ys → EndsLf (xs ++ ys)
unfolding EndsLf
more-lf xs ys h = (xs ++ h.0, ap (λ (t : List ℕ). xs ++ t) h.1 ∙ sym (append_assoc xs h.0 (10 ∷ [])))

pub head-lf : (h : RequestHead) → EndsLf (print_request h)
unfolding print_request
head-lf h = more-lf _ (print_section h.fields h.last) (more-lf (flat_map print_field h.fields) (print_end h.last) (last-lf h.last))

-- what is left of a text that ends in LF has it
pub tail-lf : (xs ys : List ℕ) → EndsLf (xs ++ ys) → 0 < length ys → 1 ≤ line_feeds ys
unfolding EndsLf
tail-lf xs ys h some = go xs h.0 h.1
  where
    go : (xs front : List ℕ) → xs ++ ys ≡ front ++ 10 ∷ [] → 1 ≤ line_feeds ys
    go [] front e = omega (arith, ap line_feeds e, lf-append front (10 ∷ []))
    go (x ∷ xs) [] e = absurd (omega (arith, ap length e, length-append xs ys))
    go (x ∷ xs) (f ∷ front) e = (let rest : xs ++ ys ≡ front ++ 10 ∷ [] = cc in go xs front rest)

-- ---- line feeds

ten-or : (test : ℕ → Bool) (b : ℕ) → test 10 ≡ false → test b ≡ true → (t : Bool) → eqb b 10 ≡ t → t ≡ false
ten-or test b h k true e = absurd (false≢true (sym h ∙ ap test (sym (eqb-true b 10 e)) ∙ k))
ten-or test b h k false e = refl

no-lf : (test : ℕ → Bool) → test 10 ≡ false → (bs : List ℕ) → AllPass test bs → line_feeds bs ≡ 0
no-lf test h [] p = refl
no-lf test h (b ∷ bs) p =
    let ten : eqb b 10 ≡ false = ten-or test b h (head-of test b bs p) (eqb b 10) refl in
    let rest = no-lf test h bs (tail-of test b bs p) in
    rw ten (omega (arith, rest))

token-ten : is_token_byte 10 ≡ false
unfolding is_token_byte
token-ten = refl

field-lf : (f : Field) → IsField f → line_feeds (print_field f) ≡ 1
field-lf f is =
    omega (
      arith,
      lf-append (f.name ++ 58 ∷ f.raw) (print_end f.end),
      lf-append f.name (58 ∷ f.raw),
      lf-end f.end,
      no-lf is_token_byte token-ten f.name is.name.1,
      no-lf is_value_byte refl f.raw is.raw,
    )

fields-lf : (fs : List Field) → All IsField fs → line_feeds (flat_map print_field fs) ≡ length fs
fields-lf [] is = refl
fields-lf (f ∷ fs) is =
    omega (arith, lf-append (print_field f) (flat_map print_field fs), field-lf f (All-head IsField f fs is), fields-lf fs (All-tail IsField f fs is))

version-lf : (minor : ℕ) → line_feeds (print_version minor) ≡ 0
version-lf minor = not-ten (48 + minor) (omega arith)
  where
    not-ten : (n : ℕ) → 48 ≤ n → 0 + cond (eqb n 10) 1 0 ≡ 0
    not-ten n h = grind (arith, nat_tests)

-- the head's line feeds, and those of what follows
lf-whole : (h : RequestHead) → IsRequestHead h → line_feeds (behind_line_ends (print_request h ++ [])) ≤ length h.fields + 2
lf-whole h is =
    let section = print_section h.fields h.last in
    let version = print_version h.minor ++ (print_end h.line_end ++ (section ++ [])) in
    let target = h.target ++ 32 ∷ version in
    let e : behind_line_ends (print_request h ++ []) ≡ h.method ++ 32 ∷ target =
    ap behind_line_ends (print_request-append h []) ∙ behind_line_ends-blank h.blank _ ∙ behind_line_ends-token h.method _ is.method in
    rw e (omega (
      arith,
      lf-append h.method (32 ∷ target),
      lf-append h.target (32 ∷ version),
      lf-append (print_version h.minor) (print_end h.line_end ++ (section ++ [])),
      lf-append (print_end h.line_end) (section ++ []),
      lf-append section [],
      lf-append (flat_map print_field h.fields) (print_end h.last),
      fields-lf h.fields is.fields,
      lf-end h.line_end,
      lf-end h.last,
      no-lf is_token_byte token-ten h.method is.method.1,
      no-lf is_uri_byte refl h.target is.target.1,
      version-lf h.minor,
    ))

behind_line_ends-or : (x : ℕ) (xs ys : List ℕ) (t : Bool) → (0 < line_feeds (behind_line_ends xs) → behind_line_ends (xs ++ ys) ≡ behind_line_ends xs ++ ys)
    → 0 < line_feeds (cond t (behind_line_ends xs) (x ∷ xs)) → cond t (behind_line_ends (xs ++ ys)) (x ∷ (xs ++ ys)) ≡ cond t (behind_line_ends xs) (x ∷ xs) ++ ys
behind_line_ends-or x xs ys true more h = more h
behind_line_ends-or x xs ys false more h = refl

behind_line_ends-some : (xs ys : List ℕ) → 0 < line_feeds (behind_line_ends xs) → behind_line_ends (xs ++ ys) ≡ behind_line_ends xs ++ ys
behind_line_ends-some [] ys h = absurd (omega arith)
behind_line_ends-some (x ∷ xs) ys h = behind_line_ends-or x xs ys (is_line_end x) (behind_line_ends-some xs ys) h

-- a front of a head within the limits, but not all of it, has at most 65 line feeds
front-within : (text rest : List ℕ) (h : RequestHead) → IsRequestHead h → length h.fields ≤ 64 → print_request h ≡ text ++ rest → 0 < length rest
    → line_feeds (behind_line_ends text) ≤ 65
front-within text rest h is few e some =
    let all : line_feeds (behind_line_ends (text ++ rest)) ≤ 66 =
    (let w = lf-whole h is in omega (arith, ap (λ (t : List ℕ). line_feeds (behind_line_ends t)) (append-nil (print_request h) ∙ e), w)) in
    let tail : 1 ≤ line_feeds rest = tail-lf text rest (subst EndsLf e (head-lf h)) some in
    elim (leb_tells (line_feeds (behind_line_ends text)) 65) [
      | inl below ↦ below.1
      | inr above ↦ (let many : 0 < line_feeds (behind_line_ends text) = omega (arith, above.1) in
          absurd (omega (arith, above.1, ap line_feeds (behind_line_ends-some text rest many), lf-append (behind_line_ends text) rest, all, tail)))
    ]

-- ---- the first check

over-many : (text : List ℕ) → is_over_limits text ≡ true → (66 ≤ line_feeds (behind_line_ends text)) ⊎ (16384 < length text)
over-many text h = elim (leb_tells 66 (line_feeds (behind_line_ends text))) [
  | inl many ↦ inl many.1
  | inr few ↦ inr (long few.0)
]
  where
    long : nat_le 66 (line_feeds (behind_line_ends text)) ≡ false → 16384 < length text
    long few = grind (arith, nat_tests)

many-over : (text : List ℕ) → 66 ≤ line_feeds (behind_line_ends text) → is_over_limits text ≡ true
many-over text h = grind (arith, nat_tests)

long-over : (text : List ℕ) → 16384 < length text → is_over_limits text ≡ true
long-over text h = grind (arith, nat_tests)

over-stays : (text more : List ℕ) → is_over_limits text ≡ true → is_over_limits (text ++ more) ≡ true
over-stays text more h = elim (over-many text h) [
  | inl many ↦ many-over (text ++ more) (omega (arith, many, behind_line_ends-more text more))
  | inr long ↦ long-over (text ++ more) (omega (arith, long, length-append text more))
]

-- a head within the limits that comes of a text that has none lies behind_slashes its end, so the text isn't past
over-none : (text more : List ℕ) → HasNoHead text → is_over_limits text ≡ true → HasNoHead (text ++ more)
over-none text more none past = λ head rest whole.
    elim (leb_tells (length (print_request head)) (length text)) [
      | inl within ↦ none head (drop (length (print_request head)) text) ((whole.0.0, same-front text more (print_request head) rest whole.0.1 within.1), whole.1)
      | inr short ↦ (let e : print_request head ≡ text ++ drop (length text) (print_request head) = same-front (print_request head) rest text more (sym whole.0.1) (omega (arith, short.1)) in
          let some : 0 < length (drop (length text) (print_request head)) = omega (arith, length-drop (length text) (print_request head), short.1) in
          let few = front-within text (drop (length text) (print_request head)) head whole.0.0 whole.1.few e some in
          elim (over-many text past) [
            | inl many ↦ absurd (omega (arith, many, few))
            | inr long ↦ absurd (omega (arith, long, short.1, whole.1.short))
          ])
    ]

never-stays : (text more : List ℕ) → NeverHasRequest text → NeverHasRequest (text ++ more)
never-stays text more never = λ m. subst HasNoRequest (sym (append_assoc text more m)) (never (more ++ m))

-- ---- a target

pass-front : (test : ℕ → Bool) (xs ys : List ℕ) → AllPass test (xs ++ ys) → AllPass test xs
pass-front test [] ys h = none-of test
pass-front test (x ∷ xs) ys h = more-of test x xs (head-of test x (xs ++ ys) h) (pass-front test xs ys (tail-of test x (xs ++ ys) h))

-- a head with this method
least : List LineEnd → List ℕ → RequestHead
least blank method = record { blank = blank; method = method; target = 47 ∷ []; minor = 0; line_end = lf; fields = []; last = lf }

least-is : (blank : List LineEnd) (method : List ℕ) → IsToken method → IsRequestHead (least blank method)
unfolding least
least-is blank method token = record {
  method = token;
  target = (omega arith, more-of is_uri_byte 47 [] refl (none-of is_uri_byte));
  target_text = IsUtf8-from_ascii _ (IsAscii-cons 47 [] (omega arith) IsAscii-nil);
  minor = omega arith;
  fields = λ k d h. absurd (omega (arith, h));
}

least-text : List ℕ
least-text = 47 ∷ 32 ∷ (print_version 0 ++ (10 ∷ 10 ∷ []))

least-print : (blank : List LineEnd) (method : List ℕ) → print_request (least blank method) ++ [] ≡ (print_blank blank ++ (method ++ 32 ∷ [])) ++ least-text
unfolding least least-text
least-print blank method =
    print_request-append (least blank method) []
    ∙ sym (append_assoc (print_blank blank) (method ++ 32 ∷ []) least-text ∙ ap (λ (t : List ℕ). print_blank blank ++ t) (append_assoc method (32 ∷ []) least-text))

target-back : (text more : List ℕ) → NeverHasRequest text → EndsInTarget (text ++ more) → EndsInTarget text
target-back text more never e =
    let front = print_blank e.0 ++ (e.1 ++ 32 ∷ []) in
    let is : text ++ more ≡ front ++ e.2 =
    e.5 ∙ append_assoc (print_blank e.0) e.1 (32 ∷ e.2)
    ∙ sym (append_assoc (print_blank e.0) (e.1 ++ 32 ∷ []) e.2 ∙ ap (λ (t : List ℕ). print_blank e.0 ++ t) (append_assoc e.1 (32 ∷ []) e.2)) in
    elim (leb_tells (length front) (length text)) [
      | inl within ↦ (let rest = drop (length front) text in
          let split : text ≡ front ++ rest = same-front text more front e.2 is within.1 in
          let whole : rest ++ more ≡ e.2 =
          append-cancel front (rest ++ more) e.2 (sym (append_assoc front rest more) ∙ ap (λ (t : List ℕ). t ++ more) (sym split) ∙ is) in (
            e.0,
            e.1,
            rest,
            e.3,
            pass-front is_uri_byte rest more (subst (AllPass is_uri_byte) (sym whole) e.4),
            split ∙ append_assoc (print_blank e.0) (e.1 ++ 32 ∷ []) rest ∙ ap (λ (t : List ℕ). print_blank e.0 ++ t) (append_assoc e.1 (32 ∷ []) rest) ∙ sym (append_assoc (print_blank e.0) e.1 (32 ∷ rest)),
          ))
      | inr short ↦ (let rest = drop (length text) front in
          let split : front ≡ text ++ rest = same-front front e.2 text more (sym is) (omega (arith, short.1)) in
          absurd (never (rest ++ least-text) (least e.0 e.1) [] (
            least-is e.0 e.1 e.3,
            sym (append_assoc text rest least-text) ∙ ap (λ (t : List ℕ). t ++ least-text) (sym split) ∙ sym (least-print e.0 e.1),
          )))
    ]

-- What check 1 refuses it refuses whatever follows.
pub bad-stays : (text more : List ℕ) → IsBadHead text → IsBadHead (text ++ more)
bad-stays text more bad = elim bad.why [
  | inl hopeless ↦ record {
    none = λ head rest whole. hopeless.0 more head rest whole.0;
    why = inl (never-stays text more hopeless.0, λ e. hopeless.1 (target-back text more hopeless.0 e));
  }
  | inr past ↦ record { none = over-none text more bad.none past; why = inr (over-stays text more past) }
]
