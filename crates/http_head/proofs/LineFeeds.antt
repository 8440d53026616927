-- How many line feeds a head has.
use Rattle.std.proofs.Common.{◌≡◌, ℕ, ◌+◌, ◌≤◌, true, false, cond, List, [], ◌∷◌, ◌++◌, length, refl, ap, ◌∙◌, arith}
use Rattle.std.proofs.lemmas.List.Elements.{All-head}
use Rattle.std.proofs.lemmas.List.Sums.{sum_by-append}
use Rattle.std.proofs.lemmas.Bool.Decides.{nat_tests}
use Rattle.std.specs.Prelude.{flat_map, IsTrue}
use Rattle.httparse.specs.Grammar.{LineEnd, crlf, lf, print_end, print_blank, print_version, Field, print_field, print_section, RequestHead, print_request, IsRequestHead, IsToken, is_token_byte}
use Rattle.httparse.specs.Spans.{RequestExceeds}
use Rattle.httparse.proofs.GrammarLemmas.{print_request-append}
use Rattle.http_head.specs.Paths.{is_byte}
use Rattle.http_head.specs.Heads.{is_line_end, behind_line_ends, line_feeds, is_over_limits}

pub lf-append : (xs ys : List ℕ) → line_feeds (xs ++ ys) ≡ line_feeds xs + line_feeds ys
lf-append xs ys = sum_by-append (λ (x : ℕ). cond (is_byte 10 x) 1 0) xs ys

pub lf-end : (e : LineEnd) → line_feeds (print_end e) ≡ 1
lf-end crlf = refl
lf-end lf = refl

lf-field : (f : Field) → 1 ≤ line_feeds (print_field f)
lf-field f = omega (arith, lf-append (f.name ++ 58 ∷ f.raw) (print_end f.end), lf-end f.end)

lf-fields : (fs : List Field) → length fs ≤ line_feeds (flat_map print_field fs)
lf-fields [] = omega arith
lf-fields (f ∷ fs) = omega (arith, lf-append (print_field f) (flat_map print_field fs), lf-field f, lf-fields fs)

pub behind_line_ends-blank : (es : List LineEnd) (ys : List ℕ) → behind_line_ends (print_blank es ++ ys) ≡ behind_line_ends ys
behind_line_ends-blank [] ys = refl
behind_line_ends-blank (crlf ∷ es) ys = behind_line_ends-blank es ys
behind_line_ends-blank (lf ∷ es) ys = behind_line_ends-blank es ys

lf-no-token : is_token_byte 10 ≡ false
unfolding is_token_byte
lf-no-token = refl

cr-no-token : is_token_byte 13 ≡ false
unfolding is_token_byte
cr-no-token = refl

-- a byte of a token ends no line
pub not_end : (b : ℕ) → is_token_byte b ≡ true → is_line_end b ≡ false
not_end b h = grind (arith, nat_tests, lf-no-token, cr-no-token)

pub behind_line_ends-token : (method ys : List ℕ) → IsToken method → behind_line_ends (method ++ ys) ≡ method ++ ys
behind_line_ends-token [] ys h = absurd (omega (arith, h.0))
behind_line_ends-token (b ∷ bs) ys h =
    let token : is_token_byte b ≡ true = All-head (λ (c : ℕ). IsTrue (is_token_byte c)) b bs h.1 in
    rw (not_end b token) refl

-- what follows doesn't take a line feed away
pub behind_line_ends-more : (xs ys : List ℕ) → line_feeds (behind_line_ends xs) ≤ line_feeds (behind_line_ends (xs ++ ys))
behind_line_ends-more [] ys = omega arith
behind_line_ends-more (x ∷ xs) ys = elim (is_line_end x) as (λ t. line_feeds (cond t (behind_line_ends xs) (x ∷ xs)) ≤ line_feeds (cond t (behind_line_ends (xs ++ ys)) (x ∷ xs ++ ys)))
    [ true ↦ behind_line_ends-more xs ys | false ↦ omega (arith, lf-append (x ∷ xs) ys) ]

-- one octet adds at most one
behind_line_ends-push : (xs : List ℕ) → line_feeds (behind_line_ends (xs ++ 10 ∷ [])) ≤ line_feeds (behind_line_ends xs) + 1
behind_line_ends-push [] = omega arith
behind_line_ends-push (x ∷ xs) = elim (is_line_end x) as (λ t. line_feeds (cond t (behind_line_ends (xs ++ 10 ∷ [])) (x ∷ xs ++ 10 ∷ [])) ≤ line_feeds (cond t (behind_line_ends xs) (x ∷ xs)) + 1)
    [ true ↦ behind_line_ends-push xs | false ↦ omega (arith, lf-append (x ∷ xs) (10 ∷ [])) ]

-- a head has a line feed for its request line, each field and its end
pub lf-head : (h : RequestHead) (rest : List ℕ) → IsRequestHead h → length h.fields + 2 ≤ line_feeds (behind_line_ends (print_request h ++ rest))
lf-head h rest is =
    let section = print_section h.fields h.last in
    let version = print_version h.minor ++ (print_end h.line_end ++ (section ++ rest)) in
    let target = h.target ++ 32 ∷ version in
    let e : behind_line_ends (print_request h ++ rest) ≡ h.method ++ 32 ∷ target =
    ap behind_line_ends (print_request-append h rest) ∙ behind_line_ends-blank h.blank _ ∙ behind_line_ends-token h.method _ is.method in
    rw e (omega (arith, lf-append h.method (32 ∷ target), lf-append h.target (32 ∷ version), lf-append (print_version h.minor) (print_end h.line_end ++ (section ++ rest)), lf-append (print_end h.line_end) (section ++ rest), lf-append section rest, lf-append (flat_map print_field h.fields) (print_end h.last), lf-fields h.fields, lf-end h.line_end, lf-end h.last))

many : (text : List ℕ) → 66 ≤ line_feeds (behind_line_ends text) → is_over_limits text ≡ true
many text h = grind (arith, nat_tests)

-- 65 fields that have come are past the limit
pub over-exceeds : (text : List ℕ) → RequestExceeds 64 text → is_over_limits text ≡ true
over-exceeds text e =
    let a = lf-head e.3 [] e.4.0 in
    let b : line_feeds (behind_line_ends (e.0 ++ 10 ∷ [])) ≡ line_feeds (behind_line_ends (print_request e.3 ++ [])) = ap (λ (t : List ℕ). line_feeds (behind_line_ends t)) e.4.1 in
    let q : line_feeds (behind_line_ends text) ≡ line_feeds (behind_line_ends (e.0 ++ e.1)) = ap (λ (t : List ℕ). line_feeds (behind_line_ends t)) e.2 in
    many text (omega (arith, a, b, q, e.5, behind_line_ends-push e.0, behind_line_ends-more e.0 e.1))
