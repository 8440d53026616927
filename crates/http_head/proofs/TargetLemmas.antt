-- Texts that end inside a target.
use Rattle.std.proofs.Common.{◌≡◌, ℕ, Bool, true, false, ◌&&◌, cond, eqb, List, [], ◌∷◌, ◌++◌, refl, sym, ap, ◌∙◌, arith, append_assoc}
use Rattle.std.proofs.lemmas.List.Elements.{All-nil, All-cons, All-head, All-tail}
use Rattle.std.proofs.lemmas.Bool.{eqb-true, false≢true}
use Rattle.std.proofs.lemmas.Bool.Decides.{nat_tests}
use Rattle.std.specs.Prelude.{IsTrue}
use Rattle.std.specs.List.{list_all}
use Rattle.httparse.specs.Grammar.{LineEnd, crlf, lf, print_blank, IsToken, is_token_byte, is_uri_byte, AllPass, EndsInTarget}
use Rattle.http_head.specs.Targets.{behind_empty_lines, in_method, in_target, ends_in_target}
use Rattle.http_head.proofs.LineFeeds.{not_end}

pub behind_empty_lines-lf : (text : List ℕ) → behind_empty_lines (10 ∷ text) ≡ behind_empty_lines text
behind_empty_lines-lf [] = refl
behind_empty_lines-lf (b ∷ bs) = refl

pub behind_empty_lines-blank : (es : List LineEnd) (ys : List ℕ) → behind_empty_lines (print_blank es ++ ys) ≡ behind_empty_lines ys
behind_empty_lines-blank [] ys = refl
behind_empty_lines-blank (crlf ∷ es) ys = behind_empty_lines-blank es ys
behind_empty_lines-blank (lf ∷ es) ys = behind_empty_lines-lf (print_blank es ++ ys) ∙ behind_empty_lines-blank es ys

pub and-left : (a b : Bool) → (a && b) ≡ true → a ≡ true
and-left true b h = refl
and-left false b h = h

pub and-right : (a b : Bool) → (a && b) ≡ true → b ≡ true
and-right true b h = h
and-right false b h = absurd (false≢true h)

space-no-token : is_token_byte 32 ≡ false
unfolding is_token_byte
space-no-token = refl

not_space : (b : ℕ) → is_token_byte b ≡ true → eqb b 32 ≡ false
not_space b h = grind (arith, nat_tests, space-no-token)

pub head-of : (test : ℕ → Bool) (b : ℕ) (bs : List ℕ) → AllPass test (b ∷ bs) → test b ≡ true
head-of test b bs h = All-head (λ (c : ℕ). IsTrue (test c)) b bs h

pub tail-of : (test : ℕ → Bool) (b : ℕ) (bs : List ℕ) → AllPass test (b ∷ bs) → AllPass test bs
tail-of test b bs h = All-tail (λ (c : ℕ). IsTrue (test c)) b bs h

pub none-of : (test : ℕ → Bool) → AllPass test []
none-of test = All-nil (λ (c : ℕ). IsTrue (test c))

pub more-of : (test : ℕ → Bool) (b : ℕ) (bs : List ℕ) → test b ≡ true → AllPass test bs → AllPass test (b ∷ bs)
more-of test b bs h hs = All-cons (λ (c : ℕ). IsTrue (test c)) b bs h hs

all-pass : (test : ℕ → Bool) (bs : List ℕ) → AllPass test bs → list_all test bs ≡ true
all-pass test [] h = refl
all-pass test (b ∷ bs) h = rw (head-of test b bs h) (all-pass test bs (tail-of test b bs h))

pass-all : (test : ℕ → Bool) (bs : List ℕ) → list_all test bs ≡ true → AllPass test bs
pass-all test [] h = none-of test
pass-all test (b ∷ bs) h = more-of test b bs (and-left (test b) _ h) (pass-all test bs (and-right (test b) _ h))

abbrev Led : List ℕ → List ℕ → Type 0
Led text rest = (blank : List LineEnd) × (text ≡ print_blank blank ++ rest)

led-one : (b : ℕ) (t : Bool) → eqb b 10 ≡ t → Led (b ∷ []) (cond t [] (b ∷ []))
led-one b true e = (lf ∷ [], ap (λ (n : ℕ). n ∷ []) (eqb-true b 10 e))
led-one b false e = ([], refl)

led-two : (b c : ℕ) (bs : List ℕ) (s t u : Bool) → eqb b 10 ≡ s → eqb b 13 ≡ t → eqb c 10 ≡ u → Led (c ∷ bs) (behind_empty_lines (c ∷ bs)) → Led bs (behind_empty_lines bs)
    → Led (b ∷ c ∷ bs) (cond s (behind_empty_lines (c ∷ bs)) (cond (t && u) (behind_empty_lines bs) (b ∷ c ∷ bs)))
led-two b c bs true t u e f g h i = (lf ∷ h.0, ap (λ (n : ℕ). n ∷ c ∷ bs) (eqb-true b 10 e) ∙ ap (λ (x : List ℕ). 10 ∷ x) h.1)
led-two b c bs false true true e f g h i =
    (crlf ∷ i.0, ap (λ (n : ℕ). n ∷ c ∷ bs) (eqb-true b 13 f) ∙ ap (λ (n : ℕ). 13 ∷ n ∷ bs) (eqb-true c 10 g) ∙ ap (λ (x : List ℕ). 13 ∷ 10 ∷ x) i.1)
led-two b c bs false true false e f g h i = ([], refl)
led-two b c bs false false u e f g h i = ([], refl)

-- the line ends in front, and what is behind_slashes them
led : (text : List ℕ) → Led text (behind_empty_lines text)
led [] = ([], refl)
led (b ∷ []) = led-one b (eqb b 10) refl
led (b ∷ c ∷ bs) = led-two b c bs (eqb b 10) (eqb b 13) (eqb c 10) refl refl refl (led (c ∷ bs)) (led bs)

record Method (text : List ℕ) : Type 0 where
  word : List ℕ
  target : List ℕ
  token : AllPass is_token_byte word
  uri : AllPass is_uri_byte target
  is : text ≡ word ++ 32 ∷ target

method-of : (b : ℕ) (bs : List ℕ) (s : Bool) → eqb b 32 ≡ s → cond s (list_all is_uri_byte bs) (is_token_byte b && in_method bs) ≡ true
    → (in_method bs ≡ true → Method bs) → Method (b ∷ bs)
method-of b bs true e h more =
    record { word = []; target = bs; token = none-of is_token_byte; uri = pass-all is_uri_byte bs h; is = ap (λ (n : ℕ). n ∷ bs) (eqb-true b 32 e) }
method-of b bs false e h more =
    let m : Method bs = more (and-right (is_token_byte b) _ h) in
    record { word = b ∷ m.word; target = m.target; token = more-of is_token_byte b m.word (and-left (is_token_byte b) _ h) m.token; uri = m.uri; is = ap (λ (x : List ℕ). b ∷ x) m.is }

method-true : (text : List ℕ) → in_method text ≡ true → Method text
method-true [] h = absurd (false≢true h)
method-true (b ∷ bs) h = method-of b bs (eqb b 32) refl h (method-true bs)

method-is : (word target : List ℕ) → AllPass is_token_byte word → AllPass is_uri_byte target → in_method (word ++ 32 ∷ target) ≡ true
method-is [] target w t = all-pass is_uri_byte target t
method-is (b ∷ bs) target w t =
    let token = head-of is_token_byte b bs w in
    rw (not_space b token, token) (method-is bs target (tail-of is_token_byte b bs w) t)

not_lf : (b : ℕ) → is_token_byte b ≡ true → eqb b 10 ≡ false
not_lf b h = grind (arith, nat_tests, not_end b h)

not_cr : (b : ℕ) → is_token_byte b ≡ true → eqb b 13 ≡ false
not_cr b h = grind (arith, nat_tests, not_end b h)

behind_empty_lines-first : (b : ℕ) (rest : List ℕ) → is_token_byte b ≡ true → behind_empty_lines (b ∷ rest) ≡ b ∷ rest
behind_empty_lines-first b [] h = rw (not_lf b h) refl
behind_empty_lines-first b (c ∷ rest) h = rw (not_lf b h, not_cr b h) refl

target-is : (method target : List ℕ) → IsToken method → AllPass is_uri_byte target → in_target (behind_empty_lines (method ++ 32 ∷ target)) ≡ true
target-is [] target h t = absurd (omega (arith, h.0))
target-is (m ∷ ms) target h t =
    let token = head-of is_token_byte m ms h.1 in
    rw (behind_empty_lines-first m (ms ++ 32 ∷ target) token, token) (method-is ms target (tail-of is_token_byte m ms h.1) t)

-- a text that ends inside a target is told
pub ends-is : (text : List ℕ) → EndsInTarget text → ends_in_target text ≡ true
ends-is text e =
    ap (λ (x : List ℕ). in_target (behind_empty_lines x)) (e.5 ∙ append_assoc (print_blank e.0) e.1 (32 ∷ e.2))
    ∙ ap in_target (behind_empty_lines-blank e.0 (e.1 ++ 32 ∷ e.2))
    ∙ target-is e.1 e.2 e.3 e.4

abbrev Targeted : List ℕ → Type 0
Targeted text = (word : List ℕ) × (target : List ℕ) × IsToken word × AllPass is_uri_byte target × (text ≡ word ++ 32 ∷ target)

target-true : (text : List ℕ) → in_target text ≡ true → Targeted text
target-true [] h = absurd (false≢true h)
target-true (b ∷ bs) h =
    let m : Method bs = method-true bs (and-right (is_token_byte b) _ h) in
    (b ∷ m.word, m.target, (omega arith, more-of is_token_byte b m.word (and-left (is_token_byte b) _ h) m.token), m.uri, ap (λ (x : List ℕ). b ∷ x) m.is)

pub ends-true : (text : List ℕ) → ends_in_target text ≡ true → EndsInTarget text
ends-true text h =
    let l : Led text (behind_empty_lines text) = led text in
    let t : Targeted (behind_empty_lines text) = target-true (behind_empty_lines text) h in
    (l.0, t.0, t.1, t.2, t.3, l.1 ∙ ap (λ (x : List ℕ). print_blank l.0 ++ x) t.4 ∙ sym (append_assoc (print_blank l.0) t.0 (32 ∷ t.1)))
