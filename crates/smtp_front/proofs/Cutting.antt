-- Lines of a text in pieces, and contents in lines.
use Rattle.std.proofs.Common.{◌≡◌, ◌<◌, ◌+◌, ◌-◌, ℕ, suc, Bool, true, false, cond, eqb, List, [], ◌∷◌, ◌++◌, length, take, drop, get_or, refl, ap, ◌∙◌, sym, subst, arith, Some, None}
use Rattle.std.proofs.Math.Bool.{and-false}
use Rattle.std.specs.Prelude.{◌&&◌, not}
use Rattle.std.specs.List.{flat_map, before_first, position_or_len}
use Rattle.std.proofs.lemmas.List.{take_more, take_all, take-append-drop, drop-drop}
use Rattle.std.proofs.lemmas.List.Folds.{length-prefix_len}
use Rattle.std.proofs.lemmas.Bool.{eqb-true, false≢true}
use Rattle.mail_names.specs.Lines.{Lines, lines_of, onto}
use Rattle.smtp_front.specs.Commands.{is_byte}
use Rattle.smtp_front.specs.Events.{body_of, with_line, kept, is_dot}
use Rattle.smtp_front.specs.Holds.{NoLine, ends_cr, NoDot}

is_nil : List (List ℕ) → Bool
is_nil [] = true
is_nil (x ∷ xs) = false

cons≢nil : (x : List ℕ) (xs : List (List ℕ)) → x ∷ xs ≡ [] → ⊥
unfolding is_nil
cons≢nil x xs e = false≢true (ap is_nil e)

pub no_line-is : (t : List ℕ) → NoLine t → lines_of t ≡ record { lines = []; left = t }
unfolding lines_of
no_line-is [] h = refl
no_line-is (b ∷ []) h = refl
no_line-is (b ∷ c ∷ bs) h =
    ap (λ (t : Bool). cond t (record { lines = [] ∷ (lines_of bs).lines; left = (lines_of bs).left }) (onto b (lines_of (c ∷ bs)).lines (lines_of (c ∷ bs)).left)) h.0
    ∙ ap (λ (p : Lines). onto b p.lines p.left) (no_line-is (c ∷ bs) h.1)

-- a line's end
pub line-ends : (l rest : List ℕ) → NoLine (l ++ 13 ∷ []) →
    lines_of ((l ++ 13 ∷ []) ++ 10 ∷ rest) ≡ record { lines = l ∷ (lines_of rest).lines; left = (lines_of rest).left }
unfolding lines_of
line-ends [] rest h = refl
line-ends (b ∷ []) rest h =
    ap (λ (t : Bool). cond t (record { lines = [] ∷ (lines_of (10 ∷ rest)).lines; left = (lines_of (10 ∷ rest)).left }) (onto b (lines_of (13 ∷ 10 ∷ rest)).lines (lines_of (13 ∷ 10 ∷ rest)).left)) h.0
line-ends (b ∷ c ∷ bs) rest h =
    let more = (bs ++ 13 ∷ []) ++ 10 ∷ rest in
    ap (λ (t : Bool). cond t (record { lines = [] ∷ (lines_of more).lines; left = (lines_of more).left }) (onto b (lines_of (c ∷ more)).lines (lines_of (c ∷ more)).left)) h.0
    ∙ ap (λ (p : Lines). onto b p.lines p.left) (line-ends (c ∷ bs) rest h.1)

snoc : (t : List ℕ) → 0 < length t → t ≡ take (length t - 1) t ++ get_or t (length t - 1) 0 ∷ []
snoc t some =
    sym (take_all (length t - 1 + 1) t (omega arith)) ∙ take_more t (length t - 1) 0 (omega arith)

no_line-push : (l : List ℕ) (a b : ℕ) → NoLine (l ++ a ∷ []) → (eqb a 13 && eqb b 10) ≡ false → NoLine ((l ++ a ∷ []) ++ b ∷ [])
no_line-push [] a b h e = (e, tt)
no_line-push (x ∷ []) a b h e = (h.0, (e, tt))
no_line-push (x ∷ y ∷ l) a b h e = (h.0, no_line-push (y ∷ l) a b h.1 e)

swapped : (x y : Bool) → (x && y) ≡ false → (y && x) ≡ false
swapped true true h = h
swapped true false h = refl
swapped false true h = refl
swapped false false h = refl

pub no_line-add : (t : List ℕ) (b : ℕ) → NoLine t → (eqb b 10 && ends_cr t) ≡ false → NoLine (t ++ b ∷ [])
no_line-add [] b h e = tt
no_line-add (x ∷ xs) b h e =
    let t = x ∷ xs in
    let same : t ≡ take (length t - 1) t ++ get_or t (length t - 1) 0 ∷ [] = snoc t (omega arith) in
    subst (λ (u : List ℕ). NoLine (u ++ b ∷ [])) (sym same)
    (no_line-push (take (length t - 1) t) (get_or t (length t - 1) 0) b (subst (λ (u : List ℕ). NoLine u) same h) (swapped (eqb b 10) (ends_cr t) e))

pub ended-is : (t : List ℕ) → ends_cr t ≡ true → t ≡ take (length t - 1) t ++ 13 ∷ []
ended-is [] h = absurd (false≢true h)
ended-is (x ∷ xs) h =
    let t = x ∷ xs in
    snoc t (omega arith) ∙ ap (λ b. take (length t - 1) t ++ b ∷ []) (eqb-true _ _ h)

pub text-ends : (t rest : List ℕ) → NoLine t → ends_cr t ≡ true →
    lines_of (t ++ 10 ∷ rest) ≡ record { lines = take (length t - 1) t ∷ (lines_of rest).lines; left = (lines_of rest).left }
text-ends t rest h e =
    let same = ended-is t e in
    ap (λ (u : List ℕ). lines_of (u ++ 10 ∷ rest)) same
    ∙ line-ends (take (length t - 1) t) rest (subst (λ (u : List ℕ). NoLine u) same h)

-- a text with a text behind it
abbrev pub then_text : Lines → List ℕ → Lines
then_text p y = record { lines = p.lines ++ (lines_of (p.left ++ y)).lines; left = (lines_of (p.left ++ y)).left }

onto-none : (b : ℕ) (lines : List (List ℕ)) (left : List ℕ) → (onto b lines left).lines ≡ [] → lines ≡ []
onto-none b [] left h = refl
onto-none b (l ∷ lines) left h = absurd (cons≢nil _ _ h)

onto-left : (b : ℕ) (lines : List (List ℕ)) (left : List ℕ) → (onto b lines left).lines ≡ [] → (onto b lines left).left ≡ b ∷ left
onto-left b [] left h = refl
onto-left b (l ∷ lines) left h = absurd (cons≢nil _ _ h)

left-test : (t : Bool) (b : ℕ) (x : List ℕ) (first other : Lines) → ((first.lines ≡ []) → ⊥) → (other.lines ≡ [] → other.left ≡ x) → (cond t first other).lines ≡ [] → (cond t first other).left ≡ x
left-test true b x first other h k e = absurd (h e)
left-test false b x first other h k e = k e

pub left-whole : (x : List ℕ) → (lines_of x).lines ≡ [] → (lines_of x).left ≡ x
unfolding lines_of
left-whole [] h = refl
left-whole (b ∷ []) h = refl
left-whole (b ∷ c ∷ bs) h =
    left-test (eqb b 13 && eqb c 10) b (b ∷ c ∷ bs) (record { lines = [] ∷ (lines_of bs).lines; left = (lines_of bs).left }) (onto b (lines_of (c ∷ bs)).lines (lines_of (c ∷ bs)).left)
    (λ e. cons≢nil _ _ e)
    (λ e. onto-left b (lines_of (c ∷ bs)).lines (lines_of (c ∷ bs)).left e ∙ ap (λ y. b ∷ y) (left-whole (c ∷ bs) (onto-none b (lines_of (c ∷ bs)).lines (lines_of (c ∷ bs)).left e)))
    h

onto-then : (b c : ℕ) (bs y : List ℕ) (lines : List (List ℕ)) (left : List ℕ) → (eqb b 13 && eqb c 10) ≡ false → (lines ≡ [] → left ≡ c ∷ bs) →
    onto b (lines ++ (lines_of (left ++ y)).lines) (lines_of (left ++ y)).left ≡ then_text (onto b lines left) y
unfolding lines_of
onto-then b c bs y [] left h k =
    let same = k refl in
    ap (λ (v : List ℕ). onto b (lines_of (v ++ y)).lines (lines_of (v ++ y)).left) same
    ∙ sym (ap (λ (t : Bool). cond t (record { lines = [] ∷ (lines_of (bs ++ y)).lines; left = (lines_of (bs ++ y)).left }) (onto b (lines_of (c ∷ bs ++ y)).lines (lines_of (c ∷ bs ++ y)).left)) h)
    ∙ sym (ap (λ (v : List ℕ). lines_of (b ∷ v ++ y)) same)
onto-then b c bs y (l ∷ lines) left h k = refl

by-test : (t : Bool) (y : List ℕ) (first other first' other' : Lines) → (t ≡ true → first ≡ then_text first' y) → (t ≡ false → other ≡ then_text other' y) → cond t first other ≡ then_text (cond t first' other') y
by-test true y first other first' other' h k = h refl
by-test false y first other first' other' h k = k refl

-- The law of cutting: the lines of a text with more behind it are its lines, and then those of what is left with the more.
pub lines-append : (x y : List ℕ) → lines_of (x ++ y) ≡ then_text (lines_of x) y
unfolding lines_of
lines-append [] y = refl
lines-append (b ∷ []) y = refl
lines-append (b ∷ c ∷ bs) y =
    by-test (eqb b 13 && eqb c 10) y
    (record { lines = [] ∷ (lines_of (bs ++ y)).lines; left = (lines_of (bs ++ y)).left })
    (onto b (lines_of (c ∷ bs ++ y)).lines (lines_of (c ∷ bs ++ y)).left)
    (record { lines = [] ∷ (lines_of bs).lines; left = (lines_of bs).left })
    (onto b (lines_of (c ∷ bs)).lines (lines_of (c ∷ bs)).left)
    (λ e. ap (λ (p : Lines). record { lines = [] ∷ p.lines; left = p.left }) (lines-append bs y))
    (λ e. ap (λ (p : Lines). onto b p.lines p.left) (lines-append (c ∷ bs) y)
    ∙ onto-then b c bs y (lines_of (c ∷ bs)).lines (lines_of (c ∷ bs)).left e (left-whole (c ∷ bs)))

-- contents

pub body-none : (lines : List (List ℕ)) → NoDot lines → body_of lines ≡ None
unfolding body_of
body-none [] h = refl
body-none (l ∷ lines) h =
    ap (λ (t : Bool). cond t (Some (record { bytes = []; rest = lines })) (with_line l (body_of lines))) h.0
    ∙ ap (with_line l) (body-none lines h.1)

pub body-dot : (lines rest : List (List ℕ)) (dot : List ℕ) → NoDot lines → is_dot dot ≡ true →
    body_of (lines ++ dot ∷ rest) ≡ Some (record { bytes = flat_map kept lines; rest = rest })
unfolding body_of
body-dot [] rest dot h e = ap (λ (t : Bool). cond t (Some (record { bytes = []; rest = rest })) (with_line dot (body_of rest))) e
body-dot (l ∷ lines) rest dot h e =
    ap (λ (t : Bool). cond t (Some (record { bytes = []; rest = lines ++ dot ∷ rest })) (with_line l (body_of (lines ++ dot ∷ rest)))) h.0
    ∙ ap (with_line l) (body-dot lines rest dot h.1 e)

pub no_dot-add : (lines : List (List ℕ)) (l : List ℕ) → NoDot lines → is_dot l ≡ false → NoDot (lines ++ l ∷ [])
no_dot-add [] l h e = (e, tt)
no_dot-add (x ∷ lines) l h e = (h.0, no_dot-add lines l h.1 e)

-- runs without LF

-- No octet is LF.
abbrev pub NoFeed : List ℕ → Type 0
NoFeed [] = Unit {0}
NoFeed (b ∷ bs) = (eqb b 10 ≡ false) × NoFeed bs

unended : (a b : ℕ) → eqb b 10 ≡ false → (eqb a 13 && eqb b 10) ≡ false
unended a b e = ap (λ (t : Bool). eqb a 13 && t) e ∙ and-false (eqb a 13)

pub no_line-run : (t run : List ℕ) → NoLine t → NoFeed run → NoLine (t ++ run)
no_line-run [] [] h f = tt
no_line-run [] (b ∷ []) h f = tt
no_line-run [] (b ∷ c ∷ run) h f = (unended b c f.1.0, no_line-run [] (c ∷ run) tt f.1)
no_line-run (x ∷ []) [] h f = tt
no_line-run (x ∷ []) (b ∷ run) h f = (unended x b f.0, no_line-run [] (b ∷ run) tt f)
no_line-run (x ∷ y ∷ t) run h f = (h.0, no_line-run (y ∷ t) run h.1 f)

feed-first : (t : Bool) (b : ℕ) (bs : List ℕ) (n : ℕ) → eqb b 10 ≡ t → NoFeed (take n bs) → NoFeed (take (cond (not t) (1 + n) 0) (b ∷ bs))
feed-first true b bs n e f = tt
feed-first false b bs n e f = let one : suc n ≡ 1 + n = omega arith in subst (λ (k : ℕ). NoFeed (take k (b ∷ bs))) one (e, f)

pub no_feed-before : (bs : List ℕ) → NoFeed (before_first (is_byte 10) bs)
no_feed-before [] = tt
no_feed-before (b ∷ bs) = feed-first (eqb b 10) b bs (position_or_len (is_byte 10) bs) refl (no_feed-before bs)

none-before : (t : Bool) (b : ℕ) (bs : List ℕ) (n : ℕ) → eqb b 10 ≡ t → length (take (cond (not t) (1 + n) 0) (b ∷ bs)) ≡ 0 → b ≡ 10
none-before true b bs n e h = eqb-true b 10 e
none-before false b bs n e h =
    let one : 1 + n ≡ suc n = omega arith in
    absurd (omega (arith, sym (ap (λ k. length (take k (b ∷ bs))) one) ∙ h))

-- Where no octet stands before the first LF, it comes first.
pub feed-next : (bs : List ℕ) → 0 < length bs → length (before_first (is_byte 10) bs) ≡ 0 → get_or bs 0 0 ≡ 10
feed-next [] some h = absurd (omega (arith, some))
feed-next (b ∷ bs) some h = none-before (eqb b 10) b bs (position_or_len (is_byte 10) bs) refl h

-- What stands before the first LF, and what stands behind that.
pub run-then : (xs run : List ℕ) (at : ℕ) → run ≡ before_first (is_byte 10) (drop at xs) → drop at xs ≡ run ++ drop (at + length run) xs
run-then xs run at is =
    let n = position_or_len (is_byte 10) (drop at xs) in
    let long : length run ≡ n = ap length is ∙ length-prefix_len (λ b. not (is_byte 10 b)) (drop at xs) in
    sym (ap (λ (r : List ℕ). r ++ drop (at + length run) xs) is
    ∙ ap (λ (ys : List ℕ). take n (drop at xs) ++ ys) (ap (λ k. drop (at + k) xs) long ∙ sym (drop-drop n at xs))
    ∙ take-append-drop n (drop at xs))
