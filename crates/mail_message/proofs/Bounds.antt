-- The boundary by search is the one of the least number.
use Rattle.std.proofs.Common.{◌≡◌, ℕ, zero, suc, ◌+◌, ◌-◌, ◌^◌, ◌<◌, ◌≤◌, Bool, true, false, cond, not, List, [], ◌∷◌, ◌++◌, refl, ap, ◌∙◌, inl, inr, arith}
use Rattle.std.specs.Prelude.{◌&&◌, ◌||◌, nat_eq}
use Rattle.std.specs.List.{starts_with}
use Rattle.std.proofs.lemmas.Bool.{cases_order}
use Rattle.mail_message.specs.Lines.{is_printable}
use Rattle.mail_message.specs.Message.{Mail, IsMail, text}
use Rattle.mail_message.specs.Enclose.{boundary, delimiter, stands, Stands, least_passing, boundary_of, BoundaryOf, wrapped}
use Rattle.mail_message.proofs.Cut.{or_right}
use Rattle.mail_message.proofs.Spelling.{either, printable_boundary}
use Rattle.mail_message.proofs.Delimiters.{begins, begun}
use Rattle.mail_message.proofs.Keeping.{wrap_keeps}

least_is : (p : ℕ → Bool) (n start k : ℕ) → start ≤ k → k ≤ start + n → p k ≡ true → ((j : ℕ) → start ≤ j → j < k → p j ≡ false) → least_passing p n start ≡ k
unfolding least_passing
least_is p zero start k low high passes fails = omega arith
least_is p (suc n) start k low high passes fails = elim (cases_order start k) [
  | inl same ↦ here (p start) (ap p same ∙ passes) same
  | inr (inl below) ↦ later (p start) (fails start (omega arith) below) (least_is p n (start + 1) k (omega arith) (omega arith) passes (λ j from to. fails j (omega arith) to))
  | inr (inr above) ↦ absurd (omega arith)
]
  where
    here : (b : Bool) → b ≡ true → start ≡ k → cond b start (least_passing p n (start + 1)) ≡ k
    here true e same = same
    here false e same = absurd cc

    later : (b : Bool) → b ≡ false → least_passing p n (start + 1) ≡ k → cond b start (least_passing p n (start + 1)) ≡ k
    later true e rest = absurd cc
    later false e rest = rest

least_at_most : (p : ℕ → Bool) (n start : ℕ) → least_passing p n start ≤ start + n
unfolding least_passing
least_at_most p zero start = omega arith
least_at_most p (suc n) start = by (p start) (least_at_most p n (start + 1))
  where
    by : (b : Bool) → least_passing p n (start + 1) ≤ start + 1 + n → cond b start (least_passing p n (start + 1)) ≤ start + suc n
    by true more = omega arith
    by false more = omega arith

told : (part bytes : List ℕ) → stands part bytes ≡ true → Stands part bytes
told part [] h = ([], _, begins part [] h)
told part (b ∷ bytes) h = elim (either (starts_with nat_eq (b ∷ bytes) part) (stands part bytes) h) [
  | inl here ↦ ([], _, begins part (b ∷ bytes) here)
  | inr later ↦ (let s = told part bytes later in (b ∷ s.0, s.1, ap (λ x. b ∷ x) s.2))
]

or_left : (a b : Bool) → a ≡ true → (a || b) ≡ true
or_left a b p = ap (λ x. x || b) p

front_found : (part back bytes : List ℕ) → bytes ≡ part ++ back → stands part bytes ≡ true
front_found part back [] e = ap (λ x. starts_with nat_eq x part) e ∙ begun part back
front_found part back (b ∷ bytes) e = or_left (starts_with nat_eq (b ∷ bytes) part) (stands part bytes) (ap (λ x. starts_with nat_eq x part) e ∙ begun part back)

found : (part front back bytes : List ℕ) → bytes ≡ front ++ (part ++ back) → stands part bytes ≡ true
found part [] back bytes e = front_found part back bytes e
found part (a ∷ front) back [] e = absurd cc
found part (a ∷ front) back (b ∷ bytes) e = or_right (starts_with nat_eq (b ∷ bytes) part) (stands part bytes) (found part front back bytes (tail e))
  where
    tail : b ∷ bytes ≡ a ∷ (front ++ (part ++ back)) → bytes ≡ front ++ (part ++ back)
    tail e = cc

absent : (part bytes : List ℕ) → ¬ (Stands part bytes) → stands part bytes ≡ false
absent part bytes h = by (stands part bytes) refl
  where
    by : (b : Bool) → stands part bytes ≡ b → b ≡ false
    by true e = absurd (h (told part bytes e))
    by false e = refl

abbrev free : List ℕ → List ℕ → ℕ → Bool
free added original j = not (stands (delimiter j) added) && not (stands (delimiter j) original)

pub boundary_is : (added original : List ℕ) (k : ℕ) → BoundaryOf added original k → k < 2 ^ 64 → boundary_of added original ≡ boundary k
unfolding boundary_of
boundary_is added original k b small = ap boundary (least_is (free added original) (2 ^ 64 - 1) 0 k (omega arith) (omega arith) passes fails)
  where
    passes : free added original k ≡ true
    passes =
        ap (λ t. not t && not (stands (delimiter k) original)) (absent (delimiter k) added b.not_added)
        ∙ ap not (absent (delimiter k) original b.not_original)

    and_none : (t : Bool) → (t && false) ≡ false
    and_none true = refl
    and_none false = refl

    fails : (j : ℕ) → 0 ≤ j → j < k → free added original j ≡ false
    fails j from to = elim (b.least j to) [
      | inl s ↦ ap (λ t. not t && not (stands (delimiter j) original)) (found (delimiter j) s.0 s.1 added s.2)
      | inr s ↦ ap (λ t. not (stands (delimiter j) added) && not t) (found (delimiter j) s.0 s.1 original s.2) ∙ and_none (not (stands (delimiter j) added))
    ]

pub boundary_printable : (added original : List ℕ) → is_printable (boundary_of added original) ≡ true
unfolding boundary_of
boundary_printable added original =
    printable_boundary (least_passing (free added original) (2 ^ 64 - 1) 0)
    (let most = least_at_most (free added original) (2 ^ 64 - 1) 0 in omega arith)

pub wrapped_keeps : (new : List ℕ) (m : Mail) → IsMail m → IsMail (wrapped new m)
wrapped_keeps new m h = wrap_keeps (boundary_of new (text m)) new m (boundary_printable new (text m)) h
