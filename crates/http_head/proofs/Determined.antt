-- A text has one answer.
use Rattle.std.proofs.Common.{◌≡◌, ℕ, ◌≤◌, ◌⊎◌, List, length, drop, slice_range, sym, ap, ◌∙◌, arith, inl, inr}
use Rattle.std.proofs.lemmas.Bool.{false≢true}
use Rattle.std.proofs.lemmas.List.{length-drop}
use Rattle.httparse.specs.Grammar.{RequestHead}
use Rattle.httparse.proofs.GrammarLemmas.{request_unique}
use Rattle.http_head.specs.declared.head.Head.{Head}
use Rattle.http_head.specs.declared.head.Head.TheVariants as heads
use Rattle.http_head.specs.declared.route.HeadFault.{HeadFault}
use Rattle.http_head.specs.declared.route.HeadFault.TheVariants as faults
use Rattle.http_head.specs.declared.route.RoutedHead.{RoutedHead}
use Rattle.http_head.specs.Checks.{parts_of, head_checks}
use Rattle.http_head.specs.Heads.{IsBadHead, IsOpenHead, IsRefusedHead, IsPassedHead, ReadsHead, SameAnswer}

abbrev Refused : List ℕ → HeadFault → Type 0
Refused text fault = ((fault ≡ faults.BadRequest) × IsBadHead text) ⊎ IsRefusedHead text fault

one-fault : (text : List ℕ) (f g : HeadFault) → IsRefusedHead text f → IsRefusedHead text g → f ≡ g
one-fault text f g r s =
    let same = request_unique text r.head s.head r.rest s.rest r.whole.0 s.whole.0 in
    let e : head_checks (parts_of r.head) ≡ head_checks (parts_of s.head) = ap (λ (h : RequestHead). head_checks (parts_of h)) same.0 in
    cc (e, r.checks_are, s.checks_are)

refused-passed : (text : List ℕ) (f : HeadFault) (routed : RoutedHead) (target rest : List ℕ) → IsRefusedHead text f → IsPassedHead text routed target rest → ⊥
refused-passed text f routed target rest r p =
    let same = request_unique text r.head p.head r.rest rest r.whole.0 p.whole.0 in
    let e : head_checks (parts_of r.head) ≡ head_checks (parts_of p.head) = ap (λ (h : RequestHead). head_checks (parts_of h)) same.0 in
    cc (e, r.checks_are, p.checks_are)

open-bad : (text : List ℕ) → IsOpenHead text → IsBadHead text → ⊥
open-bad text open' bad = elim bad.why [ inl hopeless ↦ open'.hope hopeless | inr over ↦ false≢true (sym open'.within ∙ over) ]

open-refused : (text : List ℕ) (f : HeadFault) → IsOpenHead text → Refused text f → ⊥
open-refused text f open' (inl bad) = open-bad text open' bad.1
open-refused text f open' (inr r) = open'.none r.head r.rest r.whole

one-refusal : (text : List ℕ) (f g : HeadFault) → Refused text f → Refused text g → f ≡ g
one-refusal text f g (inl a) (inl b) = a.0 ∙ sym b.0
one-refusal text f g (inl a) (inr s) = absurd (a.1.none s.head s.rest s.whole)
one-refusal text f g (inr r) (inl b) = absurd (b.1.none r.head r.rest r.whole)
one-refusal text f g (inr r) (inr s) = one-fault text f g r s

whole-refused : (text : List ℕ) (f : HeadFault) (routed : RoutedHead) (target rest : List ℕ) → Refused text f → IsPassedHead text routed target rest → ⊥
whole-refused text f routed target rest (inl bad) p = bad.1.none p.head rest p.whole
whole-refused text f routed target rest (inr r) p = refused-passed text f routed target rest r p

record Same (routed routed' : RoutedHead) (target target' rest rest' : List ℕ) : Type 0 where
  routed_is : routed ≡ routed'
  target_is : target ≡ target'
  rest_is : rest ≡ rest'

one-passed : (text : List ℕ) (routed routed' : RoutedHead) (target target' rest rest' : List ℕ) → IsPassedHead text routed target rest → IsPassedHead text routed' target' rest'
    → Same routed routed' target target' rest rest'
one-passed text routed routed' target target' rest rest' p q =
    let same = request_unique text p.head q.head rest rest' p.whole.0 q.whole.0 in
    let e : head_checks (parts_of p.head) ≡ head_checks (parts_of q.head) = ap (λ (h : RequestHead). head_checks (parts_of h)) same.0 in
    record {
      routed_is = cc (e, p.checks_are, q.checks_are);
      target_is = p.target_is ∙ ap (λ (h : RequestHead). h.target) same.0 ∙ sym q.target_is;
      rest_is = same.1;
    }

-- where the same octets stand behind two places of a text, they are one place
one-place : (text : List ℕ) (i j : ℕ) → i ≤ length text → j ≤ length text → drop i text ≡ drop j text → i ≡ j
one-place text i j p q e = omega (arith, ap length e, length-drop i text, length-drop j text, p, q)

pub one-answer : (text : List ℕ) (a b : Head) → ReadsHead text a → ReadsHead text b → SameAnswer text a b
one-answer text heads.Open heads.Open x y = tt
one-answer text heads.Open (heads.Refused g) x y = open-refused text g x y
one-answer text heads.Open (heads.Whole r s e b) x y = x.none y.0.head (drop b text) y.0.whole
one-answer text (heads.Refused f) heads.Open x y = open-refused text f y x
one-answer text (heads.Refused f) (heads.Refused g) x y = one-refusal text f g x y
one-answer text (heads.Refused f) (heads.Whole r s e b) x y = whole-refused text f r (slice_range text s e) (drop b text) x y.0
one-answer text (heads.Whole r s e b) heads.Open x y = y.none x.0.head (drop b text) x.0.whole
one-answer text (heads.Whole r s e b) (heads.Refused g) x y = whole-refused text g r (slice_range text s e) (drop b text) y x.0
one-answer text (heads.Whole r s e b) (heads.Whole r' s' e' b') x y =
    let same = one-passed text r r' (slice_range text s e) (slice_range text s' e') (drop b text) (drop b' text) x.0 y.0 in
    (same.routed_is, same.target_is, one-place text b b' x.1.body y.1.body same.rest_is)
