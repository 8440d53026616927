-- What a text asks for, as more of it comes.
use Rattle.std.proofs.Common.{◌≡◌, ℕ, ◌≤◌, ◌<◌, List, [], ◌++◌, length, take, Option, Some, None, Result, Ok, Err, refl, sym, ap, ◌∙◌, subst, arith, inl, inr, length-append}
use Rattle.std.proofs.lemmas.List.{append-nil, take_all}
use Rattle.std.proofs.lemmas.Bool.{false≢true}
use Rattle.httparse.specs.Grammar.{RequestHead, print_request}
use Rattle.httparse.proofs.GrammarLemmas.{request_unique, ReadsRequest-append, print_request-append}
use Rattle.http_head.specs.declared.route.HeadFault.{HeadFault}
use Rattle.http_head.specs.declared.route.RoutedHead.{RoutedHead}
use Rattle.http_head.specs.declared.deed.Deed.{Deed}
use Rattle.http_head.specs.Checks.{parts_of, head_checks}
use Rattle.http_head.specs.Deeds.{IsMeant}
use Rattle.http_head.specs.Heads.{IsOpenHead, IsRefusedHead, IsPassedHead}
use Rattle.http_answers.specs.declared.refusal.Refusal.TheVariants as refusals
use Rattle.admin_http.specs.Pieces.{Full, Short}
use Rattle.admin_http.specs.Requests.{Refuses, Asks, IsUnfinished, IsNotWhole, HasCome, Means}

-- a head that hasn't come
pub unfinished-open : (text : List ℕ) → IsOpenHead text → IsUnfinished text
unfinished-open text still = record {
  no_refusal = λ refusal r. elim r [
    | inl bad ↦ elim bad.1.why [ inl hopeless ↦ still.hope hopeless | inr past ↦ false≢true (sym still.within ∙ past) ]
    | inr more ↦ elim more [
      | inl refused ↦ still.none refused.2.head refused.2.rest refused.2.whole
      | inr nothing ↦ still.none nothing.1.passed.head nothing.1.rest nothing.1.passed.whole
    ]
  ];
  no_request = λ deed body asks. still.none asks.passed.head asks.rest asks.passed.whole;
}

-- more octets stand behind the same head
pub passed-more : (text : List ℕ) (routed : RoutedHead) (target rest more : List ℕ) → IsPassedHead text routed target rest → IsPassedHead (text ++ more) routed target (rest ++ more)
passed-more text routed target rest more p = record {
  head = p.head;
  whole = (ReadsRequest-append text p.head rest more p.whole.0, p.whole.1);
  checks_are = p.checks_are;
  target_is = p.target_is;
}

-- one text has one head
pub record Same (routed routed' : RoutedHead) (target target' rest rest' : List ℕ) : Type 0 where
  pub routed_is : routed' ≡ routed
  pub target_is : target' ≡ target
  pub rest_is : rest' ≡ rest

pub ok-same : {A E : Type 0} (a b : A) (r : Result A E) → r ≡ Ok a → r ≡ Ok b → b ≡ a
ok-same a b r e f = cc

pub passed-once : (text : List ℕ) (routed routed' : RoutedHead) (target target' rest rest' : List ℕ) → IsPassedHead text routed target rest → IsPassedHead text routed' target' rest'
    → Same routed routed' target target' rest rest'
passed-once text routed routed' target target' rest rest' p q =
    let same = request_unique text p.head q.head rest rest' p.whole.0 q.whole.0 in
    record {
      routed_is = ok-same routed routed' (head_checks (parts_of p.head)) p.checks_are (ap (λ (h : RequestHead). head_checks (parts_of h)) same.0 ∙ q.checks_are);
      target_is = q.target_is ∙ ap (λ (h : RequestHead). h.target) (sym same.0) ∙ sym p.target_is;
      rest_is = sym same.1;
    }

pub refused-not : (text : List ℕ) (routed : RoutedHead) (target rest : List ℕ) (fault : HeadFault) → IsPassedHead text routed target rest → IsRefusedHead text fault → ⊥
refused-not text routed target rest fault p r =
    let same = request_unique text p.head r.head rest r.rest p.whole.0 r.whole.0 in
    let e : head_checks (parts_of p.head) ≡ Err fault = ap (λ (h : RequestHead). head_checks (parts_of h)) same.0 ∙ r.checks_are in
    let o = p.checks_are in
    cc

-- Its body hasn't come.
pub not-whole : (text : List ℕ) (routed : RoutedHead) (target rest : List ℕ) → IsPassedHead text routed target rest → length rest < routed.body_length → IsNotWhole text
not-whole text routed target rest p short = λ deed body asks.
    let same = passed-once text routed asks.routed target asks.target rest asks.rest p asks.passed in
    absurd (omega (arith, ap (λ (o : RoutedHead). o.body_length) same.routed_is, ap length same.rest_is, asks.enough, short))

pub meant-not : (routed routed' : RoutedHead) (target target' : List ℕ) (deed : Deed) → Means routed target deed → routed' ≡ routed → target' ≡ target → IsMeant routed'.route target' None → ⊥
meant-not routed routed' target target' deed m o t none =
    none deed (subst (λ (x : RoutedHead). IsMeant x.route target' (Some deed)) (sym o) (subst (λ (x : List ℕ). IsMeant routed.route x (Some deed)) (sym t) m))

pub unfinished-waiting : (text : List ℕ) (routed : RoutedHead) (target rest : List ℕ) (deed : Deed) → IsPassedHead text routed target rest → Means routed target deed
    → length rest < routed.body_length → IsUnfinished text
unfinished-waiting text routed target rest deed p m short = record {
  no_refusal = λ refusal r. elim r [
    | inl bad ↦ bad.1.none p.head rest p.whole
    | inr more ↦ elim more [
      | inl refused ↦ refused-not text routed target rest refused.0 p refused.2
      | inr nothing ↦ (let same = passed-once text routed nothing.1.routed target nothing.1.target rest nothing.1.rest p nothing.1.passed in
          meant-not routed nothing.1.routed target nothing.1.target deed m same.routed_is same.target_is nothing.1.meant)
    ]
  ];
  no_request = not-whole text routed target rest p short;
}

-- nothing is no request
pub not-whole-nothing : IsNotWhole []
not-whole-nothing = λ deed body asks.
    let e : [] ≡ print_request asks.passed.head ++ asks.rest = asks.passed.whole.0.1 in
    let m = asks.passed.whole.0.0.method.0 in
    let l = ap length (e ∙ print_request-append asks.passed.head asks.rest) in
    absurd (omega (arith, simp length-append at l, m))

-- ---- a request that is taken

pub asks-more : (text more : List ℕ) (routed : RoutedHead) (target rest : List ℕ) (deed : Deed) (body : List ℕ) → IsPassedHead text routed target rest → Means routed target deed
    → routed.body_length ≤ length (rest ++ more) → body ≡ take routed.body_length (rest ++ more) → Asks (text ++ more) deed body
asks-more text more routed target rest deed body p m enough is = record {
  routed = routed;
  target = target;
  rest = rest ++ more;
  passed = passed-more text routed target rest more p;
  meant = m;
  enough = enough;
  body_is = is;
}

nothing-more : (P : List ℕ → Type 0) (text : List ℕ) → P text → P (text ++ [])
nothing-more P text h = subst P (sym (append-nil text)) h

-- its body has come with its head
pub asks-here : (text : List ℕ) (routed : RoutedHead) (target rest : List ℕ) (deed : Deed) (body : List ℕ) (size : ℕ) → IsPassedHead text routed target rest → Means routed target deed
    → routed.body_length ≡ size → size ≤ length rest → body ≡ take size rest → Asks (text ++ []) deed body
asks-here text routed target rest deed body size p m e enough is =
    nothing-more (λ (t : List ℕ). Asks t deed body) text
    (record { routed = routed; target = target; rest = rest; passed = p; meant = m; enough = omega (arith, e, enough); body_is = is ∙ ap (λ (n : ℕ). take n rest) (sym e) })

pub come-here : (text : List ℕ) (routed : RoutedHead) (target rest : List ℕ) (size : ℕ) → IsPassedHead text routed target rest → routed.body_length ≡ size → size ≤ length rest → HasCome (text ++ [])
come-here text routed target rest size p e enough =
    nothing-more (λ (t : List ℕ). HasCome t) text (record { routed = routed; target = target; rest = rest; passed = p; enough = omega (arith, e, enough) })

pub short-here : (text : List ℕ) (routed : RoutedHead) (target rest : List ℕ) (size : ℕ) → IsPassedHead text routed target rest → routed.body_length ≡ size → length rest < size → IsNotWhole (text ++ [])
short-here text routed target rest size p e short =
    nothing-more (λ (t : List ℕ). IsNotWhole t) text (not-whole text routed target rest p (omega (arith, e, short)))

pub meaningless-here : (text : List ℕ) (routed : RoutedHead) (target rest : List ℕ) → IsPassedHead text routed target rest → IsMeant routed.route target None → Refuses (text ++ []) refusals.NotFound
meaningless-here text routed target rest p m =
    nothing-more (λ (t : List ℕ). Refuses t refusals.NotFound) text (inr (inr (refl, record { routed = routed; target = target; rest = rest; passed = p; meant = m })))

-- its body has come behind it
pub asks-filled : (text : List ℕ) (routed : RoutedHead) (target rest : List ℕ) (deed : Deed) (old new : List ℕ) (size : ℕ) (before left : Option (List ℕ)) → IsPassedHead text routed target rest → Means routed target deed
    → routed.body_length ≡ size → (full : Full before left old new (length rest)) → take (length rest) old ≡ rest → length new ≡ size → Asks (text ++ full.piece) deed new
asks-filled text routed target rest deed old new size before left p m e full front all =
    let is : new ≡ rest ++ full.piece = full.is ∙ ap (λ (t : List ℕ). t ++ full.piece) front in
    let long : routed.body_length ≡ length (rest ++ full.piece) = e ∙ sym all ∙ ap length is in
    asks-more text full.piece routed target rest deed new p m (omega (arith, long))
    (is ∙ sym (take_all routed.body_length (rest ++ full.piece) (omega (arith, long))))

pub unfinished-short : (text : List ℕ) (routed : RoutedHead) (target rest : List ℕ) (deed : Deed) (size : ℕ) (before left : Option (List ℕ)) → IsPassedHead text routed target rest → Means routed target deed
    → routed.body_length ≡ size → (short : Short before left size (length rest)) → IsUnfinished (text ++ short.piece)
unfinished-short text routed target rest deed size before left p m e short =
    unfinished-waiting (text ++ short.piece) routed target (rest ++ short.piece) deed (passed-more text routed target rest short.piece p) m
    (omega (arith, length-append rest short.piece, short.few, e))
