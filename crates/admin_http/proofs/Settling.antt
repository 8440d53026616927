-- A text asks for one thing.
use Rattle.std.proofs.Common.{◌≡◌, ℕ, List, ◌++◌, take, Option, Some, Err, refl, sym, ap, ◌∙◌, subst, arith, inl, inr, length-append, codes}
use Rattle.std.proofs.lemmas.List.{take-append-le}
use Rattle.httparse.specs.Grammar.{RequestHead}
use Rattle.httparse.proofs.GrammarLemmas.{request_unique, ReadsRequest-append}
use Rattle.mail_names.specs.Names.{name_text, approval_text, IsItemName, IsApprovalName}
use Rattle.mail_names.specs.declared.name.ItemName.{ItemName}
use Rattle.mail_names.specs.declared.name.ApprovalName.{ApprovalName}
use Rattle.moderation.specs.declared.approval.Verdict.{Verdict}
use Rattle.moderation.specs.declared.approval.Verdict.TheVariants as verdicts
use Rattle.http_head.specs.declared.route.HeadFault.{HeadFault}
use Rattle.http_head.specs.declared.route.RoutedHead.{RoutedHead}
use Rattle.http_head.specs.declared.route.Route.{Route}
use Rattle.http_head.specs.declared.route.Route.TheVariants as routes
use Rattle.http_head.specs.declared.deed.Deed.{Deed}
use Rattle.http_head.specs.declared.deed.Deed.TheVariants as deeds
use Rattle.http_head.specs.Checks.{parts_of, head_checks}
use Rattle.http_head.specs.Deeds.{verdict_word, IsMeant}
use Rattle.http_head.specs.Heads.{IsBadHead, IsRefusedHead}
use Rattle.http_answers.specs.declared.refusal.Refusal.{Refusal}
use Rattle.admin_http.specs.Requests.{Refuses, Asks, refusal_of}
use Rattle.admin_http.proofs.Taking.{passed-more, passed-once, refused-not, meant-not}

refused-more : (text more : List ℕ) (fault : HeadFault) → IsRefusedHead text fault → IsRefusedHead (text ++ more) fault
refused-more text more fault r = record {
  head = r.head;
  rest = r.rest ++ more;
  whole = (ReadsRequest-append text r.head r.rest more r.whole.0, r.whole.1);
  checks_are = r.checks_are;
}

pub refuses-more : (text more : List ℕ) (refusal : Refusal) → (IsBadHead text → IsBadHead (text ++ more)) → Refuses text refusal → Refuses (text ++ more) refusal
refuses-more text more refusal stays r = elim r [
  | inl bad ↦ inl (bad.0, stays bad.1)
  | inr others ↦ elim others [
    | inl refused ↦ inr (inl (refused.0, refused.1, refused-more text more refused.0 refused.2))
    | inr nothing ↦ inr (inr (
      nothing.0,
      record {
        routed = nothing.1.routed;
        target = nothing.1.target;
        rest = nothing.1.rest ++ more;
        passed = passed-more text nothing.1.routed nothing.1.target nothing.1.rest more nothing.1.passed;
        meant = nothing.1.meant;
      },
    ))
  ]
]

pub asks-longer : (text more body : List ℕ) (deed : Deed) → Asks text deed body → Asks (text ++ more) deed body
asks-longer text more body deed a = record {
  routed = a.routed;
  target = a.target;
  rest = a.rest ++ more;
  passed = passed-more text a.routed a.target a.rest more a.passed;
  meant = a.meant;
  enough = omega (arith, a.enough, length-append a.rest more);
  body_is = a.body_is ∙ sym (take-append-le a.routed.body_length a.rest more a.enough);
}

pub refused-asks : (text body : List ℕ) (refusal : Refusal) (deed : Deed) → Refuses text refusal → Asks text deed body → ⊥
refused-asks text body refusal deed r a = elim r [
  | inl bad ↦ bad.1.none a.passed.head a.rest a.passed.whole
  | inr others ↦ elim others [
    | inl refused ↦ refused-not text a.routed a.target a.rest refused.0 a.passed refused.2
    | inr nothing ↦ (let same = passed-once text a.routed nothing.1.routed a.target nothing.1.target a.rest nothing.1.rest a.passed nothing.1.passed in
        meant-not a.routed nothing.1.routed a.target nothing.1.target deed a.meant same.routed_is same.target_is nothing.1.meant)
  ]
]

refused-once : (text : List ℕ) (fault other : HeadFault) → IsRefusedHead text fault → IsRefusedHead text other → fault ≡ other
refused-once text fault other r s =
    let same = request_unique text r.head s.head r.rest s.rest r.whole.0 s.whole.0 in
    let e : head_checks (parts_of r.head) ≡ Err other = ap (λ (h : RequestHead). head_checks (parts_of h)) same.0 ∙ s.checks_are in
    let o = r.checks_are in
    cc

pub refuses-once : (text : List ℕ) (refusal other : Refusal) → Refuses text refusal → Refuses text other → refusal ≡ other
refuses-once text refusal other r s = elim r [
  | inl bad ↦ elim s [
    | inl bad2 ↦ bad.0 ∙ sym bad2.0
    | inr more ↦ elim more [
      | inl refused ↦ absurd (bad.1.none refused.2.head refused.2.rest refused.2.whole)
      | inr nothing ↦ absurd (bad.1.none nothing.1.passed.head nothing.1.rest nothing.1.passed.whole)
    ]
  ]
  | inr more ↦ elim more [
    | inl refused ↦ elim s [
      | inl bad ↦ absurd (bad.1.none refused.2.head refused.2.rest refused.2.whole)
      | inr more2 ↦ elim more2 [
        | inl refused2 ↦ refused.1 ∙ ap refusal_of (refused-once text refused.0 refused2.0 refused.2 refused2.2) ∙ sym refused2.1
        | inr nothing ↦ absurd (refused-not text nothing.1.routed nothing.1.target nothing.1.rest refused.0 nothing.1.passed refused.2)
      ]
    ]
    | inr nothing ↦ elim s [
      | inl bad ↦ absurd (bad.1.none nothing.1.passed.head nothing.1.rest nothing.1.passed.whole)
      | inr more2 ↦ elim more2 [
        | inl refused2 ↦ absurd (refused-not text nothing.1.routed nothing.1.target nothing.1.rest refused2.0 nothing.1.passed refused2.2)
        | inr nothing2 ↦ nothing.0 ∙ sym nothing2.0
      ]
    ]
  ]
]

ItemLaw : Type 0
ItemLaw = (m n : ItemName) → IsItemName m → IsItemName n → name_text m ≡ name_text n → m ≡ n

ApprovalLaw : Type 0
ApprovalLaw = (m n : ApprovalName) → IsApprovalName m → IsApprovalName n → approval_text m ≡ approval_text n → m ≡ n

some-same : (a b : List ℕ) (o : Option (List ℕ)) → o ≡ Some a → o ≡ Some b → a ≡ b
some-same a b o e f = cc

verdict-same : (v w : Verdict) → verdict_word v ≡ verdict_word w → v ≡ w
verdict-same verdicts.Approve verdicts.Approve e = refl
verdict-same verdicts.Approve verdicts.Reject e = absurd (not-words e)
  where
    not-words : codes "approve" ≡ codes "reject" → ⊥
    not-words h = cc
verdict-same verdicts.Reject verdicts.Approve e = absurd (not-words e)
  where
    not-words : codes "reject" ≡ codes "approve" → ⊥
    not-words h = cc
verdict-same verdicts.Reject verdicts.Reject e = refl

means-once : ItemLaw → ApprovalLaw → (route : Route) (target : List ℕ) (d e : Deed) → IsMeant route target (Some d) → IsMeant route target (Some e) → d ≡ e
unfolding ItemLaw ApprovalLaw
means-once il al routes.Queue target d e m n = m ∙ sym n
means-once il al routes.Approvals target d e m n = m ∙ sym n
means-once il al routes.Ended target d e m n = m ∙ sym n
means-once il al routes.Folder target d e m n = m.2 ∙ ap deeds.Folder (some-same _ _ _ m.1 n.1) ∙ sym n.2
means-once il al routes.Item target d e m n =
    m.3 ∙ ap (λ (f : List ℕ). deeds.Item f m.1) (some-same _ _ _ m.2.folder_is n.2.folder_is)
    ∙ ap (λ (k : ItemName). deeds.Item n.0 k) (il m.1 n.1 m.2.fits n.2.fits (m.2.name_is ∙ sym n.2.name_is)) ∙ sym n.3
means-once il al routes.Directory target d e m n = m ∙ sym n
means-once il al routes.Rules target d e m n = m ∙ sym n
means-once il al routes.Decide target d e m n =
    m.4 ∙ ap (λ (k : ApprovalName). deeds.Decide k m.1 m.2) (al m.0 n.0 m.3.fits n.3.fits (m.3.approval_is ∙ sym n.3.approval_is))
    ∙ ap (λ (v : Verdict). deeds.Decide n.0 v m.2) (verdict-same m.1 n.1 (m.3.verdict_is ∙ sym n.3.verdict_is))
    ∙ ap (λ (b : List ℕ). deeds.Decide n.0 n.1 b) (some-same _ _ _ m.3.by_is n.3.by_is) ∙ sym n.4
means-once il al routes.Turn target d e m n = m ∙ sym n
means-once il al routes.Stop target d e m n = m ∙ sym n

pub asks-once : ((m n : ItemName) → IsItemName m → IsItemName n → name_text m ≡ name_text n → m ≡ n)
    → ((m n : ApprovalName) → IsApprovalName m → IsApprovalName n → approval_text m ≡ approval_text n → m ≡ n)
    → (text body other : List ℕ) (deed another : Deed) → Asks text deed body → Asks text another other → (deed ≡ another) × (body ≡ other)
unfolding ItemLaw ApprovalLaw
asks-once il al text body other deed another a b =
    let same = passed-once text a.routed b.routed a.target b.target a.rest b.rest a.passed b.passed in (
      means-once il al a.routed.route a.target deed another a.meant
          (subst (λ (o : RoutedHead). IsMeant o.route a.target (Some another)) same.routed_is (subst (λ (t : List ℕ). IsMeant b.routed.route t (Some another)) same.target_is b.meant)),
      a.body_is ∙ sym (b.body_is ∙ ap (λ (o : RoutedHead). take o.body_length b.rest) same.routed_is ∙ ap (take a.routed.body_length) same.rest_is),
    )
