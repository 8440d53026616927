-- What the parser's answers say of a head.
use Rattle.std.proofs.Common.{◌≡◌, ℕ, true, false, List, Err, refl, sym, ◌∙◌, inl, inr}
use Rattle.std.proofs.lemmas.Bool.{false≢true}
use Rattle.httparse.specs.declared.Error.{Error}
use Rattle.httparse.specs.declared.spans.HeaderSpan.{HeaderSpan}
use Rattle.httparse.specs.Grammar.{NeverHasRequest}
use Rattle.httparse.specs.Spans.{FindsRequest, RequestExceeds}
use Rattle.http_head.specs.declared.route.HeadFault.TheVariants as faults
use Rattle.http_head.specs.declared.head.Head.TheVariants as heads
use Rattle.http_head.specs.Heads.{HasNoHead, is_over_limits, IsOpenHead, ReadsHead}
use Rattle.http_head.specs.Targets.{ends_in_target}
use Rattle.http_head.proofs.LineFeeds.{over-exceeds}
use Rattle.http_head.proofs.TargetLemmas.{ends-is, ends-true}

pub none-err : (text : List ℕ) (headers : List HeaderSpan) (e : Error) → FindsRequest text 64 headers (Err e) → HasNoHead text
none-err text headers e h = λ head rest whole. h head rest whole.0 whole.1.few

pub bad-over : (text : List ℕ) → HasNoHead text → is_over_limits text ≡ true → ReadsHead text (heads.Refused faults.BadRequest)
bad-over text none past = inl (refl, record { none = none; why = inr past })

pub bad-many : (text : List ℕ) → HasNoHead text → RequestExceeds 64 text → ReadsHead text (heads.Refused faults.BadRequest)
bad-many text none many = bad-over text none (over-exceeds text many)

pub bad-hopeless : (text : List ℕ) → HasNoHead text → NeverHasRequest text → ends_in_target text ≡ false → ReadsHead text (heads.Refused faults.BadRequest)
bad-hopeless text none never out = inl (refl, record { none = none; why = inl (never, λ e. false≢true (sym out ∙ ends-is text e)) })

pub open-target : (text : List ℕ) → HasNoHead text → ends_in_target text ≡ true → is_over_limits text ≡ false → IsOpenHead text
open-target text none ends within = record { none = none; hope = λ hopeless. hopeless.1 (ends-true text ends); within = within }
