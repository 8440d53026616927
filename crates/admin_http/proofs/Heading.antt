-- A head that is taken piece by piece.
use Rattle.std.proofs.Common.{◌≡◌, ℕ, ◌+◌, ◌-◌, ◌≤◌, List, [], ◌++◌, length, take, drop, slice_range, Option, Result, Ok, Err, IfOk, IfErr, sym, ap, ◌∙◌, subst, arith, append_assoc}
use Rattle.std.proofs.lemmas.List.{append-nil, length-take}
use Rattle.std.specs.Io.KnownBytes.{Consumes, Keeps, IsAtEnd}
use Rattle.port_io.proofs.Offered.{Consumes-twice, Consumes-kept}
use Rattle.http_head.specs.declared.progress.Progress.{Progress}
use Rattle.http_head.specs.declared.route.RoutedHead.{RoutedHead}
use Rattle.http_head.specs.Heads.{IsOpenHead, IsPassedHead}
use Rattle.http_head.specs.Progress.{IsProgress}
use Rattle.admin_http.specs.declared.pieces.Dry.{Dry}
use Rattle.admin_http.specs.declared.pieces.Dry.TheVariants as dries
use Rattle.admin_http.specs.declared.head.TakenHead.{TakenHead}
use Rattle.admin_http.specs.declared.head.TakenHead.TheVariants as takens
use Rattle.admin_http.specs.Pieces.{Got}
use Rattle.admin_http.specs.Takes.{IsTakenHead, IsFront, TakesHead}
use Rattle.admin_http.proofs.Piecing.{behind-is}

pub looked-here : (progress : Progress) (text : List ℕ) → ((more : List ℕ) → IsProgress progress (text ++ more)) → IsProgress progress text
looked-here progress text looked = subst (IsProgress progress) (append-nil text) (looked [])

-- what was looked at stays so behind one more piece
pub looked-more : (progress : Progress) (before left : Option (List ℕ)) (old new : List ℕ) (count more : ℕ) → Got before left old new count more
    → ((rest : List ℕ) → IsProgress progress (take count old ++ rest)) → (rest : List ℕ) → IsProgress progress (take (count + more) new ++ rest)
looked-more progress before left old new count more got looked rest =
    subst (IsProgress progress) (sym (append_assoc (take count old) got.piece rest) ∙ ap (λ (t : List ℕ). t ++ rest) (sym got.stands)) (looked (got.piece ++ rest))

pub taken-more : (before mid left : Option (List ℕ)) (old new : List ℕ) (count more : ℕ) → Consumes before mid (take count old) → Got mid left old new count more
    → Consumes before left (take (count + more) new)
taken-more before mid left old new count more took got =
    subst (λ (t : List ℕ). Consumes before left t) (sym got.stands) (Consumes-twice before mid left (take count old) got.piece took got.took)

pub taken-end : (before mid left : Option (List ℕ)) (old new : List ℕ) (count : ℕ) → Consumes before mid (take count old) → Got mid left old new count 0
    → Consumes before left (take count new)
taken-end before mid left old new count took got =
    let same : count + 0 ≡ count = omega arith in
    subst (λ (n : ℕ). Consumes before left (take n new)) same (taken-more before mid left old new count 0 took got)

pub taken-kept : (before mid left : Option (List ℕ)) (old new : List ℕ) (count : ℕ) → Consumes before mid (take count old) → Keeps mid left → take count new ≡ take count old
    → Consumes before left (take count new)
taken-kept before mid left old new count took keeps front =
    subst (λ (t : List ℕ). Consumes before left t) (sym front) (Consumes-kept before mid left (take count old) took keeps)

pub front-of : (buffer : List ℕ) (count : ℕ) → count ≤ length buffer → IsFront (take count buffer) buffer
front-of buffer count h =
    let size : count ≡ length (take count buffer) = omega (arith, length-take count buffer, h) in
    record { within = omega (arith, length-take count buffer, h); is = ap (λ (n : ℕ). take n buffer) size }

pub last-end : (text buffer : List ℕ) (left : Option (List ℕ)) (r : Result TakenHead Dry) → IfOk r (IsTakenHead text) → IfErr r (λ e. (e ≡ dries.End) × IsOpenHead text)
    → IsAtEnd left → IsFront text buffer → TakesHead text buffer left r
last-end text buffer left (Ok head) ok err at front = (ok, front)
last-end text buffer left (Err e) ok err at front = subst (λ (d : Dry). TakesHead text buffer left (Err d)) (sym err.0) (err.1, at)

pub last-fault : (text buffer : List ℕ) (left : Option (List ℕ)) (r : Result TakenHead Dry) → IfOk r (IsTakenHead text) → IfErr r (λ e. (e ≡ dries.Fault) × IsOpenHead text)
    → IsFront text buffer → TakesHead text buffer left r
last-fault text buffer left (Ok head) ok err front = (ok, front)
last-fault text buffer left (Err e) ok err front = subst (λ (d : Dry). TakesHead text buffer left (Err d)) (sym err.0) err.1

pub never-fault : (text : List ℕ) (r : Result TakenHead Dry) → IfErr r (λ e. (e ≡ dries.End) × IsOpenHead text) → r ≡ Err dries.Fault → ⊥
never-fault text (Ok head) h e = cc
never-fault text (Err d) h e = (let end = h.0 in cc)

-- ---- a head that was taken

pub whole-here : (text buffer : List ℕ) (head : TakenHead) (routed : RoutedHead) (target_start target_end body_start count : ℕ)
    → head ≡ takens.Whole routed target_start target_end body_start count → IsTakenHead text head → IsFront text buffer
    → IsPassedHead text routed (slice_range (take count buffer) target_start target_end) (take (length (take count buffer) - body_start) (drop body_start (take count buffer)))
whole-here text buffer head routed target_start target_end body_start count is taken front =
    let whole = subst (λ (h : TakenHead). IsTakenHead text h) is taken in
    let here : text ≡ take count buffer = front.is ∙ ap (λ (n : ℕ). take n buffer) (sym whole.0) in
    let passed = subst (λ (t : List ℕ). IsPassedHead text routed (slice_range t target_start target_end) (drop body_start t)) here whole.1.0 in
    subst (λ (r : List ℕ). IsPassedHead text routed (slice_range (take count buffer) target_start target_end) r) (sym (behind-is body_start (take count buffer))) passed

pub end-here : (text buffer : List ℕ) (left : Option (List ℕ)) (dry : Dry) → dry ≡ dries.End → TakesHead text buffer left (Err dry) → IsOpenHead text × IsAtEnd left
end-here text buffer left dry is takes = subst (λ (d : Dry). TakesHead text buffer left (Err d)) is takes

pub fault-here : (text buffer : List ℕ) (left : Option (List ℕ)) (dry : Dry) → dry ≡ dries.Fault → TakesHead text buffer left (Err dry) → IsOpenHead text
fault-here text buffer left dry is takes = subst (λ (d : Dry). TakesHead text buffer left (Err d)) is takes
