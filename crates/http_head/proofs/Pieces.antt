-- A head that comes in pieces.
use Rattle.std.proofs.Common.{◌≡◌, ℕ, ◌-◌, ◌≤◌, ◌<◌, Bool, true, false, not, ◌&&◌, ◌||◌, List, [], ◌∷◌, ◌++◌, length, take, drop, Some, refl, sym, ap, ◌∙◌, subst, arith, append_assoc, length-append, inl, inr}
use Rattle.std.proofs.lemmas.Bool.{false≢true}
use Rattle.std.proofs.lemmas.Bool.Decides.{leb_tells}
use Rattle.std.proofs.lemmas.List.{length-drop, take-append-drop, take_all}
use Rattle.std.proofs.lemmas.List.Folds.{list_all-append}
use Rattle.std.proofs.Math.Seq.{take-append_seam}
use Rattle.std.specs.List.{list_any, list_all}
use Rattle.httparse.specs.Grammar.{print_request}
use Rattle.matchit.proofs.LookupLemmas.{append-cancel}
use Rattle.http_head.specs.declared.head.Head.{Head}
use Rattle.http_head.specs.declared.head.Head.TheVariants as heads
use Rattle.http_head.specs.declared.progress.Progress.{Progress}
use Rattle.http_head.specs.Paths.{is_byte}
use Rattle.http_head.specs.Heads.{HasNoHead, is_line_end, behind_line_ends, line_feeds, ReadsHead}
use Rattle.http_head.specs.Progress.{IsProgress, GoesOn}
use Rattle.http_head.proofs.LineFeeds.{lf-append, lf-head}
use Rattle.http_head.proofs.Staying.{EndsLf, head-lf, tail-lf, same-front}
use Rattle.http_head.proofs.TargetLemmas.{and-left, and-right}

-- CRs and LFs alone
abbrev pub IsBlank : List ℕ → Type 0
IsBlank text = list_all is_line_end text ≡ true

behind-blank : (text : List ℕ) → IsBlank text → behind_line_ends text ≡ []
behind-blank [] h = refl
behind-blank (b ∷ bs) h = rw (and-left (is_line_end b) _ h) (behind-blank bs (and-right (is_line_end b) _ h))

-- no head is among CRs and LFs alone
pub blank-none : (text : List ℕ) → IsBlank text → HasNoHead text
blank-none text blank = λ head rest whole.
    let some = lf-head head rest whole.0.0 in
    let none : line_feeds (behind_line_ends (print_request head ++ rest)) ≡ 0 =
    ap (λ (t : List ℕ). line_feeds (behind_line_ends t)) (sym whole.0.1) ∙ ap line_feeds (behind-blank text blank) in
    absurd (omega (arith, some, none))

no-lf : (text : List ℕ) → list_any (is_byte 10) text ≡ false → line_feeds text ≡ 0
no-lf [] h = refl
no-lf (b ∷ bs) h = by (is_byte 10 b) refl h (no-lf bs)
  where
    by : (t : Bool) → is_byte 10 b ≡ t → (t || list_any (is_byte 10) bs) ≡ false → (list_any (is_byte 10) bs ≡ false → line_feeds bs ≡ 0)
        → line_feeds (b ∷ bs) ≡ 0
    by true e h more = absurd (false≢true (sym h))
    by false e h more = rw e (omega (arith, more h))

-- a head ends with an LF, so none becomes whole where no LF comes
pub quiet-none : (text more : List ℕ) → HasNoHead text → list_any (is_byte 10) more ≡ false → HasNoHead (text ++ more)
quiet-none text more none quiet = λ head rest whole.
    elim (leb_tells (length (print_request head)) (length text)) [
      | inl within ↦ none head (drop (length (print_request head)) text) ((whole.0.0, same-front text more (print_request head) rest whole.0.1 within.1), whole.1)
      | inr short ↦ (let behind = drop (length text) (print_request head) in
          let split : print_request head ≡ text ++ behind = same-front (print_request head) rest text more (sym whole.0.1) (omega (arith, short.1)) in
          let some : 0 < length behind = omega (arith, length-drop (length text) (print_request head), short.1) in
          let tail : 1 ≤ line_feeds behind = tail-lf text behind (subst EndsLf split (head-lf head)) some in
          let is : behind ++ rest ≡ more = append-cancel text (behind ++ rest) more (sym (append_assoc text behind rest) ∙ ap (λ (t : List ℕ). t ++ rest) (sym split) ∙ sym whole.0.1) in
          absurd (omega (arith, tail, ap line_feeds is, lf-append behind rest, no-lf more quiet)))
    ]

-- whether octets behind a text have begun a head that the text hasn't begun
pub still-blank : (text more : List ℕ) (before after : Bool) → (before ≡ false → IsBlank text) → after ≡ (before || not (list_all is_line_end more))
    → after ≡ false → IsBlank (text ++ more)
still-blank text more true after blank is none = absurd (false≢true (sym none ∙ is))
still-blank text more false after blank is none = by (list_all is_line_end more) refl (sym is ∙ none)
  where
    by : (t : Bool) → list_all is_line_end more ≡ t → not t ≡ false → IsBlank (text ++ more)
    by true e h = list_all-append is_line_end text more ∙ ap (λ (t : Bool). t && list_all is_line_end more) (blank refl) ∙ e
    by false e h = absurd (false≢true (sym h))

-- no head becomes whole where it hasn't begun, or no LF comes
pub undue-none : (text more : List ℕ) (after : Bool) → HasNoHead text → (after ≡ false → IsBlank (text ++ more)) → (after && list_any (is_byte 10) more) ≡ false
    → HasNoHead (text ++ more)
undue-none text more true none blank quiet = quiet-none text more none quiet
undue-none text more false none blank quiet = blank-none (text ++ more) (blank refl)

-- all of a text was looked at
pub record IsSeen (progress : Progress) (text : List ℕ) : Type 0 where
  pub all : progress.seen ≡ length text
  pub blank : progress.has_begun ≡ false → IsBlank text

-- what was looked at is the front of a longer text
pub seen-more : (progress : Progress) (text more : List ℕ) → IsSeen progress text → HasNoHead text → IsProgress progress (text ++ more)
seen-more progress text more seen none =
    let front : take progress.seen (text ++ more) ≡ text = ap (λ (n : ℕ). take n (text ++ more)) seen.all ∙ take-append_seam text more in
    record {
      within = omega (arith, seen.all, length-append text more);
      none = subst HasNoHead (sym front) none;
      blank = λ h. subst IsBlank (sym front) (seen.blank h);
    }

pub goes-on : (head : Head) (progress : Progress) (text : List ℕ) → IsSeen progress text → ReadsHead text head → GoesOn (Some head) progress text
goes-on heads.Open progress text seen reads = λ more. seen-more progress text more seen reads.none
goes-on (heads.Refused fault) progress text seen reads = tt
goes-on (heads.Whole routed target_start target_end body_start) progress text seen reads = tt

-- the octets that weren't looked at
piece-is : (n : ℕ) (text : List ℕ) → take (length text - n) (drop n text) ≡ drop n text
piece-is n text = take_all (length text - n) (drop n text) (omega (arith, length-drop n text))

-- what looking at the new octets of a text tells
pub record Looks (text piece : List ℕ) (after : Bool) : Type 0 where
  pub blank : after ≡ false → IsBlank text
  pub none : (after && list_any (is_byte 10) piece) ≡ false → HasNoHead text

pub looks : (progress : Progress) (text : List ℕ) (after : Bool) → IsProgress progress text
    → after ≡ (progress.has_begun || not (list_all is_line_end (take (length text - progress.seen) (drop progress.seen text))))
    → Looks text (take (length text - progress.seen) (drop progress.seen text)) after
looks progress text after is begins =
    let front = take progress.seen text in
    let new = drop progress.seen text in
    let same = piece-is progress.seen text in
    let whole : front ++ new ≡ text = take-append-drop progress.seen text in
    let begins' : after ≡ (progress.has_begun || not (list_all is_line_end new)) =
    begins ∙ ap (λ (t : List ℕ). progress.has_begun || not (list_all is_line_end t)) same in
    let blank : after ≡ false → IsBlank (front ++ new) = still-blank front new progress.has_begun after is.blank begins' in
    record {
      blank = λ h. subst IsBlank whole (blank h);
      none = λ quiet. subst HasNoHead whole (undue-none front new after is.none blank (ap (λ (t : List ℕ). after && list_any (is_byte 10) t) (sym same) ∙ quiet));
    }
