-- What a reader gives, and the parts of what it is given.
use Rattle.std.proofs.Common.{◌≡◌, ℕ, ◌+◌, ◌^◌, ◌<◌, Bool, true, false, List, [], ◌∷◌, ◌++◌, length, drop, refl, ap, ◌∙◌, sym, subst, arith, append_assoc, append-nil, Result, Err}
use Rattle.std.specs.Prelude.{codes, decimal, ◌==◌}
use Rattle.std.specs.List.{AllByRecursion}
use Rattle.std.proofs.lemmas.List.{length-drop}
use Rattle.mail_names.specs.Key.{IsKey}
use Rattle.mail_message.specs.Lines.{crlf, ended}
use Rattle.journal_report.specs.declared.why.Why.{Why}
use Rattle.journal_report.specs.declared.why.Why.TheVariants as whys
use Rattle.journal_report.specs.declared.parts.Line.{Line}
use Rattle.journal_report.specs.declared.reading.ReportFault.{ReportFault}
use Rattle.journal_report.specs.Why.{route_text, steps_text, why_text}
use Rattle.journal_report.specs.Report.{target_line}
use Rattle.journal_report.specs.Reports.{FitsWhy, FitsLine, Told, IsNoMemory}
use Rattle.journal_report.specs.Reading.{place, before_space, from_space, line_of, behind_line, is_target, target_lines}
use Rattle.journal_report.proofs.Above.{above, above-append, lower_bound, decimal_above, key_above}
use Rattle.journal_report.proofs.Cutting.{before_space_end, before_space_again, from_space_end, from_space_again, line_again, behind_again}
use Rattle.journal_report.proofs.StepTexts.{as_steps, as-steps-keys, route-as_steps, steps_above}

-- where there is something to give, a fault is want of memory
pub told_err : {X : Type 0} (P : X → Type 0) (r : Result X ReportFault) (e : ReportFault) → r ≡ Err e → Told P r → IsNoMemory e
told_err P r e is h = subst (λ x. Told P x) is h

pub is_key : (a b : List ℕ) → a ≡ b → IsKey b → IsKey a
is_key a b e k = subst (λ (x : List ℕ). IsKey x) (sym e) k

pub some_left : (b : Bool) (rest : List ℕ) → b ≡ (length rest == 0) → b ≡ false → rest ≡ [] → ⊥
some_left b rest e over none = absurd (let empty : (length rest == 0) ≡ true = ap (λ (x : List ℕ). length x == 0) none in cc)

-- one more is read
pub one_more : {X : Type 0} (all old new rest others : List X) (value first : X) → all ≡ old ++ rest → rest ≡ first ∷ others → new ≡ old ++ value ∷ [] → value ≡ first → all ≡ new ++ others
one_more {X = X} all old new rest others value first e r n v =
    e ∙ ap (λ (x : List X). old ++ x) (r ∙ ap (λ (x : X). x ∷ others) (sym v)) ∙ sym (append_assoc old (value ∷ []) others) ∙ ap (λ (x : List X). x ++ others) (sym n)

-- the parts of a target's line
pub target_text : (text : List ℕ) (line : Line) → text ≡ target_line line → drop 11 text ≡ line.target ++ why_text line.why
unfolding target_line
target_text text line e = ap (λ (x : List ℕ). drop 11 x) e

target_here : (key : List ℕ) (why : Why) → IsKey key → before_space (key ++ why_text why) ≡ key
target_here key whys.Direct is = ap before_space (append-nil key) ∙ before_space_end key (key_above key is)
target_here key (whys.Via groups) is = before_space_again key (codes "via " ++ route_text groups) (key_above key is)
target_here key (whys.Copied rule) is = before_space_again key (codes "copied by rule " ++ decimal rule) (key_above key is)
target_here key (whys.Redirected rule) is = before_space_again key (codes "redirected by rule " ++ decimal rule) (key_above key is)
target_here key (whys.Through steps) is = before_space_again key (codes "via " ++ steps_text steps) (key_above key is)

why_here : (key : List ℕ) (why : Why) → IsKey key → from_space (key ++ why_text why) ≡ why_text why
why_here key whys.Direct is = ap from_space (append-nil key) ∙ from_space_end key (key_above key is)
why_here key (whys.Via groups) is = from_space_again key (codes "via " ++ route_text groups) (key_above key is)
why_here key (whys.Copied rule) is = from_space_again key (codes "copied by rule " ++ decimal rule) (key_above key is)
why_here key (whys.Redirected rule) is = from_space_again key (codes "redirected by rule " ++ decimal rule) (key_above key is)
why_here key (whys.Through steps) is = from_space_again key (codes "via " ++ steps_text steps) (key_above key is)

pub reads_target : (text part front : List ℕ) (line : Line) → text ≡ target_line line → FitsLine line → part ≡ drop 11 text → front ≡ before_space part → front ≡ line.target
reads_target text part front line e fits p f = f ∙ ap before_space (p ∙ target_text text line e) ∙ target_here line.target line.why fits.target

pub reads_why : (text part back : List ℕ) (line : Line) → text ≡ target_line line → FitsLine line → part ≡ drop 11 text → back ≡ from_space part → back ≡ why_text line.why
reads_why text part back line e fits p b = b ∙ ap from_space (p ∙ target_text text line e) ∙ why_here line.target line.why fits.target

-- no line has a control byte
small : (n : ℕ) → n < 2 ^ 32 → n < 2 ^ 64
small n h = omega arith

why_above : (why : Why) → FitsWhy why → above 32 (why_text why) ≡ true
why_above whys.Direct fits = refl
why_above (whys.Via groups) fits = above-append 32 (codes " via ") (route_text groups) refl
    (subst (λ (t : List ℕ). above 32 t ≡ true) (sym (route-as_steps groups)) (steps_above (as_steps groups) (as-steps-keys groups fits)))
why_above (whys.Copied rule) fits = above-append 32 (codes " copied by rule ") (decimal rule) refl (lower_bound (decimal rule) (decimal_above rule (small rule fits)))
why_above (whys.Redirected rule) fits = above-append 32 (codes " redirected by rule ") (decimal rule) refl (lower_bound (decimal rule) (decimal_above rule (small rule fits)))
why_above (whys.Through steps) fits = above-append 32 (codes " via ") (steps_text steps) refl (steps_above steps fits.0)

pub target_above : (line : Line) → FitsLine line → above 32 (target_line line) ≡ true
unfolding target_line
target_above line fits =
    above-append 32 (codes "Recipient: ") (line.target ++ why_text line.why) refl
    (above-append 32 line.target (why_text line.why) (lower_bound line.target (key_above line.target fits.target)) (why_above line.why fits.why))

clash : (b : Bool) → b ≡ true → b ≡ false → ⊥
clash b p q = absurd cc

pub target_next : (line : Line) (rest : List ℕ) → is_target (target_line line ++ rest) ≡ true
unfolding target_line is_target
target_next line rest = refl

targets_next : (line : Line) (lines : List Line) (rest : List ℕ) → is_target (target_lines (line ∷ lines) ++ rest) ≡ true
targets_next line lines rest =
    ap is_target (append_assoc (ended (target_line line)) (target_lines lines) rest ∙ append_assoc (target_line line) crlf (target_lines lines ++ rest))
    ∙ target_next line (crlf ++ (target_lines lines ++ rest))

-- the first of the targets
pub record FirstTarget (rest behind : List ℕ) (lines : List Line) : Type 0 where
  pub first : Line
  pub others : List Line
  pub is : lines ≡ first ∷ others
  pub fits : FitsLine first
  pub all : AllByRecursion FitsLine others
  pub here : line_of rest ≡ target_line first
  pub next : behind_line rest ≡ target_lines others ++ behind

pub first_target : (rest behind : List ℕ) (lines : List Line) → AllByRecursion FitsLine lines → is_target rest ≡ true → is_target behind ≡ false → rest ≡ target_lines lines ++ behind → FirstTarget rest behind lines
first_target rest behind [] all found over e = absurd (clash (is_target rest) found (ap is_target e ∙ over))
first_target rest behind (line ∷ lines) all found over e = record {
  first = line;
  others = lines;
  is = refl;
  fits = all.0;
  all = all.1;
  here = ap line_of (e ∙ append_assoc (ended (target_line line)) (target_lines lines) behind) ∙ line_again (target_line line) (target_lines lines ++ behind) (target_above line all.0);
  next = ap behind_line (e ∙ append_assoc (ended (target_line line)) (target_lines lines) behind) ∙ behind_again (target_line line) (target_lines lines ++ behind) (target_above line all.0);
}

-- none is left
pub no_target : (rest behind : List ℕ) (all read lines : List Line) → is_target rest ≡ false → all ≡ read ++ lines → rest ≡ target_lines lines ++ behind → (read ≡ all) × (rest ≡ behind)
no_target rest behind all read [] over p e = (sym (p ∙ append-nil read), e)
no_target rest behind all read (line ∷ lines) over p e = absurd (clash (is_target rest) (ap is_target e ∙ targets_next line lines behind) over)

target_some : (rest : List ℕ) → is_target rest ≡ true → 0 < length rest
unfolding is_target
target_some [] found = absurd cc
target_some (b ∷ rest) found = omega arith

pub goes_down : (rest new : List ℕ) → new ≡ behind_line rest → is_target rest ≡ true → length new < length rest
unfolding behind_line
goes_down rest new e found =
    let some = target_some rest found in
    let less = ap length e ∙ length-drop (place 13 rest + 2) rest in omega arith
