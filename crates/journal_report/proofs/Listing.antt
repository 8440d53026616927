-- A report lists its targets, and bytes list one list.
use Rattle.std.proofs.Common.{◌≡◌, ℕ, ◌^◌, ◌<◌, Bool, true, false, List, [], ◌∷◌, ◌++◌, drop, map, refl, ap, ◌∙◌, sym, subst, arith, append_assoc, append-nil}
use Rattle.std.specs.Prelude.{◌==◌, decimal, slice_index_or}
use Rattle.std.specs.List.{AllByRecursion}
use Rattle.std.proofs.lemmas.Bool.Decides.{nat_tests}
use Rattle.std.proofs.lemmas.Fmt.{decimal_injective}
use Rattle.std.proofs.lemmas.List.{take-append-drop}
use Rattle.mail_names.specs.Key.{IsKey}
use Rattle.mail_message.specs.Lines.{ended}
use Rattle.mail_message.specs.Enclose.{boundary_of}
use Rattle.mail_names.specs.Steps.{has_forward}
use Rattle.mail_names.specs.declared.route.Step.{Step}
use Rattle.journal_report.specs.declared.why.Why.{Why}
use Rattle.journal_report.specs.declared.why.Why.TheVariants as whys
use Rattle.journal_report.specs.declared.parts.Line.{Line}
use Rattle.journal_report.specs.declared.parts.ReportHead.{ReportHead}
use Rattle.journal_report.specs.Listed.{Names, NamesNext, Lists, OneLists, ListTogether}
use Rattle.journal_report.specs.Why.{route_text, steps_text, why_text}
use Rattle.journal_report.specs.Report.{target_line, list_text, report_text}
use Rattle.journal_report.specs.Reports.{is_report, FitsHead, FitsWhy, FitsLine}
use Rattle.journal_report.specs.Reading.{place, before_space, from_space, line_of, behind_line, skip, is_target, target_lines}
use Rattle.journal_report.proofs.StepTexts.{Keys, as_steps, as-steps-keys, as-steps-no_forward, keys-as_steps, one_steps, route-as_steps}
use Rattle.journal_report.proofs.Cutting.{line_again, behind_again}
use Rattle.journal_report.proofs.Finding.{found}
use Rattle.journal_report.proofs.Shape.{behind_targets}
use Rattle.journal_report.proofs.Told.{reads_target, reads_why, target_above, target_next}

names_next : (bytes behind : List ℕ) (lines : List Line) → AllByRecursion FitsLine lines → is_target behind ≡ false → bytes ≡ target_lines lines ++ behind → NamesNext bytes lines
names_next bytes behind [] all over e = ap is_target e ∙ over
names_next bytes behind (line ∷ lines) all over e =
    let cut = e ∙ append_assoc (ended (target_line line)) (target_lines lines) behind in
    let above = target_above line all.0 in (
      record { text = ap line_of cut ∙ line_again (target_line line) (target_lines lines ++ behind) above; fits = all.0 },
      names_next (behind_line bytes) behind lines all.1 over (ap behind_line cut ∙ behind_again (target_line line) (target_lines lines ++ behind) above),
    )

pub lists : (head : ReportHead) (lines : List Line) (original : List ℕ) → FitsHead head → AllByRecursion FitsLine lines → is_report head lines ≡ true → Lists (report_text head lines original) lines
lists head lines original fits all h =
    let f = found (report_text head lines original) head lines original fits h refl in
    names_next (skip 18 (report_text head lines original)) (behind_targets (boundary_of (list_text head lines) original) original) lines all f.over f.targets

-- the text of a reason is no other reason's
same_cons : {X : Type 0} (x y : X) (xs ys : List X) → x ≡ y → xs ≡ ys → (x ∷ xs) ≡ (y ∷ ys)
same_cons {X = X} x y xs ys p q = ap (λ (z : X). z ∷ xs) p ∙ ap (λ (zs : List X). y ∷ zs) q

one_route : (a b : List (List ℕ)) → AllByRecursion IsKey a → AllByRecursion IsKey b → route_text a ≡ route_text b → a ≡ b
one_route a b p q e =
    sym (keys-as_steps a)
    ∙ ap (λ (steps : List Step). map (λ (s : Step). s.key) steps)
    (one_steps (as_steps a) (as_steps b) (as-steps-keys a p) (as-steps-keys b q) (sym (route-as_steps a) ∙ e ∙ route-as_steps b))
    ∙ keys-as_steps b

-- Groups alone are told by no forward.
no_forward : (groups : List (List ℕ)) (steps : List Step) → AllByRecursion IsKey groups → Keys steps → has_forward steps ≡ true → route_text groups ≡ steps_text steps → ⊥
no_forward groups steps p q forwarded e =
    let same = one_steps (as_steps groups) steps (as-steps-keys groups p) q (sym (route-as_steps groups) ∙ e) in
    let none : has_forward steps ≡ false = ap has_forward (sym same) ∙ as-steps-no_forward groups in
    cc (forwarded, none)

small : (n : ℕ) → n < 2 ^ 32 → n < 2 ^ 64
small n h = omega arith

one_number : (m n : ℕ) → m < 2 ^ 32 → n < 2 ^ 32 → decimal m ≡ decimal n → m ≡ n
one_number m n p q e = decimal_injective m n (small m p) (small n q) e

abbrev second : List ℕ → ℕ
second text = slice_index_or text 1 0

apart : (a b : ℕ) → (a == b) ≡ false → a ≡ b → ⊥
apart a b h e = grind (arith, nat_tests)

one_why : (a b : Why) → FitsWhy a → FitsWhy b → why_text a ≡ why_text b → a ≡ b
one_why whys.Direct whys.Direct p q e = refl
one_why whys.Direct (whys.Via groups) p q e = absurd cc
one_why whys.Direct (whys.Copied rule) p q e = absurd cc
one_why whys.Direct (whys.Redirected rule) p q e = absurd cc
one_why whys.Direct (whys.Through steps) p q e = absurd cc
one_why (whys.Via groups) whys.Direct p q e = absurd cc
one_why (whys.Via groups) (whys.Via others) p q e = ap (λ (x : List (List ℕ)). whys.Via x) (one_route groups others p q (ap (λ (x : List ℕ). drop 5 x) e))
one_why (whys.Via groups) (whys.Copied rule) p q e = absurd (apart 118 99 refl (ap second e))
one_why (whys.Via groups) (whys.Redirected rule) p q e = absurd (apart 118 114 refl (ap second e))
one_why (whys.Via groups) (whys.Through steps) p q e = absurd (no_forward groups steps p q.0 q.1 (ap (λ (x : List ℕ). drop 5 x) e))
one_why (whys.Copied rule) whys.Direct p q e = absurd cc
one_why (whys.Copied rule) (whys.Via groups) p q e = absurd (apart 99 118 refl (ap second e))
one_why (whys.Copied rule) (whys.Copied other) p q e = ap (λ (x : ℕ). whys.Copied x) (one_number rule other p q (ap (λ (x : List ℕ). drop 16 x) e))
one_why (whys.Copied rule) (whys.Redirected other) p q e = absurd (apart 99 114 refl (ap second e))
one_why (whys.Copied rule) (whys.Through steps) p q e = absurd (apart 99 118 refl (ap second e))
one_why (whys.Redirected rule) whys.Direct p q e = absurd cc
one_why (whys.Redirected rule) (whys.Via groups) p q e = absurd (apart 114 118 refl (ap second e))
one_why (whys.Redirected rule) (whys.Copied other) p q e = absurd (apart 114 99 refl (ap second e))
one_why (whys.Redirected rule) (whys.Redirected other) p q e = ap (λ (x : ℕ). whys.Redirected x) (one_number rule other p q (ap (λ (x : List ℕ). drop 20 x) e))
one_why (whys.Redirected rule) (whys.Through steps) p q e = absurd (apart 114 118 refl (ap second e))
one_why (whys.Through steps) whys.Direct p q e = absurd cc
one_why (whys.Through steps) (whys.Via groups) p q e = absurd (no_forward groups steps q p.0 p.1 (ap (λ (x : List ℕ). drop 5 x) (sym e)))
one_why (whys.Through steps) (whys.Copied rule) p q e = absurd (apart 118 99 refl (ap second e))
one_why (whys.Through steps) (whys.Redirected rule) p q e = absurd (apart 118 114 refl (ap second e))
one_why (whys.Through steps) (whys.Through others) p q e = ap (λ (x : List Step). whys.Through x) (one_steps steps others p.0 q.0 (ap (λ (x : List ℕ). drop 5 x) e))

same_line : (a b : Line) → a.target ≡ b.target → a.why ≡ b.why → a ≡ b
same_line a b p q =
    ap (λ (t : List ℕ). let l : Line = record { target = t; why = a.why } in l) p
    ∙ ap (λ (w : Why). let l : Line = record { target = b.target; why = w } in l) q

one_line : (bytes : List ℕ) (a b : Line) → Names bytes a → Names bytes b → a ≡ b
one_line bytes a b p q =
    let part = drop 11 bytes in
    same_line a b
    (sym (reads_target bytes part (before_space part) a p.text p.fits refl refl) ∙ reads_target bytes part (before_space part) b q.text q.fits refl refl)
    (one_why a.why b.why p.fits.why q.fits.why (sym (reads_why bytes part (from_space part) a p.text p.fits refl refl) ∙ reads_why bytes part (from_space part) b q.text q.fits refl refl))

clash : (b : Bool) → b ≡ true → b ≡ false → ⊥
clash b p q = absurd cc

is_next : (bytes : List ℕ) (line : Line) → Names (line_of bytes) line → is_target bytes ≡ true
unfolding line_of
is_next bytes line names =
    ap is_target (sym (take-append-drop (place 13 bytes) bytes) ∙ ap (λ (x : List ℕ). x ++ drop (place 13 bytes) bytes) names.text)
    ∙ target_next line (drop (place 13 bytes) bytes)

one_next : (bytes : List ℕ) (a b : List Line) → NamesNext bytes a → NamesNext bytes b → a ≡ b
one_next bytes [] [] p q = refl
one_next bytes [] (m ∷ b) p q = absurd (clash (is_target bytes) (is_next bytes m q.0) p)
one_next bytes (l ∷ a) [] p q = absurd (clash (is_target bytes) (is_next bytes l p.0) q)
one_next bytes (l ∷ a) (m ∷ b) p q = same_cons l m a b (one_line (line_of bytes) l m p.0 q.0) (one_next (behind_line bytes) a b p.1 q.1)

pub one_list : (bytes : List ℕ) (lines others : List Line) → Lists bytes lines → Lists bytes others → lines ≡ others
one_list bytes lines others p q = one_next (skip 18 bytes) lines others p q

-- together
pub one_together : (reports : List (List ℕ)) (lines others : List Line) → ListTogether reports lines → ListTogether reports others → lines ≡ others
one_together [] lines others p q = p ∙ sym q
one_together (report ∷ reports) lines others p q =
    p.2 ∙ (ap (λ (x : List Line). x ++ p.1) (one_list report p.0 q.0 p.3 q.3) ∙ (ap (λ (x : List Line). q.0 ++ x) (one_together reports p.1 q.1 p.4 q.4) ∙ sym q.2))

pub go_on : (reports more : List (List ℕ)) (lines rest : List Line) → ListTogether reports lines → ListTogether more rest → ListTogether (reports ++ more) (lines ++ rest)
go_on [] more lines rest p q = subst (λ (x : List Line). ListTogether more (x ++ rest)) (sym p) q
go_on (report ∷ reports) more lines rest p q =
    (p.0, p.1 ++ rest, ap (λ (x : List Line). x ++ rest) p.2 ∙ append_assoc p.0 p.1 rest, p.3, go_on reports more p.1 rest p.4 q)

pub one_lists : (reports : List (List ℕ)) (lines : List Line) → OneLists reports lines → ListTogether reports lines
one_lists reports [] p = subst (λ (x : List (List ℕ)). ListTogether x []) (sym p) refl
one_lists reports (line ∷ lines) p =
    subst (λ (x : List (List ℕ)). ListTogether x (line ∷ lines)) (sym p.1) (line ∷ lines, [], sym (append-nil (line ∷ lines)), p.2, refl)
