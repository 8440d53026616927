-- The bytes of a report, line by line.
use Rattle.std.proofs.Common.{◌≡◌, ℕ, zero, suc, ◌≤◌, List, [], ◌∷◌, ◌++◌, length, drop, map, refl, ap, ◌∙◌, sym, arith, append_assoc, append-nil}
use Rattle.std.specs.Prelude.{codes}
use Rattle.std.specs.List.{flat_map, AllByRecursion}
use Rattle.std.proofs.lemmas.Grind.{flat_map-append}
use Rattle.std.proofs.lemmas.List.Folds.{flat_map-map}
use Rattle.mail_message.specs.Lines.{crlf, ended}
use Rattle.mail_message.specs.Enclose.{enclosed, boundary_of}
use Rattle.journal_report.specs.declared.parts.ReportHead.{ReportHead}
use Rattle.journal_report.specs.declared.parts.Line.{Line}
use Rattle.journal_report.specs.Report.{head_lines, sender_line, about_lines, target_line, next, list_text, report_text}
use Rattle.journal_report.specs.Reading.{line_of, behind_line, skip, line_at, target_lines}
use Rattle.journal_report.proofs.Visible.{Visible}
use Rattle.journal_report.proofs.Cutting.{line_again, behind_again}

abbrev pub text_of : List (List ℕ) → List ℕ
text_of lines = flat_map ended lines

gather : (xs ys : List (List ℕ)) (rest : List ℕ) → text_of xs ++ (text_of ys ++ rest) ≡ text_of (xs ++ ys) ++ rest
gather xs ys rest = sym (append_assoc (text_of xs) (text_of ys) rest) ∙ ap (λ x. x ++ rest) (sym (flat_map-append ended xs ys))

split : (xs ys : List (List ℕ)) → text_of (xs ++ ys) ≡ text_of xs ++ text_of ys
split xs ys = flat_map-append ended xs ys

-- lines behind CRLF, and a last CRLF
lines_end : (lines : List (List ℕ)) → flat_map next lines ++ crlf ≡ crlf ++ text_of lines
lines_end [] = refl
lines_end (line ∷ lines) =
    append_assoc (crlf ++ line) (flat_map next lines) crlf
    ∙ ap (λ x. (crlf ++ line) ++ x) (lines_end lines)
    ∙ ap (λ x. crlf ++ x) (sym (append_assoc line crlf (text_of lines)))

list_end : (first : List ℕ) (about : List (List ℕ)) (lines : List Line) →
    ended (first ++ (flat_map next about ++ flat_map (λ line. next (target_line line)) lines)) ≡ text_of (first ∷ about) ++ target_lines lines
list_end first about lines =
    ap (λ x. (first ++ (flat_map next about ++ x)) ++ crlf) (sym (flat_map-map next target_line lines))
    ∙ ap (λ x. (first ++ x) ++ crlf) (sym (flat_map-append next about (map target_line lines)))
    ∙ append_assoc first (flat_map next (about ++ map target_line lines)) crlf
    ∙ ap (λ x. first ++ x) (lines_end (about ++ map target_line lines))
    ∙ sym (append_assoc first crlf (text_of (about ++ map target_line lines)))
    ∙ ap (λ x. ended first ++ x) (split about (map target_line lines) ∙ ap (λ x. text_of about ++ x) (flat_map-map ended target_line lines))
    ∙ sym (append_assoc (ended first) (text_of about) (target_lines lines))

-- the lines between the outer fields and the text
abbrev pub above_text : List ℕ → List (List ℕ)
above_text delimiter = delimiter ∷ codes "Content-Type: text/plain; charset=utf-8" ∷ codes "Content-Transfer-Encoding: 8bit" ∷ [] ∷ []

-- those between the text and the message
abbrev pub back_lines : List ℕ → List (List ℕ)
back_lines delimiter = delimiter ∷ codes "Content-Type: message/rfc822" ∷ codes "Content-Transfer-Encoding: 8bit" ∷ [] ∷ []

abbrev pub outer_lines : List ℕ → List (List ℕ)
outer_lines mark = codes "MIME-Version: 1.0" ∷ (codes "Content-Type: multipart/mixed; boundary=\"" ++ (mark ++ codes "\"")) ∷ codes "Content-Transfer-Encoding: 8bit" ∷ []

-- what stands behind the message
abbrev pub end_of : List ℕ → List ℕ
end_of last = crlf ++ ended last

pieces : (a b c d e s : List (List ℕ)) (text targets original last : List ℕ) → ended text ≡ text_of s ++ targets →
    text_of a ++ (text_of b ++ (text_of c ++ (text_of d ++ (ended text ++ (text_of e ++ (ended original ++ (ended last ++ []))))))) ≡
    text_of (a ++ (b ++ (c ++ (d ++ s)))) ++ (targets ++ (text_of e ++ (original ++ end_of last)))
pieces a b c d e s text targets original last h =
    ap (λ x. text_of a ++ (text_of b ++ (text_of c ++ (text_of d ++ x))))
    (ap (λ x. x ++ (text_of e ++ (ended original ++ (ended last ++ [])))) h
    ∙ append_assoc (text_of s) targets (text_of e ++ (ended original ++ (ended last ++ [])))
    ∙ ap (λ x. text_of s ++ (targets ++ (text_of e ++ x))) (ap (λ x. ended original ++ x) (append-nil (ended last)) ∙ append_assoc original crlf (ended last)))
    ∙ ap (λ x. text_of a ++ (text_of b ++ (text_of c ++ x))) (gather d s rest)
    ∙ ap (λ x. text_of a ++ (text_of b ++ x)) (gather c (d ++ s) rest)
    ∙ ap (λ x. text_of a ++ x) (gather b (c ++ (d ++ s)) rest)
    ∙ gather a (b ++ (c ++ (d ++ s))) rest
  where
    rest : List ℕ
    rest = targets ++ (text_of e ++ (original ++ end_of last))

abbrev pub front_lines : List ℕ → ReportHead → ℕ → List (List ℕ)
front_lines mark head count =
    head_lines head ++ (outer_lines mark ++ (([] ∷ []) ++ (above_text (codes "--" ++ mark) ++ (sender_line head.sender ∷ about_lines head count))))

abbrev pub behind_targets : List ℕ → List ℕ → List ℕ
behind_targets mark original = text_of (back_lines (codes "--" ++ mark)) ++ (original ++ end_of (codes "--" ++ (mark ++ codes "--")))

inside_pieces : (d e : List (List ℕ)) (text original last : List ℕ) →
    text_of (d ++ (text ∷ (e ++ (original ∷ last ∷ [])))) ≡ text_of d ++ (ended text ++ (text_of e ++ (ended original ++ (ended last ++ []))))
inside_pieces d e text original last =
    split d (text ∷ (e ++ (original ∷ last ∷ []))) ∙ ap (λ x. text_of d ++ (ended text ++ x)) (split e (original ∷ last ∷ []))

list_lines : (head : ReportHead) (lines : List Line) → ended (list_text head lines) ≡ text_of (sender_line head.sender ∷ about_lines head (length lines)) ++ target_lines lines
unfolding list_text
list_lines head lines = list_end (sender_line head.sender) (about_lines head (length lines)) lines

enclosed_lines : (mark : List ℕ) (head : ReportHead) (lines : List Line) (original : List ℕ) →
    enclosed mark (text_of (head_lines head)) (list_text head lines) original
    ≡ text_of (front_lines mark head (length lines)) ++ (target_lines lines ++ behind_targets mark original)
enclosed_lines mark head lines original =
    ap (λ x. text_of (head_lines head) ++ (text_of (outer_lines mark) ++ (crlf ++ x)))
    (inside_pieces (above_text (codes "--" ++ mark)) (back_lines (codes "--" ++ mark)) (list_text head lines) original (codes "--" ++ (mark ++ codes "--")))
    ∙ pieces (head_lines head) (outer_lines mark) ([] ∷ []) (above_text (codes "--" ++ mark)) (back_lines (codes "--" ++ mark))
    (sender_line head.sender ∷ about_lines head (length lines)) (list_text head lines) (target_lines lines) original (codes "--" ++ (mark ++ codes "--")) (list_lines head lines)

pub shape : (head : ReportHead) (lines : List Line) (original : List ℕ) →
    report_text head lines original
    ≡ text_of (front_lines (boundary_of (list_text head lines) original) head (length lines)) ++ (target_lines lines ++ behind_targets (boundary_of (list_text head lines) original) original)
unfolding report_text
shape head lines original = enclosed_lines (boundary_of (list_text head lines) original) head lines original

pub skip_again : (n : ℕ) (lines : List (List ℕ)) (rest : List ℕ) → AllByRecursion Visible lines → n ≤ length lines → skip n (text_of lines ++ rest) ≡ text_of (drop n lines) ++ rest
unfolding skip
skip_again zero lines rest all h = refl
skip_again (suc n) [] rest all h = absurd (omega arith)
skip_again (suc n) (line ∷ lines) rest all h =
    sym (commute n (text_of (line ∷ lines) ++ rest))
    ∙ ap (skip n) (ap behind_line (append_assoc (ended line) (text_of lines) rest) ∙ behind_again line (text_of lines ++ rest) all.0)
    ∙ skip_again n lines rest all.1 (omega arith)
  where
    commute : (n : ℕ) (bytes : List ℕ) → skip n (behind_line bytes) ≡ behind_line (skip n bytes)
    commute zero bytes = refl
    commute (suc n) bytes = ap behind_line (commute n bytes)

first_again : (line : List ℕ) (lines : List (List ℕ)) (rest : List ℕ) → Visible line → line_of (text_of (line ∷ lines) ++ rest) ≡ line
first_again line lines rest h = ap line_of (append_assoc (ended line) (text_of lines) rest) ∙ line_again line (text_of lines ++ rest) h

pub line_at_again : (n : ℕ) (lines : List (List ℕ)) (line : List ℕ) (more : List (List ℕ)) (rest : List ℕ) → AllByRecursion Visible lines → n ≤ length lines → drop n lines ≡ line ∷ more → Visible line →
    line_at n (text_of lines ++ rest) ≡ line
unfolding line_at
line_at_again n lines line more rest all h d v =
    ap line_of (skip_again n lines rest all h ∙ ap (λ x. text_of x ++ rest) d) ∙ first_again line more rest v
