-- What a dialog holds, from step to step.
use Rattle.std.proofs.Common.{◌≡◌, ◌<◌, ◌≤◌, ◌+◌, ◌-◌, ℕ, Bool, true, false, cond, List, [], ◌∷◌, ◌++◌, length, take, drop, refl, ap, ◌∙◌, sym, subst, arith, Option, Some, None}
use Rattle.std.proofs.lemmas.List.{append-nil, append_assoc, drop_all, drop_more, drop-append-le, length-append}
use Rattle.std.proofs.lemmas.List.Concat.{flat_map-append}
use Rattle.std.proofs.lemmas.Bool.{false≢true}
use Rattle.std.specs.Option.{is_some}
use Rattle.std.specs.List.{flat_map}
use Rattle.smtp_front.specs.declared.dialog.Event.{Event}
use Rattle.smtp_front.specs.declared.part.Part.{Part}
use Rattle.smtp_front.specs.declared.dialog.Dialog.{Dialog}
use Rattle.mail_names.specs.Lines.{Lines, lines_of}
use Rattle.smtp_front.specs.Events.{Held, Next, nothing, fed, next_of, next_line, next_content, command, content, Body, body_of, kept, unstuffed, is_dot, is_between, is_none}
use Rattle.smtp_front.specs.Holds.{NoLine, ends_cr, IsPart, IsContent, NoDot, Holds, Answers, kept_in}
use Rattle.smtp_front.proofs.Cutting.{no_line-is, text-ends, lines-append, then_text, body-none, body-dot, no_dot-add, left-whole}

pub starts : (alloc_part : Part) → IsPart alloc_part [] → Holds (record { awaits = false; held = []; at = 0; part = alloc_part; content = []; over = false }) nothing
unfolding lines_of
starts part is = record {
  seen = [];
  part = [];
  awaits = refl;
  is_part = is;
  no_line = tt;
  lines = refl;
  left = refl;
  content = (refl, omega arith);
  none = λ _. (refl, refl);
  no_dot = tt;
  within = omega arith;
}

pub feeds : (d : Dialog) (h : Held) (piece new : List ℕ) → Holds d h → new ≡ d.held ++ piece → Holds (record d { held = new }) (fed h piece)
feeds d h piece new s e =
    let rest : drop d.at new ≡ drop d.at d.held ++ piece = ap (drop d.at) e ∙ drop-append-le d.at d.held piece s.within in
    let all : lines_of (s.part ++ drop d.at new) ≡ then_text (lines_of (s.part ++ drop d.at d.held)) piece =
    ap (λ t. lines_of (s.part ++ t)) rest ∙ ap lines_of (sym (append_assoc s.part (drop d.at d.held) piece)) ∙ lines-append (s.part ++ drop d.at d.held) piece in
    let same : (lines_of (h.left ++ piece)) ≡ lines_of ((lines_of (s.part ++ drop d.at d.held)).left ++ piece) = ap (λ t. lines_of (t ++ piece)) s.left in
    record {
      seen = s.seen;
      part = s.part;
      awaits = s.awaits;
      is_part = s.is_part;
      no_line = s.no_line;
      lines = ap (λ (ls : List (List ℕ)). ls ++ (lines_of (h.left ++ piece)).lines) s.lines
          ∙ append_assoc s.seen (lines_of (s.part ++ drop d.at d.held)).lines (lines_of (h.left ++ piece)).lines
          ∙ ap (λ (p : Lines). s.seen ++ ((lines_of (s.part ++ drop d.at d.held)).lines ++ p.lines)) same
          ∙ sym (ap (λ (p : Lines). s.seen ++ p.lines) all);
      left = ap (λ (p : Lines). p.left) same ∙ sym (ap (λ (p : Lines). p.left) all);
      content = s.content;
      none = s.none;
      no_dot = s.no_dot;
      within = subst (λ (t : List ℕ). d.at ≤ length t) (sym e) (subst (λ (n : ℕ). d.at ≤ n) (sym (length-append d.held piece)) (omega (arith, s.within)));
    }

-- octets that end no line
pub more : (d : Dialog) (h : Held) (run : List ℕ) (n : ℕ) (part : Part) → Holds d h → n ≤ length d.held → drop d.at d.held ≡ run ++ drop n d.held →
    ((t : List ℕ) → IsPart d.part t → IsPart part (t ++ run)) → ((t : List ℕ) → IsPart d.part t → NoLine t → NoLine (t ++ run)) →
    Holds (record d { at = n; part = part }) h
more d h run n part s within at adds goes_on =
    let same : s.part ++ drop d.at d.held ≡ (s.part ++ run) ++ drop n d.held = ap (λ t. s.part ++ t) at ∙ sym (append_assoc s.part run (drop n d.held)) in
    record {
      seen = s.seen;
      part = s.part ++ run;
      awaits = s.awaits;
      is_part = adds s.part s.is_part;
      no_line = goes_on s.part s.is_part s.no_line;
      lines = s.lines ∙ ap (λ t. s.seen ++ (lines_of t).lines) same;
      left = s.left ∙ ap (λ t. (lines_of t).left) same;
      content = s.content;
      none = s.none;
      no_dot = s.no_dot;
      within = within;
    }

-- the text behind an end of a line
behind : (d : Dialog) (h : Held) (s : Holds d h) → drop d.at d.held ≡ 10 ∷ drop (d.at + 1) d.held → ends_cr s.part ≡ true →
    lines_of (s.part ++ drop d.at d.held) ≡ record { lines = take (length s.part - 1) s.part ∷ (lines_of (drop (d.at + 1) d.held)).lines; left = (lines_of (drop (d.at + 1) d.held)).left }
behind d h s at ends =
    ap (λ t. lines_of (s.part ++ t)) at
    ∙ text-ends s.part (drop (d.at + 1) d.held) s.no_line ends

-- a command line
pub command-line : (d : Dialog) (h : Held) (part : Part) (event : Event) → Holds d h → d.at < length d.held → drop d.at d.held ≡ 10 ∷ drop (d.at + 1) d.held →
    ((t : List ℕ) → IsPart d.part t → ends_cr t ≡ true) → d.awaits ≡ false → IsPart part [] →
    ((t : List ℕ) → IsPart d.part t → ends_cr t ≡ true → event ≡ command (take (length t - 1) t)) →
    Answers (Some event) (record d { at = d.at + 1; part = part }) h
command-line d h part event s within at ends awaits new is =
    let e = ends s.part s.is_part in
    let cut = behind d h s at e in
    let none = s.none awaits in
    let rest = drop (d.at + 1) d.held in
    let line = take (length s.part - 1) s.part in
    let lines : h.lines ≡ line ∷ (lines_of rest).lines = s.lines ∙ ap (λ (seen : List (List ℕ)). seen ++ (lines_of (s.part ++ drop d.at d.held)).lines) none.0 ∙ ap (λ (p : Lines). p.lines) cut in
    let next : next_of h ≡ record { event = Some (command line); held = record { awaits = false; lines = (lines_of rest).lines; left = h.left } } =
    ap (λ (t : Bool). cond t (next_content h (body_of h.lines)) (next_line h h.lines)) (sym s.awaits ∙ awaits)
    ∙ ap (next_line h) lines in (
      ap (λ (x : Event). Some x) (is s.part s.is_part e) ∙ sym (ap (λ (n : Next). n.event) next),
      subst (λ (n : Next). Holds (record d { at = d.at + 1; part = part }) n.held) (sym next)
          (record {
            seen = [];
            part = [];
            awaits = awaits;
            is_part = new;
            no_line = tt;
            lines = refl;
            left = s.left ∙ ap (λ (p : Lines). p.left) cut;
            content = subst (λ (seen : List (List ℕ)). IsContent d.over d.content seen) none.0 s.content;
            none = λ _. (refl, none.1);
            no_dot = tt;
            within = omega (arith, within);
          }),
    )

-- the dot line
pub dot-line : (d : Dialog) (h : Held) (part : Part) (event : Event) (empty : List ℕ) → Holds d h → d.at < length d.held → drop d.at d.held ≡ 10 ∷ drop (d.at + 1) d.held →
    ((t : List ℕ) → IsPart d.part t → ends_cr t ≡ true) → d.awaits ≡ true → IsPart part [] →
    ((t : List ℕ) → IsPart d.part t → ends_cr t ≡ true → is_dot (take (length t - 1) t) ≡ true) →
    ((lines : List (List ℕ)) → IsContent d.over d.content lines → event ≡ content (flat_map kept lines)) → empty ≡ [] →
    Answers (Some event) (record d { awaits = false; at = d.at + 1; part = part; content = empty; over = false }) h
dot-line d h part event empty s within at ends awaits new dot is none =
    let e = ends s.part s.is_part in
    let cut = behind d h s at e in
    let rest = drop (d.at + 1) d.held in
    let line = take (length s.part - 1) s.part in
    let lines : h.lines ≡ s.seen ++ line ∷ (lines_of rest).lines = s.lines ∙ ap (λ (p : Lines). s.seen ++ p.lines) cut in
    let next : next_of h ≡ record { event = Some (content (flat_map kept s.seen)); held = record { awaits = false; lines = (lines_of rest).lines; left = h.left } } =
    ap (λ (t : Bool). cond t (next_content h (body_of h.lines)) (next_line h h.lines)) (sym s.awaits ∙ awaits)
    ∙ ap (λ (ls : List (List ℕ)). next_content h (body_of ls)) lines
    ∙ ap (next_content h) (body-dot s.seen (lines_of rest).lines line s.no_dot (dot s.part s.is_part e)) in (
      ap (λ (x : Event). Some x) (is s.seen s.content) ∙ sym (ap (λ (n : Next). n.event) next),
      subst (λ (n : Next). Holds (record d { awaits = false; at = d.at + 1; part = part; content = empty; over = false }) n.held) (sym next)
          (record {
            seen = [];
            part = [];
            awaits = refl;
            is_part = new;
            no_line = tt;
            lines = refl;
            left = s.left ∙ ap (λ (p : Lines). p.left) cut;
            content = subst (λ (v : List ℕ). IsContent false v []) (sym none) (refl, omega arith);
            none = λ _. (refl, refl);
            no_dot = tt;
            within = omega (arith, within);
          }),
    )

-- a line of a content
pub content-line : (d : Dialog) (h : Held) (part : Part) (bytes : List ℕ) (over : Bool) → Holds d h → d.at < length d.held → drop d.at d.held ≡ 10 ∷ drop (d.at + 1) d.held →
    ((t : List ℕ) → IsPart d.part t → ends_cr t ≡ true) → d.awaits ≡ true → IsPart part [] →
    ((t : List ℕ) → IsPart d.part t → ends_cr t ≡ true → is_dot (take (length t - 1) t) ≡ false) →
    ((t : List ℕ) (lines : List (List ℕ)) → IsPart d.part t → ends_cr t ≡ true → IsContent d.over d.content lines → IsContent over bytes (lines ++ take (length t - 1) t ∷ [])) →
    Holds (record d { at = d.at + 1; part = part; content = bytes; over = over }) h
content-line d h part bytes over s within at ends awaits new dot is =
    let e = ends s.part s.is_part in
    let cut = behind d h s at e in
    let line = take (length s.part - 1) s.part in
    record {
      seen = s.seen ++ line ∷ [];
      part = [];
      awaits = s.awaits;
      is_part = new;
      no_line = tt;
      lines = s.lines ∙ ap (λ (p : Lines). s.seen ++ p.lines) cut ∙ sym (append_assoc s.seen (line ∷ []) (lines_of (drop (d.at + 1) d.held)).lines);
      left = s.left ∙ ap (λ (p : Lines). p.left) cut;
      content = is s.part s.seen s.is_part e s.content;
      none = λ e. absurd (false≢true (sym e ∙ awaits));
      no_dot = no_dot-add s.seen line s.no_dot (dot s.part s.is_part e);
      within = omega (arith, within);
    }

by-awaits : (t : Bool) (h : Held) (seen : List (List ℕ)) → (t ≡ false → seen ≡ []) → NoDot seen → cond t (next_content h (body_of seen)) (next_line h seen) ≡ record { event = None; held = h }
by-awaits true h seen none dots = ap (next_content h) (body-none seen dots)
by-awaits false h seen none dots = ap (next_line h) (none refl)

waits-next : (d : Dialog) (h : Held) (s : Holds d h) → h.lines ≡ s.seen → next_of h ≡ record { event = None; held = h }
waits-next d h s lines =
    ap (λ (ls : List (List ℕ)). cond h.awaits (next_content h (body_of ls)) (next_line h ls)) lines
    ∙ by-awaits h.awaits h s.seen (λ e. (s.none (s.awaits ∙ e)).0) s.no_dot

-- no byte is left
pub waits : (d : Dialog) (h : Held) (empty : List ℕ) → Holds d h → length d.held ≤ d.at → empty ≡ [] → Answers None (record d { held = empty; at = 0 }) h
waits d h empty s all none =
    let rest : drop d.at d.held ≡ [] = drop_all d.at d.held all in
    let cut : lines_of (s.part ++ drop d.at d.held) ≡ record { lines = []; left = s.part } = ap (λ t. lines_of (s.part ++ t)) rest ∙ ap lines_of (append-nil s.part) ∙ no_line-is s.part s.no_line in
    let lines : h.lines ≡ s.seen = s.lines ∙ ap (λ (p : Lines). s.seen ++ p.lines) cut ∙ append-nil s.seen in
    let next : next_of h ≡ record { event = None; held = h } = waits-next d h s lines in (
      sym (ap (λ (n : Next). n.event) next),
      subst (λ (n : Next). Holds (record d { held = empty; at = 0 }) n.held) (sym next)
          (record {
            seen = s.seen;
            part = s.part;
            awaits = s.awaits;
            is_part = s.is_part;
            no_line = s.no_line;
            lines = s.lines ∙ ap (λ t. s.seen ++ (lines_of (s.part ++ t)).lines) (rest ∙ sym none);
            left = s.left ∙ ap (λ t. (lines_of (s.part ++ t)).left) (rest ∙ sym none);
            content = s.content;
            none = s.none;
            no_dot = s.no_dot;
            within = omega arith;
          }),
    )

pub awaits : (d : Dialog) (h : Held) → Holds d h → Holds (record d { awaits = true }) (record h { awaits = true })
awaits d h s = record {
  seen = s.seen;
  part = s.part;
  awaits = refl;
  is_part = s.is_part;
  no_line = s.no_line;
  lines = s.lines;
  left = s.left;
  content = s.content;
  none = λ e. absurd (false≢true (sym e));
  no_dot = s.no_dot;
  within = s.within;
}

pub grown : (bytes l u : List ℕ) (lines : List (List ℕ)) → IsContent false bytes lines → u ≡ unstuffed l →
    flat_map kept (lines ++ l ∷ []) ≡ bytes ++ (u ++ 13 ∷ 10 ∷ [])
grown bytes l u lines is e =
    flat_map-append kept lines (l ∷ []) ∙ ap (λ v. flat_map kept lines ++ v) (append-nil (kept l))
    ∙ ap (λ v. v ++ kept l) (sym is.0) ∙ ap (λ v. bytes ++ (v ++ 13 ∷ 10 ∷ [])) (sym e)

length-grown : (bytes u : List ℕ) → length (bytes ++ (u ++ 13 ∷ 10 ∷ [])) ≡ length bytes + (length u + 2)
length-grown bytes u = length-append bytes (u ++ 13 ∷ 10 ∷ []) ∙ ap (λ n. length bytes + n) (length-append u (13 ∷ 10 ∷ []))

pub goes-over : (over : Bool) (bytes l u : List ℕ) (lines : List (List ℕ)) → over ≡ false → IsContent over bytes lines → u ≡ unstuffed l → 1048576 - length bytes < length u + 2 →
    IsContent true bytes (lines ++ l ∷ [])
goes-over over bytes l u lines open_yet was e past =
    let is : IsContent false bytes lines = subst (λ (o : Bool). IsContent o bytes lines) open_yet was in
    (subst (λ n. 1048576 < n) (sym (ap length (grown bytes l u lines is e) ∙ length-grown bytes u)) (omega (arith, past)), is.1)

pub stays : (over : Bool) (bytes new l u : List ℕ) (lines : List (List ℕ)) → over ≡ false → IsContent over bytes lines → u ≡ unstuffed l → length u + 2 ≤ 1048576 - length bytes →
    new ≡ bytes ++ (u ++ 13 ∷ 10 ∷ []) → IsContent false new (lines ++ l ∷ [])
stays over bytes new l u lines open_yet was e past added =
    let is : IsContent false bytes lines = subst (λ (o : Bool). IsContent o bytes lines) open_yet was in
    (added ∙ sym (grown bytes l u lines is e), subst (λ n. n ≤ 1048576) (sym (ap length added ∙ length-grown bytes u)) (omega (arith, past)))

content-bound : (over : Bool) (bytes : List ℕ) (lines : List (List ℕ)) → IsContent over bytes lines → length bytes ≤ 1048576
content-bound true bytes lines is = is.1
content-bound false bytes lines is = is.1

pub bounded : (d : Dialog) (h : Held) (empty : List ℕ) → Holds d h → empty ≡ [] → kept_in (record d { held = empty; at = 0 }) ≤ 2097153
bounded d h empty s none =
    let small = content-bound d.over d.content s.seen s.content in
    omega (arith, ap length none, small, s.is_part.bound)

line-none : (h : Held) (ls : List (List ℕ)) → (next_line h ls).event ≡ None → (next_line h ls).held ≡ h
line-none h [] e = refl
line-none h (l ∷ ls) e = absurd (false≢true (sym (ap is_some e)))

content-none : (h : Held) (b : Option Body) → (next_content h b).event ≡ None → (next_content h b).held ≡ h
content-none h None e = refl
content-none h (Some b) e = absurd (false≢true (sym (ap is_some e)))

mode-none : (t : Bool) (h : Held) → (cond t (next_content h (body_of h.lines)) (next_line h h.lines)).event ≡ None → (cond t (next_content h (body_of h.lines)) (next_line h h.lines)).held ≡ h
mode-none true h e = content-none h (body_of h.lines) e
mode-none false h e = line-none h h.lines e

-- where there is no event, nothing changes
pub next-none : (h : Held) → (next_of h).event ≡ None → (next_of h).held ≡ h
next-none h e = mode-none h.awaits h e

no-lines : (h : Held) (ls : List (List ℕ)) → (next_line h ls).event ≡ None → ls ≡ []
no-lines h [] e = refl
no-lines h (l ∷ ls) e = absurd (false≢true (sym (ap is_some e)))

-- a command is awaited, and there is none: what is left is all
pub all-left : (d : Dialog) (h : Held) (s : Holds d h) → d.awaits ≡ false → (next_of h).event ≡ None → h.left ≡ s.part ++ drop d.at d.held
all-left d h s awaits e =
    let lines = no-lines h h.lines (sym (ap (λ (t : Bool). (cond t (next_content h (body_of h.lines)) (next_line h h.lines)).event) (sym s.awaits ∙ awaits)) ∙ e) in
    let none = (s.none awaits).0 in
    let cut : (lines_of (s.part ++ drop d.at d.held)).lines ≡ [] = sym (s.lines ∙ ap (λ (seen : List (List ℕ)). seen ++ (lines_of (s.part ++ drop d.at d.held)).lines) none) ∙ lines in
    s.left ∙ left-whole (s.part ++ drop d.at d.held) cut

pub between-awaits : (d : Dialog) (h : Held) → Holds d h → d.awaits ≡ true → false ≡ is_between h
between-awaits d h s e = sym (ap (λ (t : Bool). cond t false (is_none h.left)) (sym s.awaits ∙ e))

none-append : (x y : List ℕ) → is_none y ≡ false → is_none (x ++ y) ≡ false
none-append [] y e = e
none-append (b ∷ x) y e = refl

pub between-left : (d : Dialog) (h : Held) (s : Holds d h) → d.awaits ≡ false → (next_of h).event ≡ None → is_between h ≡ is_none (s.part ++ drop d.at d.held)
between-left d h s e none = ap (λ (t : Bool). cond t false (is_none h.left)) (sym s.awaits ∙ e) ∙ ap is_none (all-left d h s e none)

pub between-more : (d : Dialog) (h : Held) → Holds d h → d.awaits ≡ false → (next_of h).event ≡ None → d.at < length d.held → false ≡ is_between h
between-more d h s e none within =
    sym (between-left d h s e none ∙ none-append s.part (drop d.at d.held) (ap is_none (drop_more d.held d.at 0 within)))

pub between-end : (d : Dialog) (h : Held) (s : Holds d h) → d.awaits ≡ false → (next_of h).event ≡ None → length d.held ≤ d.at → is_none s.part ≡ is_between h
between-end d h s e none all =
    sym (between-left d h s e none ∙ ap (λ t. is_none (s.part ++ t)) (drop_all d.at d.held all) ∙ ap is_none (append-nil s.part))
