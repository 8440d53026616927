-- Laws on what is held.
use Rattle.std.proofs.Common.{◌≡◌, ℕ, Bool, true, false, cond, List, [], ◌∷◌, ◌++◌, refl, ap, ◌∙◌, sym, Option, Some, None}
use Rattle.std.proofs.lemmas.List.{append_assoc}
use Rattle.std.proofs.lemmas.Bool.{false≢true}
use Rattle.std.specs.Option.{is_some}
use Rattle.smtp_front.specs.declared.dialog.Event.{Event}
use Rattle.mail_names.specs.Lines.{Lines, lines_of}
use Rattle.smtp_front.specs.Events.{Held, fed, next_of, next_line, next_content, Body, body_of, with_line, is_dot}
use Rattle.smtp_front.proofs.Cutting.{lines-append, then_text}

pub cut-twice : (h : Held) (a b : List ℕ) → fed (fed h a) b ≡ fed h (a ++ b)
cut-twice h a b =
    let p = lines_of (h.left ++ a) in
    let q = lines_of (p.left ++ b) in
    let e : lines_of (h.left ++ (a ++ b)) ≡ then_text p b = ap lines_of (sym (append_assoc h.left a b)) ∙ lines-append (h.left ++ a) b in
    ap (λ (ls : List (List ℕ)). record { awaits = h.awaits; lines = ls; left = q.left }) (append_assoc h.lines p.lines q.lines)
    ∙ sym (ap (λ (r : Lines). record { awaits = h.awaits; lines = h.lines ++ r.lines; left = r.left }) e)

grow : List (List ℕ) → Option Body → Option Body
grow more None = None
grow more (Some b) = Some (record { bytes = b.bytes; rest = b.rest ++ more })

case-more : (t : Bool) (l : List ℕ) (ls more : List (List ℕ)) (x y : Option Body) (b : Body) → ((c : Body) → x ≡ Some c → y ≡ Some (record { bytes = c.bytes; rest = c.rest ++ more })) →
    cond t (Some (record { bytes = []; rest = ls })) (with_line l x) ≡ Some b →
    cond t (Some (record { bytes = []; rest = ls ++ more })) (with_line l y) ≡ Some (record { bytes = b.bytes; rest = b.rest ++ more })
unfolding grow
case-more true l ls more x y b k h = ap (grow more) h
case-more false l ls more None y b k h = absurd (false≢true (ap is_some h))
case-more false l ls more (Some c) y b k h = ap (with_line l) (k c refl) ∙ ap (grow more) h

pub body-more : (ls more : List (List ℕ)) (b : Body) → body_of ls ≡ Some b → body_of (ls ++ more) ≡ Some (record { bytes = b.bytes; rest = b.rest ++ more })
unfolding body_of
body-more [] more b h = absurd (false≢true (ap is_some h))
body-more (l ∷ ls) more b h = case-more (is_dot l) l ls more (body_of ls) (body_of (ls ++ more)) b (λ c e. body-more ls more c e) h

line-more : (h : Held) (text : List ℕ) (ls : List (List ℕ)) (e : Event) → (next_line h ls).event ≡ Some e →
    next_line (fed h text) (ls ++ (lines_of (h.left ++ text)).lines) ≡ record { event = Some e; held = fed (next_line h ls).held text }
line-more h text [] e k = absurd (false≢true (ap is_some k))
line-more h text (l ∷ ls) e k = ap (λ (x : Option Event). record { event = x; held = fed (next_line h (l ∷ ls)).held text }) k

content-more : (h : Held) (text : List ℕ) (x y : Option Body) (e : Event) → ((c : Body) → x ≡ Some c → y ≡ Some (record { bytes = c.bytes; rest = c.rest ++ (lines_of (h.left ++ text)).lines })) →
    (next_content h x).event ≡ Some e → next_content (fed h text) y ≡ record { event = Some e; held = fed (next_content h x).held text }
content-more h text None y e k s = absurd (false≢true (ap is_some s))
content-more h text (Some c) y e k s = ap (next_content (fed h text)) (k c refl) ∙ ap (λ (x : Option Event). record { event = x; held = fed (next_content h (Some c)).held text }) s

by-mode : (t : Bool) (h : Held) (text : List ℕ) (e : Event) → (cond t (next_content h (body_of h.lines)) (next_line h h.lines)).event ≡ Some e →
    cond t (next_content (fed h text) (body_of (fed h text).lines)) (next_line (fed h text) (fed h text).lines)
    ≡ record { event = Some e; held = fed (cond t (next_content h (body_of h.lines)) (next_line h h.lines)).held text }
by-mode true h text e k = content-more h text (body_of h.lines) (body_of (fed h text).lines) e (λ c s. body-more h.lines (lines_of (h.left ++ text)).lines c s) k
by-mode false h text e k = line-more h text h.lines e k

pub settled : (h : Held) (text : List ℕ) (e : Event) → (next_of h).event ≡ Some e → next_of (fed h text) ≡ record { event = Some e; held = fed (next_of h).held text }
settled h text e k = by-mode h.awaits h text e k
