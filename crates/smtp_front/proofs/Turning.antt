-- Turns, one after another.
use Rattle.std.proofs.Common.{◌≡◌, ◌≤◌, ℕ, ◌+◌, List, [], ◌∷◌, ◌++◌, length, map, arith, refl, ap, ◌∙◌, sym, subst, Option, Some, None}
use Rattle.std.proofs.lemmas.List.{append-nil, append_assoc}
use Rattle.std.proofs.lemmas.Bool.{false≢true}
use Rattle.std.specs.Option.{is_some}
use Rattle.std.specs.Io.KnownBytes.{Appends}
use Rattle.port_io.specs.Told.{Gave, Tells}
use Rattle.port_io.proofs.Offered.{Appends-twice, Appends-nothing}
use Rattle.mail_submission.specs.declared.intake.IntakeStep.{IntakeStep}
use Rattle.smtp_front.specs.declared.dialog.Event.{Event}
use Rattle.smtp_front.specs.declared.react.Phase.{Phase}
use Rattle.smtp_front.specs.declared.react.Deed.{Deed}
use Rattle.smtp_front.specs.declared.react.Deed.TheVariants as deeds
use Rattle.smtp_front.specs.Events.{Held, Next, fed, next_of}
use Rattle.smtp_front.specs.React.{react}
use Rattle.smtp_front.specs.Turns.{Turn, Goes, GoesOn, Did, Steps, said, asked, moments, replied, asks, ticks, behind, end_of}
use Rattle.smtp_front.proofs.Settling.{settled}

pub Goes-push : (p : Phase) (h : Held) (ts : List Turn) (p' : Phase) (h' : Held) (t : Turn) → Goes p h ts p' h' → (next_of h').event ≡ Some t.event →
    Goes p h (ts ++ t ∷ []) (react p' t.event).phase (behind (react p' t.event).deed (next_of h').held)
Goes-push p h [] p' h' t g k = (
  ap (λ (x : Held). (next_of x).event) (sym g.1) ∙ k,
  (ap (λ (x : Phase). (react x t.event).phase) g.0, (λ i. behind (react (g.0 i) t.event).deed (next_of (g.1 i)).held)),
)
Goes-push p h (x ∷ ts) p' h' t g k = (g.0, Goes-push (react p x.event).phase (behind (react p x.event).deed (next_of h).held) ts p' h' t g.1 k)

pub GoesOn-push : (p : Phase) (h : Held) (ts : List Turn) (p' : Phase) (h' : Held) (t : Turn) → Goes p h ts p' h' → GoesOn p ts → end_of (react p' t.event).deed t.answer ≡ None →
    GoesOn p (ts ++ t ∷ [])
GoesOn-push p h [] p' h' t g o k = (ap (λ (x : Phase). end_of (react x t.event).deed t.answer) (sym g.0) ∙ k, tt)
GoesOn-push p h (x ∷ ts) p' h' t g o k = (o.0, GoesOn-push (react p x.event).phase (behind (react p x.event).deed (next_of h).held) ts p' h' t g.1 o.1 k)

said-push : (p : Phase) (h : Held) (ts : List Turn) (p' : Phase) (h' : Held) (t : Turn) → Goes p h ts p' h' → said p (ts ++ t ∷ []) ≡ said p ts ++ replied (react p' t.event).deed t.answer
said-push p h [] p' h' t g = append-nil (replied (react p t.event).deed t.answer) ∙ ap (λ (x : Phase). replied (react x t.event).deed t.answer) (sym g.0)
said-push p h (x ∷ ts) p' h' t g =
    let first = replied (react p x.event).deed x.answer in
    let rest = (react p x.event).phase in
    ap (λ (y : List ℕ). first ++ y) (said-push rest (behind (react p x.event).deed (next_of h).held) ts p' h' t g.1)
    ∙ sym (append_assoc first (said rest ts) (replied (react p' t.event).deed t.answer))

asked-push : (p : Phase) (h : Held) (ts : List Turn) (p' : Phase) (h' : Held) (t : Turn) → Goes p h ts p' h' → asked p (ts ++ t ∷ []) ≡ asked p ts ++ asks (react p' t.event).deed t.moment t.answer
asked-push p h [] p' h' t g = append-nil (asks (react p t.event).deed t.moment t.answer) ∙ ap (λ (x : Phase). asks (react x t.event).deed t.moment t.answer) (sym g.0)
asked-push p h (x ∷ ts) p' h' t g =
    let first = asks (react p x.event).deed x.moment x.answer in
    let rest = (react p x.event).phase in
    ap (λ (y : List IntakeStep). first ++ y) (asked-push rest (behind (react p x.event).deed (next_of h).held) ts p' h' t g.1)
    ∙ sym (append_assoc first (asked rest ts) (asks (react p' t.event).deed t.moment t.answer))

moments-push : (p : Phase) (h : Held) (ts : List Turn) (p' : Phase) (h' : Held) (t : Turn) → Goes p h ts p' h' → moments p (ts ++ t ∷ []) ≡ moments p ts ++ ticks (react p' t.event).deed t.moment
moments-push p h [] p' h' t g = append-nil (ticks (react p t.event).deed t.moment) ∙ ap (λ (x : Phase). ticks (react x t.event).deed t.moment) (sym g.0)
moments-push p h (x ∷ ts) p' h' t g =
    let first = ticks (react p x.event).deed x.moment in
    let rest = (react p x.event).phase in
    ap (λ (y : List ℕ). first ++ y) (moments-push rest (behind (react p x.event).deed (next_of h).held) ts p' h' t g.1)
    ∙ sym (append_assoc first (moments rest ts) (ticks (react p' t.event).deed t.moment))

pub steps_join : {I : Type 0} (gives : I → IntakeStep → I → Type 0) (a b c : I) (xs ys : List IntakeStep) → Steps gives a xs b → Steps gives b ys c → Steps gives a (xs ++ ys) c
steps_join gives a b c [] ys e h = subst (λ x. Steps gives x ys c) (sym e) h
steps_join gives a b c (x ∷ xs) ys g h = (g.0, g.1, steps_join gives g.0 b c xs ys g.2 h)

Gave-same : (old mid new : ℕ → Option ℕ) (ms : List ℕ) → ((k : ℕ) → mid k ≡ old k) → Gave mid new ms → Gave old new ms
Gave-same old mid new [] e g = λ k. g k ∙ e k
Gave-same old mid new (m ∷ ms) e g =
    (subst (λ (o : Option ℕ). Tells o m) (e 0) g.0, Gave-same (λ k. old (k + 1)) (λ k. mid (k + 1)) new ms (λ k. e (k + 1)) g.1)

pub Gave-then : (old mid new : ℕ → Option ℕ) (ms ms' : List ℕ) → Gave old mid ms → Gave mid new ms' → Gave old new (ms ++ ms')
Gave-then old mid new [] ms' one two = Gave-same old mid new ms' one two
Gave-then old mid new (m ∷ ms) ms' one two = (one.0, Gave-then (λ k. old (k + 1)) mid new ms ms' one.1 two)

pub Did-none : {I : Type 0} (gives : I → IntakeStep → I → Type 0) (p : Phase) (a : I) (clock : ℕ → Option ℕ) (taken : Option (List ℕ)) → Did gives p [] a a clock clock taken taken
Did-none gives p a clock taken = record { steps = refl; clock = λ k. refl; sink = Appends-nothing taken }

pub Did-push : {I : Type 0} (gives : I → IntakeStep → I → Type 0) (p : Phase) (h : Held) (ts : List Turn) (p' : Phase) (h' : Held) (t : Turn) (a b c : I) (old mid new : ℕ → Option ℕ) (taken then now : Option (List ℕ)) →
    Goes p h ts p' h' → Did gives p ts a b old mid taken then → Steps gives b (asks (react p' t.event).deed t.moment t.answer) c → Gave mid new (ticks (react p' t.event).deed t.moment) →
    Appends then now (replied (react p' t.event).deed t.answer) → Did gives p (ts ++ t ∷ []) a c old new taken now
Did-push gives p h ts p' h' t a b c old mid new taken then now g did steps clock sink = record {
  steps = subst (λ (ss : List IntakeStep). Steps gives a ss c) (sym (asked-push p h ts p' h' t g)) (steps_join gives a b c (asked p ts) (asks (react p' t.event).deed t.moment t.answer) did.steps steps);
  clock = subst (λ (ms : List ℕ). Gave old new ms) (sym (moments-push p h ts p' h' t g)) (Gave-then old mid new (moments p ts) (ticks (react p' t.event).deed t.moment) did.clock clock);
  sink = Appends-twice taken then now (said p ts) (replied (react p' t.event).deed t.answer) (said p (ts ++ t ∷ [])) (sym (said-push p h ts p' h' t g)) did.sink sink;
}

behind-fed : (d : Deed) (h : Held) (text : List ℕ) → behind d (fed h text) ≡ fed (behind d h) text
behind-fed (deeds.Say reply) h text = refl
behind-fed deeds.Start h text = refl
behind-fed (deeds.Ask submission) h text = refl
behind-fed deeds.Quit h text = refl

-- What comes behind changes no turn.
pub Goes-fed : (p : Phase) (h : Held) (ts : List Turn) (p' : Phase) (h' : Held) (text : List ℕ) → Goes p h ts p' h' → Goes p (fed h text) ts p' (fed h' text)
Goes-fed p h [] p' h' text g = (g.0, ap (λ (x : Held). fed x text) g.1)
Goes-fed p h (t ∷ ts) p' h' text g =
    let s = settled h text t.event g.0 in
    let d = (react p t.event).deed in (
      ap (λ (n : Next). n.event) s,
      subst (λ (x : Held). Goes (react p t.event).phase x ts p' (fed h' text)) (sym (ap (λ (n : Next). behind d n.held) s ∙ behind-fed d (next_of h).held text))
          (Goes-fed (react p t.event).phase (behind d (next_of h).held) ts p' h' text g.1),
    )

or_else : Event → Option Event → Event
or_else d None = d
or_else d (Some e) = e

some-same : (a b : Event) → Some a ≡ Some b → a ≡ b
unfolding or_else
some-same a b e = ap (or_else a) e

pub turns-same : (p : Phase) (h : Held) (ts us : List Turn) (p1 p2 : Phase) (h1 h2 : Held) → Goes p h ts p1 h1 → Goes p h us p2 h2 → length ts ≡ length us →
    map (λ (t : Turn). t.event) ts ≡ map (λ (t : Turn). t.event) us
turns-same p h [] [] p1 p2 h1 h2 g k l = refl
turns-same p h [] (u ∷ us) p1 p2 h1 h2 g k l = absurd (omega (arith, l))
turns-same p h (t ∷ ts) [] p1 p2 h1 h2 g k l = absurd (omega (arith, l))
turns-same p h (t ∷ ts) (u ∷ us) p1 p2 h1 h2 g k l =
    let same : u.event ≡ t.event = some-same u.event t.event (sym k.0 ∙ g.0) in
    let rest = subst (λ (e : Event). Goes (react p e).phase (behind (react p e).deed (next_of h).held) us p2 h2) same k.1 in
    ap (λ (e : Event). e ∷ map (λ (t : Turn). t.event) ts) (sym same)
    ∙ ap (λ (es : List Event). u.event ∷ es) (turns-same (react p t.event).phase (behind (react p t.event).deed (next_of h).held) ts us p1 p2 h1 h2 g.1 rest (omega (arith, l)))

pub none-left : (p : Phase) (h : Held) (ts us : List Turn) (p1 p2 : Phase) (h1 h2 : Held) → Goes p h ts p1 h1 → (next_of h1).event ≡ None → Goes p h us p2 h2 → length us ≤ length ts
none-left p h ts [] p1 p2 h1 h2 g n k = omega arith
none-left p h [] (u ∷ us) p1 p2 h1 h2 g n k =
    absurd (false≢true (ap is_some (sym n ∙ ap (λ (x : Held). (next_of x).event) g.1 ∙ k.0)))
none-left p h (t ∷ ts) (u ∷ us) p1 p2 h1 h2 g n k =
    let same : u.event ≡ t.event = some-same u.event t.event (sym k.0 ∙ g.0) in
    let rest = subst (λ (e : Event). Goes (react p e).phase (behind (react p e).deed (next_of h).held) us p2 h2) same k.1 in
    let less = none-left (react p t.event).phase (behind (react p t.event).deed (next_of h).held) ts us p1 p2 h1 h2 g.1 n rest in
    omega (arith, less)
