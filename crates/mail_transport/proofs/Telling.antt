-- A session over one intake, told of another that makes the same steps.
use Rattle.std.proofs.Common.{◌≡◌, ℕ, List, [], ◌∷◌, ◌++◌, Option, refl, ap, ◌∙◌, sym, subst, inl, inr}
use Rattle.port_io.specs.Told.{AppendsPrefix}
use Rattle.mail_submission.specs.declared.intake.IntakeStep.{IntakeStep}
use Rattle.plant_dev.specs.Disk.{State, Stays as PlantStays}
use Rattle.plant_dev.proofs.Offered.{stays_not, stays_more}
use Rattle.smtp_front.specs.declared.react.Phase.{Phase}
use Rattle.smtp_front.specs.declared.react.Phase.TheVariants as phases
use Rattle.smtp_front.specs.declared.session_end.SessionEnd.{SessionEnd}
use Rattle.smtp_front.specs.declared.session_end.SessionEnd.TheVariants as ends
use Rattle.smtp_front.specs.Events.{Held, nothing, fed}
use Rattle.smtp_front.specs.Turns.{Turn, Steps, Did}
use Rattle.smtp_front.specs.Sessions.{StaysOpen, Waits, Closes, Begins, Halts, Breaks, WentOn, Greets, Spoke}

module _ {I X : Type 0} (gives : I → IntakeStep → I → Type 0) (Gives : X → IntakeStep → X → Type 0) (At : I → X → Type 0)
    (step_told : (a b : I) (step : IntakeStep) (x : X) → gives a step b → At a x → (x' : X) × Gives x step x' × At b x') where
  record Goes (b : I) (P : X → Type 0) : Type 0 where
    x' : X
    told : P x'
    at : At b x'

  all_told : (steps : List IntakeStep) (a b : I) (x : X) → Steps gives a steps b → At a x → Goes b (λ x'. Steps Gives x steps x')
  all_told [] a b x e at = record { x' = x; told = refl; at = subst (λ (y : I). At y x) e at }
  all_told (s ∷ ss) a b x (m, one, rest) at =
      let first = step_told a m s x one at in
      let tail = all_told ss m b first.0 rest first.2 in
      record { x' = tail.x'; told = (first.0, first.1, tail.told); at = tail.at }

  module _ (phase : Phase) (held : Held) (old : ℕ → Option ℕ) (taken : Option (List ℕ)) where
    did_told : (turns : List Turn) (a b : I) (new : ℕ → Option ℕ) (now : Option (List ℕ)) (x : X) → Did gives phase turns a b old new taken now → At a x →
        Goes b (λ x'. Did Gives phase turns x x' old new taken now)
    did_told turns a b new now x did at =
        let done = all_told _ a b x did.steps at in
        record { x' = done.x'; told = record { steps = done.told; clock = did.clock; sink = did.sink }; at = done.at }

    stays_told : (a b : I) (new : ℕ → Option ℕ) (now : Option (List ℕ)) (phase' : Phase) (x : X) → StaysOpen gives phase held a b old new taken now phase' → At a x →
        Goes b (λ x'. StaysOpen Gives phase held x x' old new taken now phase')
    stays_told a b new now phase' x s at =
        let done = did_told s.turns a b new now x s.did at in
        record { x' = done.x'; told = record { turns = s.turns; after = s.after; goes = s.goes; on = s.on; did = done.told }; at = done.at }

    waits_told : (a b : I) (new : ℕ → Option ℕ) (now : Option (List ℕ)) (x : X) → Waits gives phase held a b old new taken now → At a x →
        Goes b (λ x'. Waits Gives phase held x x' old new taken now)
    waits_told a b new now x w at =
        let s = w.stays in
        let done = did_told s.turns a b new now x s.did at in
        record {
          x' = done.x';
          told = record { phase' = w.phase'; stays = record { turns = s.turns; after = s.after; goes = s.goes; on = s.on; did = done.told }; none = w.none };
          at = done.at;
        }

    closes_told : (a b : I) (new : ℕ → Option ℕ) (now : Option (List ℕ)) (end : SessionEnd) (x : X) → Closes gives phase held a b old new taken now end → At a x →
        Goes b (λ x'. Closes Gives phase held x x' old new taken now end)
    closes_told a b new now end x c at =
        let done = did_told (c.turns ++ c.last ∷ []) a b new now x c.did at in
        record {
          x' = done.x';
          told = record { turns = c.turns; last = c.last; phase' = c.phase'; after = c.after; goes = c.goes; on = c.on; event = c.event; ends = c.ends; did = done.told };
          at = done.at;
        }

    begins_told : (a b : I) (new : ℕ → Option ℕ) (now : Option (List ℕ)) (x : X) (s : Begins gives phase held a b old new taken now) → At a x →
        Goes b (λ x'. (t : Begins Gives phase held x x' old new taken now) × (t.due ≡ s.due))
    begins_told a b new now x s at =
        let done = did_told s.turns a s.between s.then now x s.did at in
        let last = all_told _ s.between b done.x' s.steps done.at in
        record {
          x' = last.x';
          told = (
            record {
              turns = s.turns;
              last = s.last;
              phase' = s.phase';
              after = s.after;
              goes = s.goes;
              on = s.on;
              event = s.event;
              between = done.x';
              then = s.then;
              did = done.told;
              steps = last.told;
              clock = s.clock;
              due = s.due;
              is_due = s.is_due;
            },
            refl,
          );
          at = last.at;
        }

    halts_told : (a b : I) (new : ℕ → Option ℕ) (now : Option (List ℕ)) (x : X) → Halts gives phase held a b old new taken now → At a x →
        Goes b (λ x'. Halts Gives phase held x x' old new taken now)
    halts_told a b new now x (inl (phase', s)) at =
        let done = stays_told a b new now phase' x s at in
        record { x' = done.x'; told = inl (phase', done.told); at = done.at }
    halts_told a b new now x (inr s) at =
        let done = begins_told a b new now x s at in
        record { x' = done.x'; told = inr done.told.0; at = done.at }

    breaks_told : (a b : I) (new : ℕ → Option ℕ) (now : Option (List ℕ)) (x : X) → Breaks gives phase held a b old new taken now → At a x →
        Goes b (λ x'. Breaks Gives phase held x x' old new taken now)
    breaks_told a b new now x (written, s, cut) at =
        let done = begins_told a b new written x s at in
        record {
          x' = done.x';
          told = (written, done.told.0, subst (λ (due : List ℕ). AppendsPrefix written now due) (sym done.told.1) cut);
          at = done.at;
        }

  abbrev began : List ℕ → Held
  began text = fed nothing text

  went_on : (end : SessionEnd) (a b : I) (old new : ℕ → Option ℕ) (taken now : Option (List ℕ)) (text : List ℕ) (left : Option (List ℕ)) (x : X) →
      WentOn gives a b old new taken now text left end → At a x → Goes b (λ x'. WentOn Gives x x' old new taken now text left end)
  unfolding waits_told
  went_on ends.Quit a b old new taken now text left x w at = closes_told phases.New (began text) old taken a b new now ends.Quit x w at
  went_on ends.EndOfInput a b old new taken now text left x (w, done, is) at =
      let t = waits_told phases.New (began text) old taken a b new now x w at in
      record { x' = t.x'; told = (t.told, done, is); at = t.at }
  went_on ends.Cut a b old new taken now text left x (w, done, is) at =
      let t = waits_told phases.New (began text) old taken a b new now x w at in
      record { x' = t.x'; told = (t.told, done, is); at = t.at }
  went_on ends.SourceFault a b old new taken now text left x w at = waits_told phases.New (began text) old taken a b new now x w at
  went_on ends.SinkFault a b old new taken now text left x (inl w) at =
      let t = breaks_told phases.New (began text) old taken a b new now x w at in
      record { x' = t.x'; told = inl t.told; at = t.at }
  went_on ends.SinkFault a b old new taken now text left x (inr (inl (written, w, cut))) at =
      let t = halts_told phases.New (began text) old taken a b new written x w at in
      record { x' = t.x'; told = inr (inl (written, t.told, cut)); at = t.at }
  went_on ends.SinkFault a b old new taken now text left x (inr (inr (written, w, long, cut))) at =
      let t = waits_told phases.New (began text) old taken a b new written x w at in
      record { x' = t.x'; told = inr (inr (written, t.told, long, cut)); at = t.at }
  went_on ends.NoMemory a b old new taken now text left x (inl w) at =
      let t = closes_told phases.New (began text) old taken a b new now ends.NoMemory x w at in
      record { x' = t.x'; told = inl t.told; at = t.at }
  went_on ends.NoMemory a b old new taken now text left x (inr (written, w, said)) at =
      let t = halts_told phases.New (began text) old taken a b new written x w at in
      record { x' = t.x'; told = inr (written, t.told, said); at = t.at }
  went_on ends.LogFull a b old new taken now text left x w at = closes_told phases.New (began text) old taken a b new now ends.LogFull x w at
  went_on (ends.NotALog place) a b old new taken now text left x w at = closes_told phases.New (began text) old taken a b new now (ends.NotALog place) x w at
  went_on ends.DeskFull a b old new taken now text left x w at = closes_told phases.New (began text) old taken a b new now ends.DeskFull x w at
  went_on ends.TooLong a b old new taken now text left x (written, w, long, said) at =
      let t = waits_told phases.New (began text) old taken a b new written x w at in
      record { x' = t.x'; told = (written, t.told, long, said); at = t.at }

  greets_told : (end : SessionEnd) (a b : I) (old new : ℕ → Option ℕ) (taken now before left : Option (List ℕ)) (x : X) →
      Greets gives a b old new taken now before left end → At a x → Goes b (λ x'. Greets Gives x x' old new taken now before left end)
  greets_told end a b old new taken now before left x s at =
      let t = went_on end a b old new s.greeted now s.text left x s.went_on at in
      record { x' = t.x'; told = record { text = s.text; took = s.took; greeted = s.greeted; greeting = s.greeting; went_on = t.told }; at = t.at }

  spoke_goes : (end : SessionEnd) (a b : I) (old new : ℕ → Option ℕ) (taken now before left : Option (List ℕ)) (x : X) →
      Spoke gives a b old new taken now before left end → At a x → Goes b (λ x'. Spoke Gives x x' old new taken now before left end)
  spoke_goes ends.SinkFault a b old new taken now before left x (inl s) at =
      record {
        x' = x;
        told = inl (record { intake = refl; clock = s.clock; source = s.source; sink = s.sink });
        at = subst (λ (y : I). At y x) s.intake at;
      }
  spoke_goes ends.SinkFault a b old new taken now before left x (inr s) at =
      let t = greets_told ends.SinkFault a b old new taken now before left x s at in
      record { x' = t.x'; told = inr t.told; at = t.at }
  spoke_goes ends.Quit a b old new taken now before left x s at = greets_told ends.Quit a b old new taken now before left x s at
  spoke_goes ends.EndOfInput a b old new taken now before left x s at = greets_told ends.EndOfInput a b old new taken now before left x s at
  spoke_goes ends.Cut a b old new taken now before left x s at = greets_told ends.Cut a b old new taken now before left x s at
  spoke_goes ends.SourceFault a b old new taken now before left x s at = greets_told ends.SourceFault a b old new taken now before left x s at
  spoke_goes ends.NoMemory a b old new taken now before left x s at = greets_told ends.NoMemory a b old new taken now before left x s at
  spoke_goes ends.LogFull a b old new taken now before left x s at = greets_told ends.LogFull a b old new taken now before left x s at
  spoke_goes (ends.NotALog place) a b old new taken now before left x s at = greets_told (ends.NotALog place) a b old new taken now before left x s at
  spoke_goes ends.DeskFull a b old new taken now before left x s at = greets_told ends.DeskFull a b old new taken now before left x s at
  spoke_goes ends.TooLong a b old new taken now before left x s at = greets_told ends.TooLong a b old new taken now before left x s at

  -- A session over the one is a session over the other.
  pub spoke_told : (end : SessionEnd) (a b : I) (old new : ℕ → Option ℕ) (taken now before left : Option (List ℕ)) (x : X) → Spoke gives a b old new taken now before left end → At a x →
      (x' : X) × Spoke Gives x x' old new taken now before left end × At b x'
  spoke_told end a b old new taken now before left x s at =
      let t = spoke_goes end a b old new taken now before left x s at in (t.x', t.told, t.at)

-- The intake's steps in a session.
module _ {I : Type 0} (gives : I → IntakeStep → I → Type 0) where
  Chain : I → I → Type 0
  Chain a b = (steps : List IntakeStep) × Steps gives a steps b

  joined : (xs ys : List IntakeStep) (a m b : I) → Steps gives a xs m → Steps gives m ys b → Steps gives a (xs ++ ys) b
  joined [] ys a m b e rest = subst (λ (x : I). Steps gives x ys b) (sym e) rest
  joined (x ∷ xs) ys a m b (n, one, more) rest = (n, one, joined xs ys n m b more rest)

  module _ (phase : Phase) (held : Held) (old new : ℕ → Option ℕ) (taken now : Option (List ℕ)) (a b : I) where
    waits_chain : Waits gives phase held a b old new taken now → Chain a b
    unfolding Chain
    waits_chain w = (_, w.stays.did.steps)

    closes_chain : (end : SessionEnd) → Closes gives phase held a b old new taken now end → Chain a b
    unfolding Chain
    closes_chain end c = (_, c.did.steps)

    begins_chain : Begins gives phase held a b old new taken now → Chain a b
    unfolding Chain
    begins_chain s = (_, joined _ _ a s.between b s.did.steps s.steps)

    halts_chain : Halts gives phase held a b old new taken now → Chain a b
    unfolding Chain
    halts_chain (inl (phase', s)) = (_, s.did.steps)
    halts_chain (inr s) = begins_chain s

  went_chain : (end : SessionEnd) (a b : I) (old new : ℕ → Option ℕ) (taken now : Option (List ℕ)) (text : List ℕ) (left : Option (List ℕ)) → WentOn gives a b old new taken now text left end → Chain a b
  went_chain ends.Quit a b old new taken now text left w = closes_chain phases.New (fed nothing text) old new taken now a b ends.Quit w
  went_chain ends.EndOfInput a b old new taken now text left (w, done, is) = waits_chain phases.New (fed nothing text) old new taken now a b w
  went_chain ends.Cut a b old new taken now text left (w, done, is) = waits_chain phases.New (fed nothing text) old new taken now a b w
  went_chain ends.SourceFault a b old new taken now text left w = waits_chain phases.New (fed nothing text) old new taken now a b w
  went_chain ends.SinkFault a b old new taken now text left (inl (written, s, cut)) = begins_chain phases.New (fed nothing text) old new taken written a b s
  went_chain ends.SinkFault a b old new taken now text left (inr (inl (written, w, cut))) = halts_chain phases.New (fed nothing text) old new taken written a b w
  went_chain ends.SinkFault a b old new taken now text left (inr (inr (written, w, long, cut))) = waits_chain phases.New (fed nothing text) old new taken written a b w
  went_chain ends.NoMemory a b old new taken now text left (inl w) = closes_chain phases.New (fed nothing text) old new taken now a b ends.NoMemory w
  went_chain ends.NoMemory a b old new taken now text left (inr (written, w, said)) = halts_chain phases.New (fed nothing text) old new taken written a b w
  went_chain ends.LogFull a b old new taken now text left w = closes_chain phases.New (fed nothing text) old new taken now a b ends.LogFull w
  went_chain (ends.NotALog place) a b old new taken now text left w = closes_chain phases.New (fed nothing text) old new taken now a b (ends.NotALog place) w
  went_chain ends.DeskFull a b old new taken now text left w = closes_chain phases.New (fed nothing text) old new taken now a b ends.DeskFull w
  went_chain ends.TooLong a b old new taken now text left (written, w, long, said) = waits_chain phases.New (fed nothing text) old new taken written a b w

  greets_chain : (end : SessionEnd) (a b : I) (old new : ℕ → Option ℕ) (taken now before left : Option (List ℕ)) → Greets gives a b old new taken now before left end → Chain a b
  greets_chain end a b old new taken now before left s = went_chain end a b old new s.greeted now s.text left s.went_on

  spoke_chain : (end : SessionEnd) (a b : I) (old new : ℕ → Option ℕ) (taken now before left : Option (List ℕ)) → Spoke gives a b old new taken now before left end → Chain a b
  unfolding Chain
  spoke_chain ends.SinkFault a b old new taken now before left (inl s) = ([], s.intake)
  spoke_chain ends.SinkFault a b old new taken now before left (inr s) = greets_chain ends.SinkFault a b old new taken now before left s
  spoke_chain ends.Quit a b old new taken now before left s = greets_chain ends.Quit a b old new taken now before left s
  spoke_chain ends.EndOfInput a b old new taken now before left s = greets_chain ends.EndOfInput a b old new taken now before left s
  spoke_chain ends.Cut a b old new taken now before left s = greets_chain ends.Cut a b old new taken now before left s
  spoke_chain ends.SourceFault a b old new taken now before left s = greets_chain ends.SourceFault a b old new taken now before left s
  spoke_chain ends.NoMemory a b old new taken now before left s = greets_chain ends.NoMemory a b old new taken now before left s
  spoke_chain ends.LogFull a b old new taken now before left s = greets_chain ends.LogFull a b old new taken now before left s
  spoke_chain (ends.NotALog place) a b old new taken now before left s = greets_chain (ends.NotALog place) a b old new taken now before left s
  spoke_chain ends.DeskFull a b old new taken now before left s = greets_chain ends.DeskFull a b old new taken now before left s
  spoke_chain ends.TooLong a b old new taken now before left s = greets_chain ends.TooLong a b old new taken now before left s

  along : {X : Type 0} (f : I → X) → ((a : I) (step : IntakeStep) (b : I) → gives a step b → f b ≡ f a) → (steps : List IntakeStep) (a b : I) → Steps gives a steps b → f b ≡ f a
  along f law [] a b e = sym (ap f e)
  along f law (s ∷ ss) a b (m, one, rest) = along f law ss m b rest ∙ law a s m one

  -- what each step keeps, the session keeps
  pub spoke_keeps : {X : Type 0} (f : I → X) → ((a : I) (step : IntakeStep) (b : I) → gives a step b → f b ≡ f a) →
      (end : SessionEnd) (a b : I) (old new : ℕ → Option ℕ) (taken now before left : Option (List ℕ)) → Spoke gives a b old new taken now before left end → f b ≡ f a
  unfolding Chain
  spoke_keeps f law end a b old new taken now before left s = let c = spoke_chain end a b old new taken now before left s in along f law c.0 a b c.1

  stays_along : (state : I → State) → ((a : I) (step : IntakeStep) (b : I) → gives a step b → PlantStays (state a) (state b)) → (steps : List IntakeStep) (a b : I) → Steps gives a steps b → PlantStays (state a) (state b)
  stays_along state law [] a b e = subst (λ (x : I). PlantStays (state a) (state x)) e (stays_not (state a))
  stays_along state law (s ∷ ss) a b (m, one, rest) = stays_more (state a) (state m) (state b) (law a s m one) (stays_along state law ss m b rest)

  pub spoke_stays : (state : I → State) → ((a : I) (step : IntakeStep) (b : I) → gives a step b → PlantStays (state a) (state b)) →
      (end : SessionEnd) (a b : I) (old new : ℕ → Option ℕ) (taken now before left : Option (List ℕ)) → Spoke gives a b old new taken now before left end → PlantStays (state a) (state b)
  unfolding Chain
  spoke_stays state law end a b old new taken now before left s = let c = spoke_chain end a b old new taken now before left s in stays_along state law c.0 a b c.1
