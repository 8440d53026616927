-- The turns of what is held, one after another.
use Rattle.std.proofs.Common.{◌≡◌, ℕ, List, [], ◌∷◌, ◌++◌, refl, ap, ◌∙◌, sym, subst, arith, Option, Some, None, inr}
use Rattle.std.proofs.lemmas.List.{append-nil}
use Rattle.std.specs.Io.KnownBytes.{Appends}
use Rattle.port_io.specs.Told.{AppendsPrefix}
use Rattle.port_io.proofs.Offered.{Consumes-nothing, Appends-twice}
use Rattle.mail_names.specs.Lines.{lines_of}
use Rattle.mail_submission.specs.declared.intake.IntakeStep.{IntakeStep}
use Rattle.smtp_front.specs.declared.dialog.Event.{Event}
use Rattle.smtp_front.specs.declared.dialog.Dialog.{Dialog}
use Rattle.smtp_front.specs.declared.react.Phase.{Phase}
use Rattle.smtp_front.specs.declared.react.Phase.TheVariants as phases
use Rattle.smtp_front.specs.declared.react.Reaction.{Reaction}
use Rattle.smtp_front.specs.declared.reply.Reply.{Reply}
use Rattle.smtp_front.specs.declared.session_end.SessionEnd.{SessionEnd}
use Rattle.smtp_front.specs.Events.{Held, nothing, fed, next_of}
use Rattle.smtp_front.specs.Holds.{Holds}
use Rattle.smtp_front.specs.Replies.{reply_text}
use Rattle.smtp_front.specs.React.{react}
use Rattle.smtp_front.specs.Turns.{Turn, Did, said, behind}
use Rattle.smtp_front.specs.Sessions.{StaysOpen, Closes, Begins}
use Rattle.smtp_front.specs.declared.talk.Halt.{Halt}
use Rattle.smtp_front.specs.declared.talk.Halt.TheVariants as halts
use Rattle.smtp_front.specs.declared.talk.Drained.TheVariants as drained
use Rattle.smtp_front.specs.Drains.{Unsaid, Asked, Drains, SoFar}
use Rattle.smtp_front.proofs.Settling.{cut-twice}
use Rattle.smtp_front.proofs.Turning.{Goes-push, GoesOn-push, Did-none, Did-push, Goes-fed}

-- one more turn, which didn't end the session
pub StaysOpen-push : {I : Type 0} (gives : I → IntakeStep → I → Type 0) (p : Phase) (h : Held) (a b c : I) (old mid new : ℕ → Option ℕ) (taken then now : Option (List ℕ)) (p' : Phase) (s : StaysOpen gives p h a b old mid taken then p')
    (event : Event) (r : Reaction) (reply : Reply) (end : Option SessionEnd) → (next_of s.after).event ≡ Some event → r ≡ react p' event →
    Asked gives b c mid new r.deed reply end → Appends then now (reply_text reply) → end ≡ None →
    (t : StaysOpen gives p h a c old new taken now r.phase) × (t.after ≡ behind r.deed (next_of s.after).held)
StaysOpen-push gives p h a b c old mid new taken then now p' s event r reply end heard e =
    subst (λ (r : Reaction). Asked gives b c mid new r.deed reply end → Appends then now (reply_text reply) → end ≡ None →
    (t : StaysOpen gives p h a c old new taken now r.phase) × (t.after ≡ behind r.deed (next_of s.after).held)) (sym e)
    (λ asked sink none.
    let turn : Turn = record { event = event; moment = asked.moment; answer = asked.answer } in (
      record {
        turns = s.turns ++ turn ∷ [];
        after = behind (react p' event).deed (next_of s.after).held;
        goes = Goes-push p h s.turns p' s.after turn s.goes heard;
        on = GoesOn-push p h s.turns p' s.after turn s.goes s.on (sym asked.is_end ∙ none);
        did = Did-push gives p h s.turns p' s.after turn a b c old mid new taken then now s.goes s.did asked.steps asked.clock
            (subst (λ (x : Reply). Appends then now (reply_text x)) asked.is_reply sink);
      },
      refl,
    ))

-- one more turn, which ended it
pub Closes-push : {I : Type 0} (gives : I → IntakeStep → I → Type 0) (p : Phase) (h : Held) (a b c : I) (old mid new : ℕ → Option ℕ) (taken then now : Option (List ℕ)) (p' : Phase) (s : StaysOpen gives p h a b old mid taken then p')
    (event : Event) (r : Reaction) (reply : Reply) (end : Option SessionEnd) (last : SessionEnd) → (next_of s.after).event ≡ Some event → r ≡ react p' event →
    Asked gives b c mid new r.deed reply end → Appends then now (reply_text reply) → end ≡ Some last →
    Closes gives p h a c old new taken now last
Closes-push gives p h a b c old mid new taken then now p' s event r reply end last heard e =
    subst (λ (r : Reaction). Asked gives b c mid new r.deed reply end → Appends then now (reply_text reply) → end ≡ Some last →
    Closes gives p h a c old new taken now last) (sym e)
    (λ asked sink some.
    let turn : Turn = record { event = event; moment = asked.moment; answer = asked.answer } in record {
      turns = s.turns;
      last = turn;
      phase' = p';
      after = s.after;
      goes = s.goes;
      on = s.on;
      event = heard;
      ends = sym asked.is_end ∙ some;
      did = Did-push gives p h s.turns p' s.after turn a b c old mid new taken then now s.goes s.did asked.steps asked.clock
          (subst (λ (x : Reply). Appends then now (reply_text x)) asked.is_reply sink);
    })

-- one more turn, whose reply is due
pub Begins-push : {I : Type 0} (gives : I → IntakeStep → I → Type 0) (p : Phase) (h : Held) (a b c : I) (old mid new : ℕ → Option ℕ) (taken now : Option (List ℕ)) (p' : Phase) (s : StaysOpen gives p h a b old mid taken now p')
    (event : Event) (r : Reaction) (reply : Reply) (end : Option SessionEnd) → (next_of s.after).event ≡ Some event → r ≡ react p' event →
    Asked gives b c mid new r.deed reply end → (begun : Begins gives p h a c old new taken now) × (begun.due ≡ reply_text reply)
Begins-push gives p h a b c old mid new taken now p' s event r reply end heard e =
    subst (λ (r : Reaction). Asked gives b c mid new r.deed reply end → (begun : Begins gives p h a c old new taken now) × (begun.due ≡ reply_text reply)) (sym e)
    (λ asked. (
      record {
        turns = s.turns;
        last = record { event = event; moment = asked.moment; answer = asked.answer };
        phase' = p';
        after = s.after;
        goes = s.goes;
        on = s.on;
        event = heard;
        between = b;
        then = mid;
        did = s.did;
        steps = asked.steps;
        clock = asked.clock;
        due = reply_text reply;
        is_due = ap reply_text asked.is_reply;
      },
      refl,
    ))

-- Nothing more was taken: the turns are the same.
Did-sink : {I : Type 0} (gives : I → IntakeStep → I → Type 0) (p : Phase) (ts : List Turn) (a b : I) (old new : ℕ → Option ℕ) (taken then now : Option (List ℕ)) →
    Appends then now [] → Did gives p ts a b old new taken then → Did gives p ts a b old new taken now
Did-sink gives p ts a b old new taken then now none d = record {
  steps = d.steps;
  clock = d.clock;
  sink = Appends-twice taken then now (said p ts) [] (said p ts) (append-nil (said p ts)) d.sink none;
}

pub Begins-sink : {I : Type 0} (gives : I → IntakeStep → I → Type 0) (p : Phase) (h : Held) (a b : I) (old new : ℕ → Option ℕ) (taken then now : Option (List ℕ)) →
    Appends then now [] → Begins gives p h a b old new taken then → Begins gives p h a b old new taken now
Begins-sink gives p h a b old new taken then now none s = record {
  turns = s.turns;
  last = s.last;
  phase' = s.phase';
  after = s.after;
  goes = s.goes;
  on = s.on;
  event = s.event;
  between = s.between;
  then = s.then;
  did = Did-sink gives p s.turns a s.between old s.then taken then now none s.did;
  steps = s.steps;
  clock = s.clock;
  due = s.due;
  is_due = s.is_due;
}

-- a piece came behind
StaysOpen-fed : {I : Type 0} (gives : I → IntakeStep → I → Type 0) (p : Phase) (h : Held) (a b : I) (old new : ℕ → Option ℕ) (taken now : Option (List ℕ)) (p' : Phase) (s : StaysOpen gives p h a b old new taken now p') (text : List ℕ) →
    (t : StaysOpen gives p (fed h text) a b old new taken now p') × (t.after ≡ fed s.after text)
StaysOpen-fed gives p h a b old new taken now p' s text = (record { turns = s.turns; after = fed s.after text; goes = Goes-fed p h s.turns p' s.after text s.goes; on = s.on; did = s.did }, refl)

pub StaysOpen-cut : {I : Type 0} (gives : I → IntakeStep → I → Type 0) (p : Phase) (text : List ℕ) (a b : I) (old new : ℕ → Option ℕ) (taken now : Option (List ℕ)) (p' : Phase) (s : StaysOpen gives p (fed nothing text) a b old new taken now p') (piece : List ℕ) →
    (t : StaysOpen gives p (fed nothing (text ++ piece)) a b old new taken now p') × (t.after ≡ fed s.after piece)
StaysOpen-cut gives p text a b old new taken now p' s piece =
    subst (λ (h : Held). (t : StaysOpen gives p h a b old new taken now p') × (t.after ≡ fed s.after piece)) (cut-twice nothing text piece)
    (StaysOpen-fed gives p (fed nothing text) a b old new taken now p' s piece)

fed-nothing : fed nothing [] ≡ nothing
unfolding lines_of
fed-nothing = refl

-- no turn yet
pub StaysOpen-start : {I : Type 0} (gives : I → IntakeStep → I → Type 0) (a : I) (clock : ℕ → Option ℕ) (taken : Option (List ℕ)) → StaysOpen gives phases.New (fed nothing []) a a clock clock taken taken phases.New
StaysOpen-start gives a clock taken = record { turns = []; after = fed nothing []; goes = (refl, refl); on = tt; did = Did-none gives phases.New a clock taken }

pub SoFar-start : {I : Type 0} (gives : I → IntakeStep → I → Type 0) (a : I) (clock : ℕ → Option ℕ) (taken left : Option (List ℕ)) (d : Dialog) →
    Holds d nothing → SoFar gives a a clock clock taken taken left left d phases.New 2147483648
SoFar-start gives a clock taken left d holds = record {
  text = [];
  took = Consumes-nothing left;
  stays = record { turns = []; after = fed nothing []; goes = (refl, refl); on = tt; did = Did-none gives phases.New a clock taken };
  none = ap (λ (h : Held). (next_of h).event) fed-nothing;
  holds = subst (λ (h : Held). Holds d h) (sym fed-nothing) holds;
  long = omega arith;
}

-- A reply that wasn't written halts the turns.
pub halted : {I : Type 0} (gives : I → IntakeStep → I → Type 0) (p : Phase) (h : Held) (a b : I) (old new : ℕ → Option ℕ) (taken then now : Option (List ℕ)) (d : Dialog) (halt : Halt) (text : List ℕ) →
    (begun : Begins gives p h a b old new taken then) → begun.due ≡ text → Unsaid then now text halt → Drains gives p h a b old new taken now d (drained.Halted halt)
halted gives p h a b old new taken then now d halts.NoMemory text begun due unsaid = inr (Begins-sink gives p h a b old new taken then now unsaid begun)
halted gives p h a b old new taken then now d halts.SinkFault text begun due unsaid = (then, begun, subst (λ (t : List ℕ). AppendsPrefix then now t) (sym due) unsaid)
