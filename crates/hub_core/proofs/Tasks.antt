-- The first release that waits to be categorised is one, and its task has its name.
use Rattle.std.proofs.Common.{◌≡◌, ℕ, suc, ◌+◌, ◌-◌, Bool, true, false, cond, List, [], ◌∷◌, Option, Some, None, refl, ap, ◌∙◌, sym, arith}
use Rattle.std.specs.Prelude.{◌==◌, ◌%◌, is_some, option_map, slice_get, IfSome, Result, Ok, Err, IfOk}
use Rattle.std.specs.List.{position_from}
use Rattle.std.proofs.lemmas.Bool.{false≢true}
use Rattle.std.proofs.lemmas.Iterator.Adapters.{position_from-zero}
use Rattle.mail_plan.specs.Planning.{Input}
use Rattle.hub_core.specs.declared.live.TaskName.{TaskName}
use Rattle.hub_core.specs.Setup.{Texts}
use Rattle.hub_core.specs.Approvals.{Stage, stage_waits}
use Rattle.hub_core.specs.Mail.{LiveMail, waits_in, first_waiting, is_uncategorised, IsTask}
use Rattle.hub_core.specs.Standing.{Standing, mail_of, task_name, task_or, own_task, first_task}
use Rattle.hub_core.proofs.Judging.{mail-at}

none≢some : {X : Type 0} (x : X) → None ≡ Some x → ⊥
none≢some x e = cc

some_is : {X : Type 0} (a b : X) → Some a ≡ Some b → a ≡ b
some_is a b e = cc

-- a release that waits, so many behind the first of these
record Waiting (stages : List Stage) (first release : ℕ) : Type 0 where
  i : ℕ
  at : release ≡ first + i
  waits : waits_in (slice_get stages i) ≡ true

stage_found : (k release : ℕ) (stage : Stage) (stages : List Stage) (t : Bool) → stage_waits stage ≡ t →
    cond t (Some k) (position_from stage_waits (k + 1) stages) ≡ Some release →
    (position_from stage_waits (k + 1) stages ≡ Some release → Waiting stages (k + 1) release) → Waiting (stage ∷ stages) k release
stage_found k release stage stages true is e more = let same = some_is k release e in record { i = 0; at = omega (arith, same); waits = is }
stage_found k release stage stages false is e more =
    let later = more e in
    let at = later.at in
    record { i = suc (later.i); at = omega (arith, at); waits = later.waits }

waiting_from_place : (k release : ℕ) (stages : List Stage) → position_from stage_waits k stages ≡ Some release → Waiting stages k release
waiting_from_place k release [] e = absurd (none≢some release e)
waiting_from_place k release (stage ∷ stages) e = stage_found k release stage stages (stage_waits stage) refl e (waiting_from_place (k + 1) release stages)

waits_there : (mail : LiveMail) (release : ℕ) → first_waiting mail ≡ Some release → is_uncategorised (Some mail) release ≡ true
waits_there mail release e =
    let found = waiting_from_place 0 release mail.stages (sym (position_from-zero stage_waits mail.stages) ∙ e) in
    let at = found.at in
    ap (λ (r : ℕ). waits_in (slice_get mail.stages r)) (let same : release ≡ found.i = omega (arith, at) in same) ∙ found.waits

-- a submission with such a release, so many behind the first of these
record TaskAt (live : List LiveMail) (first : ℕ) (name : TaskName) : Type 0 where
  i : ℕ
  at : name.submission ≡ first + i
  waits : is_uncategorised (slice_get live i) name.release ≡ true

own_waits : (mail : LiveMail) (release : ℕ) (t : Bool) → cond t (first_waiting mail) None ≡ Some release → first_waiting mail ≡ Some release
own_waits mail release true e = e
own_waits mail release false e = absurd (none≢some release e)

task_found : (residue workers number : ℕ) (mail : LiveMail) (live : List LiveMail) (name : TaskName) (own : Option ℕ) → own_task residue workers number mail ≡ own →
    task_or number own (first_task residue workers (number + 1) live) ≡ Some name →
    (first_task residue workers (number + 1) live ≡ Some name → TaskAt live (number + 1) name) → TaskAt (mail ∷ live) number name
task_found residue workers number mail live name None is e more =
    let later = more e in
    let at = later.at in
    record { i = suc (later.i); at = omega (arith, at); waits = later.waits }
task_found residue workers number mail live name (Some release) is e more =
    let own : TaskName = record { submission = number; release = release } in
    let same : own ≡ name = some_is own name e in
    let at : number ≡ name.submission = ap (λ (n : TaskName). n.submission) same in
    record {
      i = 0;
      at = omega (arith, at);
      waits = ap (λ (n : TaskName). is_uncategorised (Some mail) n.release) (sym same) ∙ waits_there mail release (own_waits mail release ((number % workers) == residue) is);
    }

task_at : (residue workers number : ℕ) (live : List LiveMail) (name : TaskName) → first_task residue workers number live ≡ Some name → TaskAt live number name
task_at residue workers number [] name e = absurd (none≢some name e)
task_at residue workers number (mail ∷ live) name e =
    task_found residue workers number mail live name (own_task residue workers number mail) refl e (task_at residue workers (number + 1) live name)

pub first-waits : (residue workers : ℕ) (s : Standing) (name : TaskName) → first_task residue workers 1 s.live ≡ Some name →
    is_uncategorised (mail_of s name.submission) name.release ≡ true
first-waits residue workers s name e =
    let found = task_at residue workers 1 s.live name e in
    let at = found.at in
    ap (λ (mail : Option LiveMail). is_uncategorised mail name.release) (mail-at s name.submission (λ (zero : name.submission ≡ 0). omega (arith, at, zero)))
    ∙ ap (λ (place : ℕ). is_uncategorised (slice_get s.live place) name.release) (let same : name.submission - 1 ≡ found.i = omega (arith, at) in same)
    ∙ found.waits

module _ {K : Type 0} (input : K → Input) (texts : K → Texts) (s : Standing) (name : TaskName) where
  -- The task is that of a release of this name.
  abbrev pub Made : Option LiveMail → Option K → Type 0
  Made at task = IfSome task (λ (t : K). IfSome at (λ (mail : LiveMail). IsTask name.submission mail (input t) (texts t)))

  named_in : (at : Option LiveMail) (task : Option K) → is_some task ≡ is_uncategorised at name.release → is_uncategorised at name.release ≡ true →
      IfSome task (λ (t : K). (input t).release ≡ name.release) → Made at task → option_map (λ (t : K). task_name (input t)) task ≡ Some name
  named_in at None some waiting release made = absurd (false≢true (some ∙ waiting))
  named_in None (Some t) some waiting release made = absurd (false≢true waiting)
  named_in (Some mail) (Some t) some waiting release made =
      let number : (input t).number ≡ name.submission = ap (λ (i : Input). i.number) made.input in
      λ i. Some (record { submission = number i; release = release i })

  -- the task of the first release that waits
  first-named : (residue workers : ℕ) (task : Option K) → first_task residue workers 1 s.live ≡ Some name →
      is_some task ≡ is_uncategorised (mail_of s name.submission) name.release → IfSome task (λ (t : K). (input t).release ≡ name.release) →
      Made (mail_of s name.submission) task → option_map (λ (t : K). task_name (input t)) task ≡ first_task residue workers 1 s.live
  first-named residue workers task e some release made =
      named_in (mail_of s name.submission) task some (first-waits residue workers s name e) release made ∙ sym e

  pub first-task-named : {E : Type 0} (residue workers : ℕ) (r : Result (Option K) E) → first_task residue workers 1 s.live ≡ Some name →
      IfOk r (λ (task : Option K). is_some task ≡ is_uncategorised (mail_of s name.submission) name.release) →
      IfOk r (λ (task : Option K). IfSome task (λ (t : K). (input t).release ≡ name.release)) → IfOk r (Made (mail_of s name.submission)) →
      IfOk r (λ (task : Option K). option_map (λ (t : K). task_name (input t)) task ≡ first_task residue workers 1 s.live)
  first-task-named residue workers (Ok task) e some release made = first-named residue workers task e some release made
  first-task-named residue workers (Err fault) e some release made = tt
