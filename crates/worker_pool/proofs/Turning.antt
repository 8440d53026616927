-- What a worker does, step by step.
use Rattle.std.proofs.Common.{◌≡◌, ℕ, suc, List, [], ◌∷◌, ◌++◌, Option, Some, None, Result, Ok, Err, ap, sym, refl, subst, inl, inr, append-nil, append_assoc}
use Rattle.std.proofs.lemmas.Grind.{flat_map-append}
use Rattle.mail_plan.specs.Means.{Made}
use Rattle.mail_plan.specs.declared.outcome.Task.{Task}
use Rattle.hub_calls.specs.Benches.{Leads}
use Rattle.hub_calls.specs.declared.bench.BenchStep.{BenchStep}
use Rattle.hub_calls.specs.declared.bench.BenchStep.TheVariants as steps
use Rattle.hub_calls.specs.declared.bench.Taking.{Taking}
use Rattle.hub_calls.specs.declared.bench.Taking.TheVariants as takings
use Rattle.hub_calls.specs.declared.commit_end.CommitEnd.{CommitEnd}
use Rattle.hub_calls.specs.declared.fault.HubFault.{HubFault}
use Rattle.worker_pool.specs.declared.gate.GateStep.{GateStep}
use Rattle.worker_pool.specs.declared.gate.GateStep.TheVariants as gates
use Rattle.worker_pool.specs.declared.working.WorkerEnd.{WorkerEnd}
use Rattle.worker_pool.specs.declared.working.WorkerEnd.TheVariants as ends
use Rattle.worker_pool.specs.Working.{name_of, told_by, gate_steps, end_by, IsDone, Follows, IsWork, HasTurned, HasWorked, HasDone}

-- one chain of steps behind another
pub leads_on : {B S : Type 0} (gives : B → S → B → Type 0) (a b c : B) (xs ys : List S) → Leads gives a xs b → Leads gives b ys c → Leads gives a (xs ++ ys) c
leads_on gives a b c [] ys same h = subst (λ x. Leads gives x ys c) (sym same) h
leads_on gives a b c (x ∷ xs) ys g h = (g.0, g.1, leads_on gives g.0 b c xs ys g.2 h)

module _ {T Org B : Type 0} (bench : B → BenchStep T Org → B → Type 0) (planned : Task T Org → Made Org) where
  -- a plan was committed
  pub committed : (task : Task T Org) (plan : Made Org) (answer : Result CommitEnd HubFault) (b b' : B) → plan ≡ planned task
      → bench b (steps.Commit plan answer) b' → HasDone bench planned task b b' (end_by answer)
  committed task plan answer b b' is h = record {
    made = steps.Commit plan answer ∷ [];
    at_bench = (b', h, refl);
    is_done = inr (answer, ap (λ p. steps.Commit p answer ∷ []) is, refl);
  }

-- behind what was taken the gate is told nothing
silent : {T Org : Type 0} (plan : Made Org) (made : List (BenchStep T Org)) (end : Option WorkerEnd) → IsDone plan made end → gate_steps made ≡ []
silent plan made end (inl none) = ap gate_steps none.0
silent plan made end (inr one) = ap gate_steps one.1

module _ {T Org B G : Type 0} (bench : B → BenchStep T Org → B → Type 0) (gate : G → GateStep → G → Type 0) (planned : Task T Org → Made Org) (residue workers : ℕ) where
  -- a turn: something was taken, the gate was told of it, and what follows tells the gate nothing
  turned : (taken : Result (Taking T Org) HubFault) (behind : List (BenchStep T Org)) (end : Option WorkerEnd) (b b1 b' : B) (g g' : G)
      → bench b (steps.Take residue workers taken) b1 → Leads bench b1 behind b' → Leads gate g (told_by (steps.Take residue workers taken)) g'
      → gate_steps behind ≡ [] → Follows planned taken behind end → HasTurned bench gate planned residue workers b b' g g' end
  turned taken behind end b b1 b' g g' took more told none follows = record {
    made = steps.Take residue workers taken ∷ behind;
    at_bench = (b1, took, more);
    at_gate = rw none (rw append-nil told);
    is_turn = (taken, behind, refl, follows);
  }

  pub took_task : (task : Task T Org) (end : Option WorkerEnd) (b b1 b' : B) (g g' : G) → bench b (steps.Take residue workers (Ok (takings.Task task))) b1
      → HasDone bench planned task b1 b' end → gate g (gates.Pass (name_of task.input)) g' → HasTurned bench gate planned residue workers b b' g g' end
  took_task task end b b1 b' g g' took done passed =
      turned (Ok (takings.Task task)) done.made end b b1 b' g g' took done.at_bench (g', passed, refl) (silent (planned task) done.made end done.is_done) done.is_done

  pub took_nothing : (b b' : B) (g g' : G) → bench b (steps.Take residue workers (Ok takings.Nothing)) b' → gate g gates.Idle g'
      → HasTurned bench gate planned residue workers b b' g g' None
  took_nothing b b' g g' took idled = turned (Ok takings.Nothing) [] None b b' b' g g' took refl (g', idled, refl) refl (refl, refl)

  pub took_stop : (b b' : B) (g : G) → bench b (steps.Take residue workers (Ok takings.Stopped)) b'
      → HasTurned bench gate planned residue workers b b' g g (Some ends.Stopped)
  took_stop b b' g took = turned (Ok takings.Stopped) [] (Some ends.Stopped) b b' b' g g took refl refl refl (refl, refl)

  pub took_fault : (fault : HubFault) (b b' : B) (g : G) → bench b (steps.Take residue workers (Err fault)) b'
      → HasTurned bench gate planned residue workers b b' g g (Some (ends.Fault fault))
  took_fault fault b b' g took = turned (Err fault) [] (Some (ends.Fault fault)) b b' b' g g took refl refl refl (refl, refl)

  -- turns were made, with so many left, and what is made in those follows on them
  pub record HasComeTo (turns left : ℕ) (b b' : B) (g g' : G) : Type 0 where
    pub made : List (BenchStep T Org)
    pub at_bench : Leads bench b made b'
    pub at_gate : Leads gate g (gate_steps made) g'
    pub goes_on : (behind : List (BenchStep T Org)) (end : WorkerEnd) → IsWork planned residue workers left behind end → IsWork planned residue workers turns (made ++ behind) end

  pub at_first : (turns : ℕ) (b : B) (g : G) → HasComeTo turns turns b b g g
  at_first turns b g = record { made = []; at_bench = refl; at_gate = refl; goes_on = λ behind end h. h }

  -- the gate's steps behind more steps
  gate_on : (xs ys : List (BenchStep T Org)) (g g1 g' : G) → Leads gate g (gate_steps xs) g1 → Leads gate g1 (gate_steps ys) g' → Leads gate g (gate_steps (xs ++ ys)) g'
  gate_on xs ys g g1 g' first behind = rw (flat_map-append (told_by {T = T} {Org = Org}) xs ys) (leads_on gate g g1 g' (gate_steps xs) (gate_steps ys) first behind)

  -- one turn more, which brings no end
  pub one_turn_more : (turns left : ℕ) (b b1 b' : B) (g g1 g' : G) → HasComeTo turns (suc left) b b1 g g1
      → HasTurned bench gate planned residue workers b1 b' g1 g' None → HasComeTo turns left b b' g g'
  one_turn_more turns left b b1 b' g g1 g' come turn = record {
    made = come.made ++ turn.made;
    at_bench = leads_on bench b b1 b' come.made turn.made come.at_bench turn.at_bench;
    at_gate = gate_on come.made turn.made g g1 g' come.at_gate turn.at_gate;
    goes_on = λ behind end h. rw append_assoc (come.goes_on (turn.made ++ behind) end (inr (turn.made, behind, refl, turn.is_turn, h)));
  }

  -- the last turn, which brings the end
  pub last_turn : (turns left : ℕ) (end : WorkerEnd) (b b1 b' : B) (g g1 g' : G) → HasComeTo turns (suc left) b b1 g g1
      → HasTurned bench gate planned residue workers b1 b' g1 g' (Some end) → HasWorked bench gate planned residue workers turns b b' g g' end
  last_turn turns left end b b1 b' g g1 g' come turn = record {
    made = come.made ++ turn.made;
    at_bench = leads_on bench b b1 b' come.made turn.made come.at_bench turn.at_bench;
    at_gate = gate_on come.made turn.made g g1 g' come.at_gate turn.at_gate;
    is_work = come.goes_on turn.made end (inl turn.is_turn);
  }

  -- all turns were made
  pub all_spent : (turns : ℕ) (b b' : B) (g g' : G) → HasComeTo turns 0 b b' g g' → HasWorked bench gate planned residue workers turns b b' g g' ends.Spent
  all_spent turns b b' g g' come = record {
    made = come.made;
    at_bench = come.at_bench;
    at_gate = come.at_gate;
    is_work = rw append-nil at (come.goes_on [] ends.Spent (refl, refl));
  }
