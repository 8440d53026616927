-- What an end says of a worker's calls, turn by turn.
use Rattle.std.proofs.Common.{◌≡◌, ℕ, zero, suc, ◌+◌, ◌≤◌, false, List, [], ◌∷◌, ◌++◌, map, cond, ◌||◌, Some, None, Result, Ok, Err, ap, sym, ◌∙◌, refl, subst, inl, inr, append_assoc, arith}
use Rattle.std.proofs.lemmas.List.{map-append}
use Rattle.std.proofs.lemmas.List.Folds.{list_any-append}
use Rattle.std.proofs.lemmas.List.Sums.{sum_by-append}
use Rattle.std.proofs.lemmas.Grind.{flat_map-append}
use Rattle.mail_plan.specs.Means.{Made}
use Rattle.mail_plan.specs.declared.outcome.Task.{Task}
use Rattle.hub_calls.specs.declared.bench.BenchStep.{BenchStep}
use Rattle.hub_calls.specs.declared.bench.BenchStep.TheVariants as steps
use Rattle.hub_calls.specs.declared.bench.Taking.{Taking}
use Rattle.hub_calls.specs.declared.bench.Taking.TheVariants as takings
use Rattle.hub_calls.specs.declared.commit_end.CommitEnd.{CommitEnd}
use Rattle.hub_calls.specs.declared.fault.HubFault.{HubFault}
use Rattle.hub_calls.specs.declared.fault.HubFault.TheVariants as faults
use Rattle.worker_pool.specs.declared.working.WorkerEnd.{WorkerEnd}
use Rattle.worker_pool.specs.declared.working.WorkerEnd.TheVariants as ends
use Rattle.worker_pool.specs.Ends.{is_take, is_stop, task_in, plan_in, refusal_in, takes_in, stops_in, tasks_in, plans_in, refusals_in, AllDone, AllButLast, IsFaulted, Says}
use Rattle.worker_pool.specs.Working.{end_by, IsDone, Follows, IsWork}

-- a turn that brought no end
record IsPlain {T Org : Type 0} (planned : Task T Org → Made Org) (made : List (BenchStep T Org)) : Type 0 where
  pub takes : takes_in made ≡ 1
  pub stops : stops_in made ≡ false
  pub refusals : refusals_in made ≡ []
  pub done : AllDone planned made

plain_commit : {T Org : Type 0} (planned : Task T Org → Made Org) (residue workers : ℕ) (task : Task T Org) (behind : List (BenchStep T Org)) (answer : Result CommitEnd HubFault)
    → behind ≡ steps.Commit (planned task) answer ∷ [] → None ≡ end_by answer → IsPlain planned (steps.Take residue workers (Ok (takings.Task task)) ∷ behind)
plain_commit planned residue workers task behind (Ok end) is none =
    subst (λ made. IsPlain planned (steps.Take residue workers (Ok (takings.Task task)) ∷ made)) (sym is) (record { takes = refl; stops = refl; refusals = refl; done = refl })
plain_commit planned residue workers task behind (Err fault) is none = absurd (cc none)

plain_task : {T Org : Type 0} (planned : Task T Org → Made Org) (residue workers : ℕ) (task : Task T Org) (behind : List (BenchStep T Org))
    → IsDone (planned task) behind None → IsPlain planned (steps.Take residue workers (Ok (takings.Task task)) ∷ behind)
plain_task planned residue workers task behind (inl h) = absurd (cc (h.1))
plain_task planned residue workers task behind (inr h) = plain_commit planned residue workers task behind h.0 h.1 h.2

plain_turn : {T Org : Type 0} (planned : Task T Org → Made Org) (residue workers : ℕ) (taken : Result (Taking T Org) HubFault) (behind : List (BenchStep T Org))
    → Follows planned taken behind None → IsPlain planned (steps.Take residue workers taken ∷ behind)
plain_turn planned residue workers (Ok (takings.Task task)) behind h = plain_task planned residue workers task behind h
plain_turn planned residue workers (Ok takings.Nothing) behind h =
    subst (λ made. IsPlain planned (steps.Take residue workers (Ok takings.Nothing) ∷ made)) (sym h.0) (record { takes = refl; stops = refl; refusals = refl; done = refl })
plain_turn planned residue workers (Ok takings.Stopped) behind h = absurd (cc (h.1))
plain_turn planned residue workers (Err fault) behind h = absurd (cc (h.1))

-- what an end says, with so many turns given, where these are their takes
abbrev pub IsSaid : {T Org : Type 0} → (Task T Org → Made Org) → ℕ → List (BenchStep T Org) → WorkerEnd → Type 0
IsSaid planned turns made end = (takes_in made ≤ turns) × Says planned turns made end

module _ {T Org : Type 0} (planned : Task T Org → Made Org) (residue workers left : ℕ) where
  said_at : (taken : Result (Taking T Org) HubFault) (behind behind' : List (BenchStep T Org)) (end end' : WorkerEnd) → behind ≡ behind' → end ≡ end'
      → IsSaid planned (suc left) (steps.Take residue workers taken ∷ behind') end' → IsSaid planned (suc left) (steps.Take residue workers taken ∷ behind) end
  said_at taken behind behind' end end' same ends h =
      subst (λ made. IsSaid planned (suc left) (steps.Take residue workers taken ∷ made) end) (sym same)
      (subst (λ e. IsSaid planned (suc left) (steps.Take residue workers taken ∷ behind') e) (sym ends) h)

  one_take : 1 ≤ suc left
  one_take = omega arith

  last_commit : (task : Task T Org) (behind : List (BenchStep T Org)) (end : WorkerEnd) (answer : Result CommitEnd HubFault)
      → behind ≡ steps.Commit (planned task) answer ∷ [] → Some end ≡ end_by answer → IsSaid planned (suc left) (steps.Take residue workers (Ok (takings.Task task)) ∷ behind) end
  last_commit task behind end (Ok ended) is some = absurd (cc some)
  last_commit task behind end (Err fault) is some =
      said_at (Ok (takings.Task task)) behind (steps.Commit (planned task) (Err fault) ∷ []) end (ends.Fault fault) is (cc some) (one_take, (refl, inl (refl, refl)))

  last_task : (task : Task T Org) (behind : List (BenchStep T Org)) (end : WorkerEnd)
      → IsDone (planned task) behind (Some end) → IsSaid planned (suc left) (steps.Take residue workers (Ok (takings.Task task)) ∷ behind) end
  last_task task behind end (inl h) =
      said_at (Ok (takings.Task task)) behind [] end (ends.Fault faults.NoMemory) h.0 (cc (h.1)) (one_take, (refl, inr (refl, refl, (task, refl))))
  last_task task behind end (inr h) = last_commit task behind end h.0 h.1 h.2

  last_turn : (taken : Result (Taking T Org) HubFault) (behind : List (BenchStep T Org)) (end : WorkerEnd)
      → Follows planned taken behind (Some end) → IsSaid planned (suc left) (steps.Take residue workers taken ∷ behind) end
  last_turn (Ok (takings.Task task)) behind end h = last_task task behind end h
  last_turn (Ok takings.Nothing) behind end h = absurd (cc (h.1))
  last_turn (Ok takings.Stopped) behind end h = said_at (Ok takings.Stopped) behind [] end ends.Stopped h.0 (cc (h.1)) (one_take, (refl, refl, refl))
  last_turn (Err fault) behind end h = said_at (Err fault) behind [] end (ends.Fault fault) h.0 (cc (h.1)) (one_take, (refl, inl (refl, refl)))

-- a turn that brought no end, and what is said of the calls behind it
module _ {T Org : Type 0} (planned : Task T Org → Made Org) (turn behind : List (BenchStep T Org)) (plain : IsPlain planned turn) where
  takes_on : takes_in (turn ++ behind) ≡ 1 + takes_in behind
  takes_on = sum_by-append (λ (s : BenchStep T Org). cond (is_take s) 1 0) turn behind ∙ ap (λ n. n + takes_in behind) plain.takes

  stops_on : stops_in (turn ++ behind) ≡ stops_in behind
  stops_on = list_any-append is_stop turn behind ∙ ap (λ b. b || stops_in behind) plain.stops

  refusals_on : refusals_in (turn ++ behind) ≡ refusals_in behind
  refusals_on = flat_map-append refusal_in turn behind ∙ ap (λ l. l ++ refusals_in behind) plain.refusals

  plans_on : plans_in (turn ++ behind) ≡ map planned (tasks_in turn) ++ plans_in behind
  plans_on = flat_map-append plan_in turn behind ∙ ap (λ l. l ++ plans_in behind) plain.done

  tasks_on : map planned (tasks_in (turn ++ behind)) ≡ map planned (tasks_in turn) ++ map planned (tasks_in behind)
  tasks_on = ap (map planned) (flat_map-append task_in turn behind) ∙ map-append planned (tasks_in turn) (tasks_in behind)

  done_on : AllDone planned behind → AllDone planned (turn ++ behind)
  done_on done = plans_on ∙ (ap (λ l. map planned (tasks_in turn) ++ l) done ∙ sym tasks_on)

  left_on : AllButLast planned behind → AllButLast planned (turn ++ behind)
  left_on h = (
    h.0,
    ap (λ l. l ++ planned h.0 ∷ []) plans_on ∙ (append_assoc (map planned (tasks_in turn)) (plans_in behind) (planned h.0 ∷ []) ∙ (ap (λ l. map planned (tasks_in turn) ++ l) h.1 ∙ sym tasks_on)),
  )

  faulted_on : (fault : HubFault) → IsFaulted planned behind fault → IsFaulted planned (turn ++ behind) fault
  faulted_on fault (inl h) = inl (refusals_on ∙ h.0, done_on h.1)
  faulted_on fault (inr h) = inr (h.0, refusals_on ∙ h.1, left_on h.2)

  said_on : (left : ℕ) (end : WorkerEnd) → IsSaid planned left behind end → IsSaid planned (suc left) (turn ++ behind) end
  said_on left ends.Stopped h = (rw takes_on (omega arith), (stops_on ∙ h.1.0, refusals_on ∙ h.1.1, done_on h.1.2))
  said_on left ends.Spent h = (rw takes_on (omega arith), (takes_on ∙ omega arith, stops_on ∙ h.1.1, refusals_on ∙ h.1.2, done_on h.1.3))
  said_on left (ends.Fault fault) h = (rw takes_on (omega arith), (stops_on ∙ h.1.0, faulted_on fault h.1.1))

-- of all turns
pub work_says : {T Org : Type 0} (planned : Task T Org → Made Org) (residue workers turns : ℕ) (made : List (BenchStep T Org)) (end : WorkerEnd)
    → IsWork planned residue workers turns made end → IsSaid planned turns made end
work_says planned residue workers zero made end h =
    subst (λ m. IsSaid planned 0 m end) (sym h.0) (subst (λ e. IsSaid planned 0 [] e) (sym h.1) (omega arith, (refl, refl, refl, refl)))
work_says planned residue workers (suc turns) made end (inl h) =
    subst (λ m. IsSaid planned (suc turns) m end) (sym h.2) (last_turn planned residue workers turns h.0 h.1 end h.3)
work_says planned residue workers (suc turns) made end (inr h) =
    let plain = subst (IsPlain planned) (sym h.3.2) (plain_turn planned residue workers h.3.0 h.3.1 h.3.3) in
    let behind = work_says planned residue workers turns h.1 end h.4 in
    subst (λ m. IsSaid planned (suc turns) m end) (sym h.2) (said_on planned h.0 h.1 plain turns end behind)
