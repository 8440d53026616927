-- Routes by steps, as texts: the first step is told from those behind it.
use Rattle.std.proofs.Common.{◌≡◌, ℕ, true, false, List, [], ◌∷◌, ◌++◌, length, map, refl, ap, ◌∙◌, sym, arith, append_assoc, append-nil, length-append}
use Rattle.std.specs.Prelude.{codes}
use Rattle.std.specs.List.{flat_map, AllByRecursion}
use Rattle.mail_names.specs.Key.{IsKey}
use Rattle.mail_names.specs.Steps.{has_forward, is_forward}
use Rattle.mail_names.specs.declared.route.How.{How}
use Rattle.mail_names.specs.declared.route.How.TheVariants as hows
use Rattle.mail_names.specs.declared.route.Step.{Step}
use Rattle.journal_report.specs.Why.{hop, route_text, how_text, step_text, step_hop, steps_text}
use Rattle.journal_report.specs.Reading.{before_space, from_space, is_forwarded, behind_step}
use Rattle.journal_report.proofs.Above.{above, above-append, lower_bound, key_above, key_some}
use Rattle.journal_report.proofs.Cutting.{before_space_end, before_space_again, from_space_end, from_space_again}

abbrev pub Keys : List Step → Type 0
Keys steps = AllByRecursion (λ (s : Step). IsKey s.key) steps

-- what stands behind the key of the first step
abbrev pub behind_key : How → List Step → List ℕ
behind_key how others = how_text how ++ flat_map step_hop others

key-first : (s : Step) (others : List Step) → steps_text (s ∷ others) ≡ s.key ++ behind_key s.how others
key-first s others = append_assoc s.key (how_text s.how) (flat_map step_hop others)

pub first_key : (s : Step) (others : List Step) → IsKey s.key → before_space (steps_text (s ∷ others)) ≡ s.key
first_key s others is = ap before_space (key-first s others) ∙ by s.how others
  where
    by : (how : How) (others : List Step) → before_space (s.key ++ behind_key how others) ≡ s.key
    by hows.Expanded [] = ap before_space (append-nil s.key) ∙ before_space_end s.key (key_above s.key is)
    by hows.Expanded (t ∷ ts) = before_space_again s.key (62 ∷ 32 ∷ (step_text t ++ flat_map step_hop ts)) (key_above s.key is)
    by hows.Forwarded others = before_space_again s.key (codes "(forwarded)" ++ flat_map step_hop others) (key_above s.key is)

pub first_behind : (s : Step) (others : List Step) → IsKey s.key → from_space (steps_text (s ∷ others)) ≡ behind_key s.how others
first_behind s others is = ap from_space (key-first s others) ∙ by s.how others
  where
    by : (how : How) (others : List Step) → from_space (s.key ++ behind_key how others) ≡ behind_key how others
    by hows.Expanded [] = ap from_space (append-nil s.key) ∙ from_space_end s.key (key_above s.key is)
    by hows.Expanded (t ∷ ts) = from_space_again s.key (62 ∷ 32 ∷ (step_text t ++ flat_map step_hop ts)) (key_above s.key is)
    by hows.Forwarded others = from_space_again s.key (codes "(forwarded)" ++ flat_map step_hop others) (key_above s.key is)

pub told_how : (how : How) (others : List Step) → is_forwarded (behind_key how others) ≡ is_forward how
told_how hows.Expanded [] = refl
told_how hows.Expanded (t ∷ ts) = refl
told_how hows.Forwarded others = refl

pub told_behind : (how : How) (others : List Step) → behind_step how (behind_key how others) ≡ steps_text others
told_behind hows.Expanded [] = refl
told_behind hows.Expanded (t ∷ ts) = refl
told_behind hows.Forwarded [] = refl
told_behind hows.Forwarded (t ∷ ts) = refl

-- how mail went on is told by one test
pub same_how : (a b : How) → is_forward a ≡ is_forward b → a ≡ b
same_how hows.Expanded hows.Expanded e = refl
same_how hows.Forwarded hows.Forwarded e = refl
same_how hows.Expanded hows.Forwarded e = absurd (cc e)
same_how hows.Forwarded hows.Expanded e = absurd (cc e)

pub same_step : (a b : Step) → a.key ≡ b.key → a.how ≡ b.how → a ≡ b
same_step a b p q =
    ap (λ (k : List ℕ). let s : Step = record { key = k; how = a.how } in s) p
    ∙ ap (λ (h : How). let s : Step = record { key = b.key; how = h } in s) q

-- the first step of a route that isn't empty
pub record SomeStep (rest : List ℕ) (steps : List Step) : Type 0 where
  pub first : Step
  pub others : List Step
  pub is : steps ≡ first ∷ others
  pub key : IsKey first.key
  pub all : Keys others
  pub text : rest ≡ steps_text (first ∷ others)

pub some_step : (rest : List ℕ) (steps : List Step) → Keys steps → rest ≡ steps_text steps → (rest ≡ [] → ⊥) → SomeStep rest steps
some_step rest [] all e some = absurd (some e)
some_step rest (s ∷ steps) all e some = record { first = s; others = steps; is = refl; key = all.0; all = all.1; text = e }

no_steps : (s : Step) (others : List Step) → IsKey s.key → steps_text (s ∷ others) ≡ [] → ⊥
no_steps s others is e =
    let some = key_some s.key is in
    let sum = length-append s.key (behind_key s.how others) in
    let none : length (s.key ++ behind_key s.how others) ≡ 0 = ap length (sym (key-first s others) ∙ e) in absurd (omega arith)

same_cons : (x y : Step) (xs ys : List Step) → x ≡ y → xs ≡ ys → (x ∷ xs) ≡ (y ∷ ys)
same_cons x y xs ys p q = ap (λ (z : Step). z ∷ xs) p ∙ ap (λ (zs : List Step). y ∷ zs) q

-- the text of a route is no other route's
pub one_steps : (a b : List Step) → Keys a → Keys b → steps_text a ≡ steps_text b → a ≡ b
one_steps [] [] p q e = refl
one_steps [] (t ∷ ts) p q e = absurd (no_steps t ts q.0 (sym e))
one_steps (s ∷ ss) [] p q e = absurd (no_steps s ss p.0 e)
one_steps (s ∷ ss) (t ∷ ts) p q e =
    let key = sym (first_key s ss p.0) ∙ ap before_space e ∙ first_key t ts q.0 in
    let behind = sym (first_behind s ss p.0) ∙ ap from_space e ∙ first_behind t ts q.0 in
    let how = same_how s.how t.how (sym (told_how s.how ss) ∙ ap is_forwarded behind ∙ told_how t.how ts) in
    same_cons s t ss ts (same_step s t key how)
    (one_steps ss ts p.1 q.1 (sym (told_behind s.how ss) ∙ ap (behind_step s.how) behind ∙ ap (λ (h : How). behind_step h (behind_key t.how ts)) how ∙ told_behind t.how ts))

-- groups as steps
abbrev pub as_steps : List (List ℕ) → List Step
as_steps [] = []
as_steps (k ∷ keys) = record { key = k; how = hows.Expanded } ∷ as_steps keys

pub as-steps-keys : (keys : List (List ℕ)) → AllByRecursion IsKey keys → Keys (as_steps keys)
as-steps-keys [] all = tt
as-steps-keys (k ∷ keys) all = (all.0, as-steps-keys keys all.1)

pub as-steps-no_forward : (keys : List (List ℕ)) → has_forward (as_steps keys) ≡ false
as-steps-no_forward [] = refl
as-steps-no_forward (k ∷ keys) = as-steps-no_forward keys

pub keys-as_steps : (keys : List (List ℕ)) → map (λ (s : Step). s.key) (as_steps keys) ≡ keys
keys-as_steps [] = refl
keys-as_steps (k ∷ keys) = ap (λ (ks : List (List ℕ)). k ∷ ks) (keys-as_steps keys)

hops-as_steps : (keys : List (List ℕ)) → flat_map hop keys ≡ flat_map step_hop (as_steps keys)
hops-as_steps [] = refl
hops-as_steps (k ∷ keys) =
    ap (λ (t : List ℕ). (codes " > " ++ t) ++ flat_map hop keys) (sym (append-nil k))
    ∙ ap (λ (t : List ℕ). (codes " > " ++ (k ++ [])) ++ t) (hops-as_steps keys)

pub route-as_steps : (keys : List (List ℕ)) → route_text keys ≡ steps_text (as_steps keys)
route-as_steps [] = refl
route-as_steps (k ∷ keys) =
    ap (λ (t : List ℕ). t ++ flat_map hop keys) (sym (append-nil k)) ∙ ap (λ (t : List ℕ). (k ++ []) ++ t) (hops-as_steps keys)

-- no step has a control byte
how_above : (how : How) → above 32 (how_text how) ≡ true
how_above hows.Expanded = refl
how_above hows.Forwarded = refl

step_above : (s : Step) → IsKey s.key → above 32 (step_text s) ≡ true
step_above s is = above-append 32 s.key (how_text s.how) (lower_bound s.key (key_above s.key is)) (how_above s.how)

hops_above : (steps : List Step) → Keys steps → above 32 (flat_map step_hop steps) ≡ true
hops_above [] all = refl
hops_above (s ∷ steps) all =
    above-append 32 (step_hop s) (flat_map step_hop steps) (above-append 32 (codes " > ") (step_text s) refl (step_above s all.0)) (hops_above steps all.1)

pub steps_above : (steps : List Step) → Keys steps → above 32 (steps_text steps) ≡ true
steps_above [] all = refl
steps_above (s ∷ steps) all = above-append 32 (step_text s) (flat_map step_hop steps) (step_above s all.0) (hops_above steps all.1)
