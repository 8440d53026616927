-- One step of a fold, and its edits.
use Rattle.std.proofs.Common.{◌≡◌, ℕ, ◌+◌, List, [], ◌∷◌, ◌++◌, Option, Some, None, sym, ◌∙◌, ap, append_assoc, append-nil}
use Rattle.mail_names.specs.declared.gate.Gate.{Gate}
use Rattle.rule_terms.specs.declared.action.Action.{Action}
use Rattle.rule_engine.specs.declared.edit.EditAt.{EditAt}
use Rattle.rule_engine.specs.declared.recipient.End.{End}
use Rattle.rule_engine.specs.declared.recipient.Progress.{Progress}
use Rattle.rule_engine.specs.Edits.{is_edit, edit_if, edits_then, action_edits}
use Rattle.rule_engine.specs.Fate.{Stage, stage, act, and_then, after_effect, after_actions}

pub went-on : (before : Stage) (new : Progress) (end : Option End) (next : Progress → Stage) → stage new end ≡ before → end ≡ None → and_then before next ≡ next new
went-on before new end next is none = ap (λ (s : Stage). and_then s next) (sym (sym (ap (λ (o : Option End). stage new o) none) ∙ is))

pub ended : (before : Stage) (new : Progress) (end : Option End) (last : End) (next : Progress → Stage) → stage new end ≡ before → end ≡ Some last → and_then before next ≡ stage new (Some last)
ended before new end last next is some = ap (λ (s : Stage). and_then s next) (sym (sym (ap (λ (o : Option End). stage new o) some) ∙ is))

pub edits-went-on : (before : Stage) (new : Progress) (end : Option End) (next : Progress → List EditAt) → stage new end ≡ before → end ≡ None → edits_then before next ≡ next new
edits-went-on before new end next is none = ap (λ (s : Stage). edits_then s next) (sym (sym (ap (λ (o : Option End). stage new o) none) ∙ is))

pub edits-ended : (before : Stage) (new : Progress) (end : Option End) (last : End) (next : Progress → List EditAt) → stage new end ≡ before → end ≡ Some last → edits_then before next ≡ []
edits-ended before new end last next is some = ap (λ (s : Stage). edits_then s next) (sym (sym (ap (λ (o : Option End). stage new o) some) ∙ is))

-- An action that ends the fold.
pub action-ends : (sender : Option (List ℕ)) (opened : List Gate) (rule : ℕ) (xs : List Action) (action : Action) (rest : List Action) (progress new : Progress) (end : Option End) (last : End) →
    xs ≡ action ∷ rest → stage new end ≡ after_effect sender opened rule (act action progress.message) progress → end ≡ Some last →
    stage new (Some last) ≡ after_actions sender opened rule xs progress
action-ends sender opened rule xs action rest progress new end last cut is some =
    sym (ended (after_effect sender opened rule (act action progress.message) progress) new end last (after_actions sender opened rule rest) is some)
    ∙ ap (λ (list : List Action). after_actions sender opened rule list progress) (sym cut)

pub action-goes-on : (sender : Option (List ℕ)) (opened : List Gate) (rule : ℕ) (xs : List Action) (action : Action) (rest : List Action) (progress new : Progress) (end : Option End) →
    xs ≡ action ∷ rest → stage new end ≡ after_effect sender opened rule (act action progress.message) progress → end ≡ None →
    after_actions sender opened rule rest new ≡ after_actions sender opened rule xs progress
action-goes-on sender opened rule xs action rest progress new end cut is none =
    sym (went-on (after_effect sender opened rule (act action progress.message) progress) new end (after_actions sender opened rule rest) is none)
    ∙ ap (λ (list : List Action). after_actions sender opened rule list progress) (sym cut)

-- The edits so far, where an action ends the fold.
pub edits-at-end : (sender : Option (List ℕ)) (opened : List Gate) (rule place : ℕ) (xs : List Action) (action : Action) (rest : List Action) (progress new : Progress) (end : Option End) (last : End) (before noted : List EditAt) →
    xs ≡ action ∷ rest → stage new end ≡ after_effect sender opened rule (act action progress.message) progress → end ≡ Some last →
    noted ≡ before ++ edit_if (is_edit action progress.message) rule place →
    noted ≡ before ++ action_edits sender opened rule place xs progress
edits-at-end sender opened rule place xs action rest progress new end last before noted cut is some notes =
    let one : List EditAt = edit_if (is_edit action progress.message) rule place in
    let none : edits_then (after_effect sender opened rule (act action progress.message) progress) (action_edits sender opened rule (place + 1) rest) ≡ [] =
    edits-ended (after_effect sender opened rule (act action progress.message) progress) new end last (action_edits sender opened rule (place + 1) rest) is some in
    notes ∙ ap (λ (list : List EditAt). before ++ list) (sym (append-nil one) ∙ ap (λ (list : List EditAt). one ++ list) (sym none)
    ∙ ap (λ (list : List Action). action_edits sender opened rule place list progress) (sym cut))

pub edits-later : (sender : Option (List ℕ)) (opened : List Gate) (rule place : ℕ) (xs : List Action) (action : Action) (rest : List Action) (progress new : Progress) (end : Option End) (before noted : List EditAt) →
    xs ≡ action ∷ rest → stage new end ≡ after_effect sender opened rule (act action progress.message) progress → end ≡ None →
    noted ≡ before ++ edit_if (is_edit action progress.message) rule place →
    noted ++ action_edits sender opened rule (place + 1) rest new ≡ before ++ action_edits sender opened rule place xs progress
edits-later sender opened rule place xs action rest progress new end before noted cut is none notes =
    let one : List EditAt = edit_if (is_edit action progress.message) rule place in
    let more : edits_then (after_effect sender opened rule (act action progress.message) progress) (action_edits sender opened rule (place + 1) rest)
    ≡ action_edits sender opened rule (place + 1) rest new =
    edits-went-on (after_effect sender opened rule (act action progress.message) progress) new end (action_edits sender opened rule (place + 1) rest) is none in
    ap (λ (list : List EditAt). list ++ action_edits sender opened rule (place + 1) rest new) notes
    ∙ append_assoc before one (action_edits sender opened rule (place + 1) rest new)
    ∙ ap (λ (list : List EditAt). before ++ list) (ap (λ (list : List EditAt). one ++ list) (sym more)
    ∙ ap (λ (list : List Action). action_edits sender opened rule place list progress) (sym cut))
