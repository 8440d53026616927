-- No answer has a number with a point.
use Rattle.std.proofs.Common.{◌≡◌, false, List, [], ◌∷◌, map, refl}
use Rattle.serde_json.specs.Data.{Data, string}
use Rattle.serde_json.specs.View.{items_of}
use Rattle.serde_json.specs.Written.{has_float, items_have_float}
use Rattle.mail_names.specs.declared.name.ItemName.{ItemName}
use Rattle.hub_calls.specs.declared.views.QueueView.{QueueView}
use Rattle.hub_calls.specs.declared.views.ApprovalRow.{ApprovalRow}
use Rattle.hub_calls.specs.declared.views.EndRow.{EndRow}
use Rattle.http_answers.specs.Data.{task_data, waiting_data, approval_data, end_data, item_data, queue_data, approvals_data, ended_data, items_data}

no_floats : {A : Type 0} (f : A → Data) → ((a : A) → has_float (f a) ≡ false) → (xs : List A) → items_have_float (items_of (map f xs)) ≡ false
no_floats f h [] = refl
no_floats f h (x ∷ xs) = rw (h x) (no_floats f h xs)

pub queue-float : (view : QueueView) → has_float (queue_data view) ≡ false
queue-float view = rw (no_floats task_data (λ t. refl) view.tasks, no_floats waiting_data (λ r. refl) view.waiting) refl

approval-float : (row : ApprovalRow) → has_float (approval_data row) ≡ false
approval-float row = rw (no_floats string (λ k. refl) row.moderators) refl

pub approvals-float : (rows : List ApprovalRow) → has_float (approvals_data rows) ≡ false
approvals-float rows = rw (no_floats approval_data approval-float rows) refl

pub ended-float : (rows : List EndRow) → has_float (ended_data rows) ≡ false
ended-float rows = rw (no_floats end_data (λ r. refl) rows) refl

pub items-float : (names : List ItemName) → has_float (items_data names) ≡ false
items-float names = rw (no_floats item_data (λ n. refl) names) refl
