-- The text that says why a message goes to a target. It follows a key.
use Rattle.std.specs.Prelude.{ℕ, List, [], ◌∷◌, ◌++◌, codes, decimal}
use Rattle.std.specs.List.{flat_map}
use Rattle.mail_names.specs.declared.route.How.{How}
use Rattle.mail_names.specs.declared.route.How.TheVariants as hows
use Rattle.mail_names.specs.declared.route.Step.{Step}
use Rattle.journal_report.specs.declared.why.Why.{Why}
use Rattle.journal_report.specs.declared.why.Why.TheVariants as whys

-- a further group
abbrev pub hop : List ℕ → List ℕ
hop key = codes " > " ++ key

-- the groups from the root, with " > " between them
abbrev pub route_text : List (List ℕ) → List ℕ
route_text [] = []
route_text (root ∷ groups) = root ++ flat_map hop groups

-- what stands behind the key of a step
abbrev pub how_text : How → List ℕ
how_text hows.Expanded = []
how_text hows.Forwarded = codes " (forwarded)"

abbrev pub step_text : Step → List ℕ
step_text step = step.key ++ how_text step.how

-- a further step
abbrev pub step_hop : Step → List ℕ
step_hop step = codes " > " ++ step_text step

-- the steps from the root, with " > " between them
abbrev pub steps_text : List Step → List ℕ
steps_text [] = []
steps_text (root ∷ steps) = step_text root ++ flat_map step_hop steps

abbrev pub why_text : Why → List ℕ
why_text whys.Direct = []
why_text (whys.Via groups) = codes " via " ++ route_text groups
why_text (whys.Copied rule) = codes " copied by rule " ++ decimal rule
why_text (whys.Redirected rule) = codes " redirected by rule " ++ decimal rule
why_text (whys.Through steps) = codes " via " ++ steps_text steps
