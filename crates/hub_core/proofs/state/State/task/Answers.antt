use Rattle.std.proofs.Common.{sym, ◌∙◌}
use Rattle.std.specs.Arc.{arc_value}
use Rattle.mail_plan.specs.declared.outcome.Task.{Task}
use Rattle.hub_core.specs.Setup.{texts_of}
use Rattle.hub_core.proofs.Tasks.{first-task-named}
use Rattle.hub_core.proofs.state.State.task.Goals as goal

pub returns-in-Some-clause-first : goal.returns-in-Some-clause-first
returns-in-Some-clause-first g c =
    first-task-named (λ (t : Task g.row.T.Denot g.row.T-Org.Denot). t.input)
    (λ (t : Task g.row.T.Denot g.row.T-Org.Denot). texts_of g.T.Planner.means (arc_value t.org))
    c.args.self.now c.in-Some.name c.args.residue c.args.workers c.task_of.result (sym c.first_task.ensures ∙ c.in-Some.is) c.task_of.ensures.waits
    c.task_of.ensures.release c.task_of.ensures.made
