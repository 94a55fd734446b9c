-- The parts of a plan of the group's own rows.
use Rattle.std.proofs.Common.{List, subst, ◌∙◌}
use Rattle.context_agreement.specs.Splits.{IsSplitPlan}
use Rattle.context_agreement.specs.declared.split.SplitRow.{SplitRow}
use Rattle.collective_steps.proofs.Plans.{parts_hold}
use Rattle.collective_steps.proofs.split.plan_of.Goals as goal

pub returns-in-Ok-split_plan-clause-parts : goal.returns-in-Ok-split_plan-clause-parts
returns-in-Ok-split_plan-clause-parts c =
    parts_hold c.args.seat.now.own c.args.seat.now.inside.now c.args.seat.now.notes.now c.args.group.now
    c.in-Ok-split_plan.plan.items
    (subst (λ (rows : List SplitRow). IsSplitPlan rows c.in-Ok-split_plan.plan.items) (c.deref.ensures.value ∙
    c.in-Ok.ensures) c.in-Ok-split_plan.ensures.ok)
