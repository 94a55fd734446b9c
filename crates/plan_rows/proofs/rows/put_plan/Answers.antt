-- The rows are those of the plan.
use Rattle.std.proofs.Common.{ℕ, List, Result, sym, ap, ◌∙◌, subst}
use Rattle.collective_plans.specs.declared.plan.Step.{Step}
use Rattle.plan_rows.specs.Rows.{IsPut, rows_told}
use Rattle.plan_rows.proofs.RowLoops.{put_gives}
use Rattle.plan_rows.proofs.rows.put_plan.Goals as goal

pub returns-clause-ok : goal.returns-clause-ok
returns-clause-ok c =
    subst (λ (m : Result (List Step) ℕ). IsPut m c.args.into.now c.put_rows.new.into c.put_rows.result)
    (sym c.in-Ok.ensures.ok)
    (put_gives c.in-Ok.plan.items c.as_slice-2.result.now c.args.into.now c.put_rows.new.into c.put_rows.result
    (c.as_slice-2.ensures.value ∙ c.in-Ok-rows_of.ensures
    ∙ ap (λ (ss : List Step). rows_told ss) c.as_slice.ensures.value)
    c.put_rows.ensures.count c.put_rows.ensures.put)
