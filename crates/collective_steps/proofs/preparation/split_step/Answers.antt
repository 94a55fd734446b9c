-- What is made is made of the plan.
use Rattle.std.proofs.Common.{◌≡◌, List, length, ap, ◌∙◌, subst}
use Rattle.collective_steps.specs.Steps.{IsLacking, IsSplit, Prepared, made_by, made_step}
use Rattle.context_agreement.specs.Parts.{SplitPart}
use Rattle.collective_steps.proofs.PreparationLaws.{lacks_split, ok_more, split_made}
use Rattle.collective_steps.proofs.preparation.split_step.Goals as goal

pub returns-in-Ok-made_by-clause-ok : goal.returns-in-Ok-made_by-clause-ok
returns-in-Ok-made_by-clause-ok c =
    let own = c.args.seat.now.own in
    let i = c.args.seat.now.inside.now in
    let h = c.args.contexts.now.state in
    let group = c.args.group.now in
    let notes = c.args.seat.now.notes.now in
    let plan = c.in-Ok.plan.items in
    let made = c.in-Ok-made_by.made.items in
    let are : made ≡ made_by h group 0 plan =
    c.in-Ok-made_by.ensures.ok ∙ ap (λ (parts : List SplitPart). made_by h group 0 parts) c.deref.ensures.value in
    ok_more c.made_step.result (λ (step : Prepared). step ≡
    made_step own i c.ranks.result.now c.deref-in-Ok-made_by.result.now) (IsSplit own i h group notes)
    (λ step is. split_made own i h group notes plan made c.in-Ok.ensures.plan are step
    (rw (c.ranks.ensures.ranks, c.deref-in-Ok-made_by.ensures.value) at is))
    c.made_step.ensures.ok

pub returns-clause-err : goal.returns-clause-err
returns-clause-err c =
    let h = c.args.contexts.now.state in
    lacks_split c.args.seat.now.own c.args.seat.now.inside.now h c.args.group.now c.args.seat.now.notes.now
    c.in-Ok.plan.items c.in-Ok.ensures.plan
    c.in-Err.refused
    (subst (λ (parts : List SplitPart). IsLacking h (length parts) c.in-Err.refused) c.deref.ensures.value
    c.in-Err.ensures.err)
