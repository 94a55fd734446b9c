-- A copy gives one context.
use Rattle.std.proofs.Common.{◌≡◌, sym, subst, IfErr}
use Rattle.collective_steps.specs.Steps.{IsDecided, IsLacking, LacksFor, copy_step}
use Rattle.collective_messages.specs.declared.entry.Entry.{Entry}
use Rattle.collective_steps.proofs.PreparationLaws.{err_more, lacks_copy}
use Rattle.collective_steps.proofs.preparation.decision_step.Goals as goal

pub returns-in-Dup-clause-err : goal.returns-in-Dup-clause-err
returns-in-Dup-clause-err c =
    let own = c.args.seat.now.own in
    let i = c.args.seat.now.inside.now in
    let h = c.args.contexts.now.state in
    let ranks = c.args.group.now in
    subst (λ (e : Entry). IfErr c.copy_step.result (LacksFor h (IsDecided own i h ranks c.args.seat.now.notes.now e)))
    (sym c.in-Dup.is)
    (err_more c.copy_step.result (IsLacking h 1) (LacksFor h (λ step. step ≡ copy_step own i h ranks))
    (lacks_copy own i h ranks) c.copy_step.ensures.err)
