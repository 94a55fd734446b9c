use Rattle.std.proofs.Common.{◌+◌, List, drop, sym, ap, ◌∙◌}
use Rattle.std.proofs.lemmas.Result.{err_from_is_err_and}
use Rattle.launch_keeper.specs.Words.{Word}
use Rattle.launch_plan.specs.Sets.{each_set}
use Rattle.launch_plan.proofs.Lists.{shown, shown_more, shown_all}
use Rattle.launch_plan.proofs.SetLoop.{with_front, each_goes_on, each_ends, each_is_done}
use Rattle.launch_plan.proofs.sets.each_set.Goals as goal

pub returns-in_err-set : goal.returns-in_err-set
returns-in_err-set c =
    let p = err_from_is_err_and c.from_residual.result c.from_residual.ensures.1 in
    let front = c.loop-line.sets.items in
    let i = c.loop-line.line-index in
    let here = shown_more c.args.lines.now i c.line-item.result c.loop-line-test.true c.line-item.is in
    rw (p.1, p.2) (each_ends c.in_err-set.field-0.0 front c.line-item.result.now (shown (drop (i + 1) c.args.lines.now))
    (each_set (shown c.args.lines.now)) c.requires c.in_err-set.ensures
    (ap (λ (ls : List (List Word)). with_front front (each_set ls)) (sym here) ∙ c.loop-line.invariant))

pub loop-line-preserved : goal.loop-line-preserved
loop-line-preserved c =
    let front = c.loop-line.sets.items in
    let i = c.loop-line.line-index in
    let here = shown_more c.args.lines.now i c.line-item.result c.loop-line-test.true c.line-item.is in
    rw c.in_ok-push.ensures.items
    (each_goes_on front c.line-item.result.now (shown (drop (i + 1) c.args.lines.now)) c.in_ok-set.set
    (each_set (shown c.args.lines.now)) c.in_ok-set.ensures
    (ap (λ (ls : List (List Word)). with_front front (each_set ls)) (sym here) ∙ c.loop-line.invariant))

pub returns : goal.returns
returns c =
    let front = c.loop-line.sets.items in
    let nothing = shown_all c.args.lines.now c.loop-line.line-index c.loop-line-test.false in
    each_is_done front (each_set (shown c.args.lines.now))
    (ap (λ (ls : List (List Word)). with_front front (each_set ls)) (sym nothing) ∙ c.loop-line.invariant)
