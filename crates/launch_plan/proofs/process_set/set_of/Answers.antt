use Rattle.std.proofs.lemmas.Result.{err_from_is_err_and}
use Rattle.launch_plan.proofs.JudgingLaws.{count_fault}
use Rattle.launch_plan.proofs.process_set.set_of.Goals as goal

pub returns-in_err-count : goal.returns-in_err-count
returns-in_err-count c =
    let p = err_from_is_err_and c.from_residual.result c.from_residual.ensures.1 in
    rw (p.1, p.2) (count_fault c.args.words.now c.in_err-count.field-0.0 c.in_err-count.ensures.exact)
